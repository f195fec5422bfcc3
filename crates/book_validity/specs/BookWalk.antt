-- How the check of a book counts: a slot for each day of the hundred years. Cited by inner contracts only: it needs no belief.
use Rattle.std.specs.Prelude.{ℕ, ◌+◌, ◌-◌, ◌*◌}
use Rattle.days.specs.declared.calendar.Day.{Day}

abbrev pub day_slot : Day → ℕ
day_slot d = (d.year - 2000) * 384 + d.month * 32 + d.day
