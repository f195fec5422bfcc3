use mathlib.Core.Path.{◌≡◌}
use Rattle.book.specs.Entries.{entries_of}
use Rattle.book.specs.Lent.{entries_seen}
use Rattle.book_validity.specs.BookValid.{day_count}
use Rattle.book_validity.proofs.counts.count_day.Given as goal

abbrev pub invariant-loop-i : goal.invariant-loop-i
invariant-loop-i l = l.n ≡ day_count l.day (entries_of (entries_seen l.entries) l.i)
