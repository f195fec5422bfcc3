-- The sum so far and that of what is left are the whole.
use Rattle.std.proofs.Common.{◌+◌, ◌*◌, ◌≡◌, ◌≤◌, drop}
use Rattle.dates.proofs.EmptyLaws.{total}
use Rattle.dates.proofs.date.is_empty.Given as goal

abbrev pub invariant-loop-b : goal.invariant-loop-b
invariant-loop-b l = record { bound : l.sum ≤ 255 * l.b-index; rest : total l.fn.d ≡ l.sum + total (drop l.b-index l.fn.d) }
