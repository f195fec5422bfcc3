use Rattle.std.proofs.Common.{◌≡◌, length}
use Rattle.table.specs.Columns.{gate_of, columns_of}
use Rattle.figures.specs.Sums.{Summable}
use Rattle.session.proofs.feed_all.Given as goal

abbrev pub invariant-loop : goal.invariant-loop
invariant-loop l =
    (length l.table.nums.now ≡ length l.initial.table.nums.now) × (length l.out ≡ length l.initial.out) × Summable (gate_of l.session.console.head (columns_of l.names l.keys l.balances))
