use mathlib.Core.Path.{◌≡◌}
use Prim.Native.Nat.{◌-◌, ◌*◌, ◌^◌, ◌≤◌, ◌<◌}
use lib.ListN.{length}
use Rattle.table.specs.Columns.{gate_of, columns_of}
use Rattle.figures.specs.Sums.{Summable}
use Rattle.session.proofs.feed_read.Given as goal

abbrev pub invariant-loop-at : goal.invariant-loop-at
invariant-loop-at l =
    (length l.table.nums.now ≡ length l.initial.table.nums.now) × (length l.out ≡ length l.initial.out)
    × Summable (gate_of l.session.console.head (columns_of l.names l.keys l.balances)) × (l.at ≤ length l.input) × (length l.input * 1 < 2 ^ 63)

abbrev pub decreases-loop-at : goal.decreases-loop-at
decreases-loop-at l = length l.input - l.at
