use Rattle.std.proofs.Common.{◌≡◌, ◌-◌, length}
use Rattle.lists.specs.Rows.{SameLoan}
use Rattle.table.specs.Lent.{rows_in}
use Rattle.table.specs.Columns.{columns_of}
use Rattle.gathering.specs.Held.{held_of}
use Rattle.orders.specs.Order.{console_of}
use Rattle.console.specs.Parts.{before}
use Rattle.console.proofs.PartLaws.{Going}
use Rattle.console.proofs.feed.feed.Given as goal

abbrev pub invariant-loop-bytes : goal.invariant-loop-bytes
invariant-loop-bytes l =
    (length l.table.nums.now ≡ length l.initial.table.nums.now) × (length l.out ≡ length l.initial.out)
    × Going l.need
    (before (console_of l.initial.console (columns_of l.initial.names l.initial.keys l.initial.balances)) (held_of l.initial.bytes l.initial.mark)
    (rows_in l.initial.table))
    l.input l.initial.out (rows_in l.table) l.out (console_of l.console (columns_of l.names l.keys l.balances)) (held_of l.bytes l.mark) l.size l.at
    × SameLoan l.initial.table l.table

abbrev pub decreases-loop-bytes : goal.decreases-loop-bytes
decreases-loop-bytes l = length l.input - l.at
