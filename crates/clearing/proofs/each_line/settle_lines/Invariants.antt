use Rattle.std.proofs.Common.{length}
use Rattle.lists.specs.Rows.{SameLoan}
use Rattle.table.specs.Table.{Rows}
use Rattle.table.specs.Lent.{rows_in}
use Rattle.posting.specs.Posting.{ledger_of}
use Rattle.clearing.specs.Clearing.{settle_lines}
use Rattle.clearing.proofs.LinesLaws.{Kept}
use Rattle.clearing.proofs.each_line.settle_lines.Given as goal

abbrev pub invariant-loop-x : goal.invariant-loop-x
invariant-loop-x l =
    let t₀ : Rows = rows_in l.initial.table in
    Kept l.clock l.lines l.names l.keys t₀ (settle_lines l.clock (length l.initial.table.nums.now) l.lines (ledger_of l.initial.gate t₀)) l.initial.heads l.initial.next (rows_in l.table) l.gate l.heads l.next l.x-index
    × SameLoan l.initial.table l.table
