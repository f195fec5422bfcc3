use Rattle.lists.specs.Rows.{SameLoan}
use Rattle.table.specs.Table.{Rows}
use Rattle.table.specs.Lent.{rows_in}
use Rattle.clearing.proofs.SweepLaws.{Kept}
use Rattle.clearing.proofs.sweeping.sweep.Given as goal

abbrev pub invariant-loop-i : goal.invariant-loop-i
invariant-loop-i l =
    let t₀ : Rows = rows_in l.initial.table in
    Kept l.clock l.day l.lines l.names l.keys t₀ l.initial.gate (rows_in l.table) l.gate l.i
    × SameLoan l.initial.table l.table
