use Rattle.std.proofs.Common.{◌≡◌}
use Rattle.lists.specs.Rows.{SameLoan}
use Rattle.table.specs.Table.{Rows}
use Rattle.table.specs.Lent.{rows_in}
use Rattle.records.specs.Copying.{filled, Sized}
use Rattle.records.proofs.to_rows.Given as goal

abbrev pub invariant-loop-i : goal.invariant-loop-i
invariant-loop-i l = (◌≡◌ {A = Rows} (rows_in l.table) (filled l.records l.i (rows_in l.initial.table))) × Sized (rows_in l.table) × SameLoan l.initial.table l.table
