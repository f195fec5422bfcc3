use Rattle.table.specs.Columns.{columns_of}
use Rattle.table.proofs.ColumnLaws.{Unpacked}
use Rattle.table.proofs.columns.unpack.Given as goal

abbrev pub invariant-loop-i : goal.invariant-loop-i
invariant-loop-i l = Unpacked (columns_of l.names l.keys l.balances) l.fn.g l.i
