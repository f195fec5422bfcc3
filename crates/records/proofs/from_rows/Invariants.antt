use Rattle.std.proofs.Common.{◌≡◌}
use Rattle.table.specs.Lent.{rows_seen}
use Rattle.records.specs.Copying.{restored}
use Rattle.records.proofs.from_rows.Given as goal

abbrev pub invariant-loop-i : goal.invariant-loop-i
invariant-loop-i l = l.records ≡ restored l.initial.records l.i (rows_seen l.table)
