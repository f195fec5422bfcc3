use mathlib.Core.Path.{◌≡◌}
use lib.ListN.{length}
use Rattle.table.specs.Columns.{columns_seen}
use Rattle.table.proofs.ColumnLaws.{Packed}
use Rattle.table.proofs.columns.pack.Given as goal

abbrev pub invariant-loop-i : goal.invariant-loop-i
invariant-loop-i l = (length l.accounts ≡ 256) × Packed l.accounts (columns_seen l.all) l.i
