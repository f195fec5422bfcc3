use mathlib.Core.Path.{◌≡◌}
use lib.ListN.{drop}
use Rattle.lists.specs.Lists.{all_from}
use Rattle.table.specs.Table.{records_of, Whole}
use Rattle.table.specs.Lent.{rows_seen}
use Rattle.table.specs.Columns.{gate_of, columns_seen}
use Rattle.validity.specs.Valid.{record_good}
use Rattle.validity.proofs.valid.records_good.Given as goal

abbrev pub invariant-loop-i : goal.invariant-loop-i
invariant-loop-i l =
    (all_from (record_good (gate_of l.h (columns_seen l.accounts))) 0 (records_of (rows_seen l.table) l.i-end)
    ≡ all_from (record_good (gate_of l.h (columns_seen l.accounts))) l.i (drop l.i (records_of (rows_seen l.table) l.i-end)))
    × Whole (rows_seen l.table) l.i
