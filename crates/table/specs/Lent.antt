-- How contracts name the table's three lent slices as one value: what they hold at a call, before it (`old`) and after it (`new`).
use Rattle.std.specs.Prelude.{ℕ, List}
use Rattle.lists.specs.declared.rows.Rows.{Rows as LentRows}
use Rattle.lists.specs.declared.rows.RowsView.{RowsView}
use Rattle.table.specs.Table.{Rows}

abbrev pub lent : List (List ℕ) → List (List ℕ) → List (List (List ℕ)) → Rows
lent nums numbers dates = record { nums = nums; numbers = numbers; dates = dates }

-- what a lent table holds, and what one that is lent to be read does
abbrev pub rows_in : LentRows (List ℕ) (List (List ℕ)) → Rows
rows_in t = lent t.nums.now t.numbers.now t.dates.now

abbrev pub rows_seen : RowsView (List ℕ) (List (List ℕ)) → Rows
rows_seen t = lent t.nums.now t.numbers.now t.dates.now
