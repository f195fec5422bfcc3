-- How contracts name the book's three lent slices as one value: what they hold at a call, before it (`old`) and after it (`new`).
use Rattle.std.specs.Prelude.{ℕ, List}
use Rattle.lists.specs.declared.rows.Rows.{Rows}
use Rattle.lists.specs.declared.rows.RowsView.{RowsView}
use Rattle.book.specs.Entries.{BookRows}

abbrev pub lent_book : List (List ℕ) → List (List ℕ) → List (List ℕ) → BookRows
lent_book nums numbers dates = record { nums = nums; numbers = numbers; dates = dates }

-- what a lent book holds, and what one that is lent to be read does
abbrev pub entries_in : Rows (List ℕ) (List ℕ) → BookRows
entries_in t = lent_book t.nums.now t.numbers.now t.dates.now

abbrev pub entries_seen : RowsView (List ℕ) (List ℕ) → BookRows
entries_seen t = lent_book t.nums.now t.numbers.now t.dates.now
