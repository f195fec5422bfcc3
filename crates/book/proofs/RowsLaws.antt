-- A view shows what is lent.
use mathlib.Core.Path.{◌≡◌, ap, ◌∙◌}
use Prim.Native.Nat.{ℕ}
use mathlib.Core.List.{List}
use Rattle.lists.specs.declared.rows.Rows.{Rows}
use Rattle.lists.specs.declared.rows.RowsView.{RowsView}
use Rattle.lists.specs.Rows.{IsView}
use Rattle.book.specs.declared.Entry.{Entry}
use Rattle.book.specs.Entries.{BookRows, entry_at}
use Rattle.book.specs.Lent.{entries_in, entries_seen}

pub entries-viewed : (t : Rows (List ℕ) (List ℕ)) (v : RowsView (List ℕ) (List ℕ)) → IsView t v → entries_seen v ≡ entries_in t
entries-viewed t v i = rw (i.nums, i.numbers, i.dates)

pub entry-viewed : (t : Rows (List ℕ) (List ℕ)) (v : RowsView (List ℕ) (List ℕ)) → IsView t v → (e : Entry) (i : ℕ) → e ≡ entry_at (entries_seen v) i → e ≡ entry_at (entries_in t) i
entry-viewed t v is e i q = q ∙ ap (λ (r : BookRows). entry_at r i) (entries-viewed t v is)
