-- A call on the first places of the rows, by the call on a part of them.
use Prim.Native.Nat.{ℕ, ◌<◌, ◌≤◌}
use mathlib.Core.Path.{◌≡◌, ap, ◌∙◌}
use mathlib.Core.List.{List}
use borrow.Author.Tests.{lt-leb, le-leb}
use Rattle.table.specs.declared.Gate.{Gate}
use Rattle.table.specs.declared.Record.{Record}
use Rattle.table.specs.Table.{Rows, rows_with}
use Rattle.table.proofs.RowsLaws.{sizes-with}
use Rattle.admission.specs.Delivery.{Delivery, undelivered}
use Rattle.records.specs.Copying.{first_rows, on_first, on_part, Sized}

module _ (n : ℕ) (g : Gate) (out : List ℕ) (call : Rows → Delivery) (t : Rows) where
  pub part-called : (d : Delivery) → n ≤ 4096 → d ≡ call (first_rows n t) → on_first n t d ≡ on_part n g out call t
  unfolding on_part
  part-called d h e = rw (le-leb n 4096 h) (ap (on_first n t) e)

  pub part-refused : 4096 < n → undelivered 68 g t out ≡ on_part n g out call t
  unfolding on_part
  part-refused h = rw (lt-leb n 4096 h)

pub ruleset part_laws = (part-refused)

-- a record that is put in keeps the places
pub sized-with : (t t' : Rows) (i : ℕ) (r : Record) → t' ≡ rows_with t i r → Sized t → Sized t'
sized-with t t' i r e s =
    let k = sizes-with t t' i r e in
    record { nums = k.nums ∙ s.nums; numbers = k.numbers ∙ s.numbers; dates = k.dates ∙ s.dates }
