-- A view shows what is lent; a record put in its place keeps the lengths.
use mathlib.Core.Path.{◌≡◌, ap, ◌∙◌}
use Prim.Native.Nat.{ℕ}
use mathlib.Core.List.{List}
use Rattle.lists.specs.declared.rows.Rows.{Rows}
use Rattle.lists.specs.declared.rows.RowsView.{RowsView}
use Rattle.lists.specs.Rows.{IsView}
use lib.ListN.{length, length-set}
use Rattle.table.specs.declared.Record.{Record}
use Rattle.table.specs.Table.{Rows as Lists, nums_of, dates_of, rows_with, SameSizes}
use Rattle.table.specs.Lent.{rows_in, rows_seen}

pub rows-viewed : (t : Rows (List ℕ) (List (List ℕ))) (v : RowsView (List ℕ) (List (List ℕ))) → IsView t v → rows_seen v ≡ rows_in t
rows-viewed t v i = rw (i.nums, i.numbers, i.dates)

pub sizes-with : (t t' : Lists) (i : ℕ) (r : Record) → t' ≡ rows_with t i r → SameSizes t t'
sizes-with t t' i r e =
    record {
      nums = ap (λ (y : Lists). length y.nums) e ∙ length-set t.nums i (nums_of r);
      numbers = ap (λ (y : Lists). length y.numbers) e ∙ length-set t.numbers i r.number.bytes;
      dates = ap (λ (y : Lists). length y.dates) e ∙ length-set t.dates i (dates_of r);
    }
