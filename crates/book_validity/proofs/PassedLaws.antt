-- What a book that has passed row 68 gives to the calls behind the check, and the entry that they find in it.
use Rattle.std.specs.Prelude.{Option, Some}
use Prim.Native.Nat.{ℕ, ◌<◌}
use native.Mathlib.Omega.{arith}
use mathlib.Core.Path.{◌≡◌, sym, ◌∙◌}
use mathlib.Core.Bool.{Bool, true, false, not}
use lib.ListN.{length}
use borrow.Author.Tests.{not-false}
use Rattle.book.specs.declared.Book.{Book}
use Rattle.book.specs.Entries.{BookRows, entries_of, find_entry}
use Rattle.book_validity.specs.BookValid.{book_good, ReadyBook, Dated}
use Rattle.book_validity.proofs.BookLaws.{good-dated, entry-within}

module _ (b : Book) (t : BookRows) where
  pub good-is : (g : Bool) → g ≡ book_good b t → not g ≡ false → book_good b t ≡ true
  good-is g e h = sym e ∙ not-false g h

  pub ready-is : (g : Bool) → (g ≡ true → ReadyBook b t) → not g ≡ false → ReadyBook b t
  ready-is g r h = r (not-false g h)

  pub dated-is : (g : Bool) → g ≡ book_good b t → not g ≡ false → Dated t b.used
  dated-is g e h = good-dated b t (good-is g e h)

  -- the rows reach the place of an entry
  pub room_at : (i : ℕ) → ReadyBook b t → i < b.used → (i < length t.nums) × (i < length t.numbers) × (i < length t.dates)
  room_at i ready l = let w = ready.whole in (omega (arith, w.nums), omega (arith, w.numbers), omega (arith, w.dates))

-- the entry of a receipt is in use
pub place-in-use : (t : BookRows) (used receipt i : ℕ) (p : Option ℕ) → p ≡ find_entry receipt (entries_of t used) → p ≡ Some i → i < used
place-in-use t used receipt i p e q = entry-within t used receipt i (sym e ∙ q)
