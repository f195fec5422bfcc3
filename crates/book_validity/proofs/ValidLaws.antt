-- Row 68: the fields of an entry, the entries in use, and the lent book, test by test.
use mathlib.Core.Path.{◌≡◌, sym, ap, ◌∙◌}
use mathlib.Core.Bool.{Bool, true, false}
use Prim.Native.Nat.{ℕ, ◌+◌, ◌<◌, ◌≤◌}
use native.Mathlib.Omega.{arith}
use lib.Dec.{leb}
use lib.ListN.{drop}
use borrow.Author.Tests.{leb-true}
use mir.Syntax.{w64}
use mir.Val.{Fits}
use Rattle.days.specs.Calendar.{is_day}
use Rattle.fields.specs.Codes.{is_receipt}
use Rattle.texts.proofs.Tests.{and_left, and_right}
use Rattle.lists.specs.Lists.{all_from}
use Rattle.lists.proofs.ListLaws.{all_more, all-not, all_end}
use Rattle.book.specs.declared.Book.{Book}
use Rattle.book.specs.declared.Entry.{Entry}
use Rattle.book.specs.Entries.{BookRows, entry_at, entries_of}
use Rattle.book_validity.specs.BookValid.{entry_good, book_head}
use Rattle.book.proofs.EntryLaws.{length-entries, get_d-entries}

-- ---- an entry at its place
pub turn-fits : (f i : ℕ) → is_receipt f ≡ true → i < 4096 → Fits w64 (f + i)
turn-fits f i h l = record { fits = omega (arith, leb-true f 999999999999999 (and_right (leb 1 f) (leb f 999999999999999) h)) }

-- ---- the entries in use: a loop that has passed i of them
module _ (b : Book) (t : BookRows) (i : ℕ) (passed : all_from (entry_good b) 0 (entries_of t b.used) ≡ all_from (entry_good b) i (drop i (entries_of t b.used))) where
  module _ (e : Entry) (is : e ≡ entry_at t i) (h : i < b.used) (good : Bool) (o : good ≡ entry_good b i e) where
    pub entry-bad : good ≡ false → false ≡ all_from (entry_good b) 0 (entries_of t b.used)
    entry-bad y =
        sym (passed ∙ all-not (entry_good b) i (entries_of t b.used) e (omega (arith, length-entries t b.used))
        (ap (entry_good b i) (get_d-entries t b.used i e h ∙ sym is) ∙ sym o ∙ y))

    pub entry-passed : good ≡ true → all_from (entry_good b) 0 (entries_of t b.used) ≡ all_from (entry_good b) (i + 1) (drop (i + 1) (entries_of t b.used))
    entry-passed y =
        passed ∙ all_more (entry_good b) i (entries_of t b.used) e (omega (arith, length-entries t b.used))
        (ap (entry_good b i) (get_d-entries t b.used i e h ∙ sym is) ∙ sym o ∙ y)

  pub entries-end : b.used ≤ i → true ≡ all_from (entry_good b) 0 (entries_of t b.used)
  entries-end h = sym (passed ∙ all_end (entry_good b) i (entries_of t b.used) (entry_at t i) (omega (arith, length-entries t b.used)))

-- ---- the lent book
pub head-receipt : (b : Book) → book_head b ≡ true → is_receipt b.first ≡ true
unfolding book_head
head-receipt b h = and_left (is_receipt b.first) (is_day b.frozen) h

pub ruleset turn_laws = (turn-fits)

pub ruleset book_laws = (head-receipt)
