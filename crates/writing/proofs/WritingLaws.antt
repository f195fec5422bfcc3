-- Laws of a request that the agent writes: the ways out of a writing.
use Rattle.std.specs.Prelude.{Option, Some, None}
use Prim.Native.Nat.{ℕ, ◌≤◌, ◌<◌}
use mathlib.Core.Path.{◌≡◌, ◌∙◌}
use mathlib.Core.Bool.{Bool, true, false, not, ◌&&◌, and-true}
use mathlib.Core.List.{List}
use lib.ListN.{length}
use borrow.Author.Tests.{not-true, not-false, le-leb, lt-leb}
use Rattle.fields.specs.declared.number.Number.{Number}
use Rattle.texts.specs.Lists.{written, cursor_after}
use Rattle.fields.specs.Amount.{is_amount}
use Rattle.fields.specs.Codes.{is_kind}
use Rattle.fields.specs.Number.{is_number}
use Rattle.payments.specs.declared.Action.{Action}
use Rattle.message.specs.declared.request.Asked.{Asked as Request}
use Rattle.message.specs.RequestText.{is_asked, request_text}
use Rattle.book.specs.declared.Book.{Book}
use Rattle.book.specs.declared.Entry.{Entry}
use Rattle.book.specs.Entries.{BookRows, no_entry, entry_at, entries_of, book_with, find_entry}
use Rattle.book_validity.specs.BookValid.{book_good, ReadyBook}
use Rattle.book.proofs.EntryLaws.{get_d-entries, book-set}
use Rattle.book_validity.proofs.PassedLaws.{ready-is, place-in-use}
use Rattle.asking.specs.Asking.{written_entry, request_of, forms_good, is_open, check_of}
use Rattle.writing.specs.Writing.{Writing, write_at, write_request, write_check}

-- ---- the entry at i
module _ (b : Book) (t : BookRows) (i : ℕ) (a : Action) (reason : ℕ) (out : List ℕ) (e : Entry) (ee : e ≡ entry_at t i) (o : Bool) (eo : o ≡ is_open b a e)
    (ready : ReadyBook b t) (l : i < b.used) where
  pub at-closed : (rows : BookRows) (left : List ℕ) → not o ≡ true → rows ≡ t → left ≡ out
      → ◌≡◌ {A = Writing} (record { code = 63; rows = rows; out = left; size = 0 }) (write_at b t a reason out (Some i))
  unfolding write_at
  at-closed rows left h er el = rw (get_d-entries t b.used i no_entry l, ← ee, ← eo, not-true o h, er, el)

  pub at_open : (q : Request) (e' : Entry) (rows : BookRows) (left : List ℕ) (size : ℕ) → not o ≡ false
      → q ≡ request_of a e reason → size ≡ cursor_after out 0 (request_text q) → left ≡ written out 0 (request_text q)
      → e' ≡ written_entry a e → rows ≡ book_with t i e'
      → ◌≡◌ {A = Writing} (record { code = 0; rows = rows; out = left; size = size }) (write_at b t a reason out (Some i))
  unfolding write_at
  at_open q e' rows left size h eq es el ew er =
      rw (get_d-entries t b.used i no_entry l, ← ee, ← eo, not-false o h, ← eq, ← ew, book-set t b.used ready.whole i e' l, es, el, er)

-- ---- the ways out of a writing
module _ (b : Book) (t : BookRows) (a : Action) (receipt reason : ℕ) (out : List ℕ) (g : Bool) (eg : g ≡ book_good b t) where
  module _ (rows : BookRows) (left : List ℕ) (er : rows ≡ t) (el : left ≡ out) where
    pub not-book : not g ≡ true → ◌≡◌ {A = Writing} (record { code = 68; rows = rows; out = left; size = 0 }) (write_request b t a receipt reason out)
    unfolding write_request
    not-book h = rw (← eg, not-true g h, er, el)

    module _ (h : not g ≡ false) where
      pub no_room : length out < 512 → ◌≡◌ {A = Writing} (record { code = 50; rows = rows; out = left; size = 0 }) (write_request b t a receipt reason out)
      unfolding write_request
      no_room l = rw (← eg, not-false g h, lt-leb _ _ l, er, el)

      module _ (l : 512 ≤ length out) (f : Bool) (ef : f ≡ forms_good a receipt reason) where
        pub no-forms : not f ≡ true → ◌≡◌ {A = Writing} (record { code = 60; rows = rows; out = left; size = 0 }) (write_request b t a receipt reason out)
        unfolding write_request
        no-forms n = rw (← eg, not-false g h, le-leb _ _ l, ← ef, not-true f n, er, el)

        pub no-entry : (p : Option ℕ) → not f ≡ false → p ≡ find_entry receipt (entries_of t b.used) → p ≡ None
            → ◌≡◌ {A = Writing} (record { code = 62; rows = rows; out = left; size = 0 }) (write_request b t a receipt reason out)
        unfolding write_request write_at
        no-entry p n ep e = rw (← eg, not-false g h, le-leb _ _ l, ← ef, not-false f n, ← ep, e, er, el)

  pub one-entry : (f : Bool) (p : Option ℕ) (i : ℕ) (w : Writing) → not g ≡ false → 512 ≤ length out → f ≡ forms_good a receipt reason → not f ≡ false
      → p ≡ find_entry receipt (entries_of t b.used) → p ≡ Some i → w ≡ write_at b t a reason out (Some i) → w ≡ write_request b t a receipt reason out
  unfolding write_request
  one-entry f p i w h l ef n ep e q = q ∙ rw (← eg, not-false g h, le-leb _ _ l, ← ef, not-false f n, ← ep, e)

-- ---- a check
pub check-asked : (n : Number) (k amount : ℕ) → is_asked (check_of n k amount) ≡ is_number n && (is_kind k && is_amount amount)
unfolding is_asked check_of
check-asked n k amount = and-true (is_number n && (is_kind k && is_amount amount))

module _ (b : Book) (t : BookRows) (n : Number) (k amount : ℕ) (out : List ℕ) (g : Bool) (eg : g ≡ book_good b t) where
  module _ (left : List ℕ) (el : left ≡ out) where
    pub check-not-book : not g ≡ true → ◌≡◌ {A = Writing} (record { code = 68; rows = t; out = left; size = 0 }) (write_check b t n k amount out)
    unfolding write_check
    check-not-book h = rw (← eg, not-true g h, el)

    pub check-no-room : not g ≡ false → length out < 512 → ◌≡◌ {A = Writing} (record { code = 50; rows = t; out = left; size = 0 }) (write_check b t n k amount out)
    unfolding write_check
    check-no-room h l = rw (← eg, not-false g h, lt-leb _ _ l, el)

  module _ (h : not g ≡ false) (l : 512 ≤ length out) (q : Request) (eq : q ≡ check_of n k amount) (f : Bool) (ef : f ≡ is_asked q) where
    pub check-malformed : (left : List ℕ) → not f ≡ true → left ≡ out → ◌≡◌ {A = Writing} (record { code = 60; rows = t; out = left; size = 0 }) (write_check b t n k amount out)
    unfolding write_check
    check-malformed left m el = rw (← eg, not-false g h, le-leb _ _ l, ← check-asked n k amount, ← eq, ← ef, not-true f m, el)

    pub check-written : (left : List ℕ) (size : ℕ) → not f ≡ false → size ≡ cursor_after out 0 (request_text q) → left ≡ written out 0 (request_text q)
        → ◌≡◌ {A = Writing} (record { code = 0; rows = t; out = left; size = size }) (write_check b t n k amount out)
    unfolding write_check
    check-written left size m es el = rw (← eg, not-false g h, le-leb _ _ l, ← check-asked n k amount, ← eq, ← ef, not-false f m, es, el)

pub ruleset write_entry_laws = (at-closed)

pub ruleset write_for_laws = (not-book, no_room, no-forms, no-entry, one-entry, ready-is, place-in-use)

pub ruleset write_check_laws = (check-not-book, check-no-room, check-malformed, check-written)
