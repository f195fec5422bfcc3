-- Laws of an answer that the agent takes: the entry that it leaves, and the ways out of the call.
use Rattle.std.specs.Prelude.{Option, Some, None, is_some}
use Prim.Native.Nat.{ℕ, ◌<◌}
use mathlib.Core.Path.{◌≡◌, refl, sym, ap, ◌∙◌}
use mathlib.Core.Bool.{Bool, true, false, not}
use mathlib.Core.List.{List}
use borrow.Author.Tests.{not-true, not-false}
use Rattle.fields.specs.Codes.{is_receipt}
use Rattle.payments.specs.declared.Action.{Action}
use Rattle.payments.specs.declared.Action.TheVariants.{Check}
use Rattle.payments.specs.declared.Answer.{Answer}
use Rattle.answer_reader.specs.AnswerRead.{answer_read, answer_in}
use Rattle.answer_reader.specs.AnswerParts.{undated}
use Rattle.book.specs.declared.Book.{Book}
use Rattle.book.specs.declared.Entry.{Entry}
use Rattle.book.specs.declared.State.{State}
use Rattle.book.specs.Entries.{BookRows, state_of, state_number, no_entry, entry_at, entries_of, book_with, find_entry}
use Rattle.book_validity.specs.BookValid.{book_good, ReadyBook}
use Rattle.book.proofs.EntryLaws.{get_d-entries, book-set}
use Rattle.answering.specs.declared.meaning.Meaning.{Meaning}
use Rattle.daybook.specs.Freezing.{is_frozen}
use Rattle.answering.specs.Answering.{Taking, meaning, turned, credits, authcode_after, answered_entry, take_at_place, take_receipt, is_check, check_code, take_answer}
use Rattle.book_validity.proofs.PassedLaws.{place-in-use}

-- ---- the entry that an answer leaves
pub answered-is : (m : Meaning) (x : Answer) (e : Entry) (s s' : State) (n code : ℕ) (credit : Bool)
    → s ≡ state_of e.state → s' ≡ turned m s → n ≡ state_number s' → credit ≡ credits m s → code ≡ authcode_after credit x e
    → ◌≡◌ {A = Entry} (record { receipt = e.receipt; number = e.number; kind = e.kind; amount = e.amount; date = e.date; state = n; authcode = code }) (answered_entry m x e)
unfolding answered_entry
answered-is m x e s s' n code credit es et en ec ea = rw (en, et, ea, ec, es)

-- ---- an answer says the same without the bytes of its date
module _ (a : Action) (text : List ℕ) (x : Answer) (ex : Some x ≡ undated (answer_read a text)) where
  read_is : is_some (answer_read a text) ≡ true
  read_is = go (answer_read a text) ex
    where
      go : (r : Option Answer) → Some x ≡ undated r → is_some r ≡ true
      go None e = cc
      go (Some y) e = refl

  said : (A : Type 0) (f : Answer → A) → ((y : Answer) → f (answer_in (undated (Some y))) ≡ f y) → f (answer_in (answer_read a text)) ≡ f x
  said A f same = go (answer_read a text) ex
    where
      go : (r : Option Answer) → Some x ≡ undated r → f (answer_in r) ≡ f x
      go None e = cc
      go (Some y) e = sym (ap (λ (v : Option Answer). f (answer_in v)) e ∙ same y)

  code_is : (answer_in (answer_read a text)).code ≡ x.code
  code_is = said ℕ (λ (y : Answer). y.code) (λ y. refl)

  entry-is : (m : Meaning) (e : Entry) → answered_entry m (answer_in (answer_read a text)) e ≡ answered_entry m x e
  unfolding answered_entry authcode_after
  entry-is m e = said Entry (λ (y : Answer). answered_entry m y e) (λ y. refl)

unread_is : (a : Action) (text : List ℕ) → None ≡ undated (answer_read a text) → is_some (answer_read a text) ≡ false
unread_is a text e = go (answer_read a text) e
  where
    go : (r : Option Answer) → None ≡ undated r → is_some r ≡ false
    go None e = refl
    go (Some y) e = cc

-- ---- the entry at i
module _ (b : Book) (t : BookRows) (i : ℕ) (a : Action) (text : List ℕ) where
  pub at-unread : None ≡ undated (answer_read a text) → (rows : BookRows) → rows ≡ t → ◌≡◌ {A = Taking} (record { code = 64; rows = rows }) (take_at_place b t a text (Some i))
  unfolding take_at_place
  at-unread h rows er = rw (unread_is a text h, er)

  module _ (x : Answer) (ex : Some x ≡ undated (answer_read a text)) (l : i < b.used) (e : Entry) (ee : e ≡ entry_at t i) (f : Bool) (ef : f ≡ is_frozen b e.date) where
    frozen-there : f ≡ is_frozen b (entry_at t i).date
    frozen-there = ef ∙ ap (λ (v : Entry). is_frozen b v.date) ee

    pub at-frozen : (rows : BookRows) → f ≡ true → rows ≡ t → ◌≡◌ {A = Taking} (record { code = 0; rows = rows }) (take_at_place b t a text (Some i))
    unfolding take_at_place
    at-frozen rows y er = rw (read_is a text x ex, get_d-entries t b.used i no_entry l, ← frozen-there, y, er)

    pub at-answered : (m : Meaning) (e' : Entry) (rows : BookRows) → f ≡ false → ReadyBook b t → m ≡ meaning a x.code → e' ≡ answered_entry m x e
        → rows ≡ book_with t i e' → ◌≡◌ {A = Taking} (record { code = 0; rows = rows }) (take_at_place b t a text (Some i))
    unfolding take_at_place
    at-answered m e' rows n ready em ea er =
        let w : e' ≡ answered_entry m x (entry_at t i) = ea ∙ ap (answered_entry m x) ee in
        rw (read_is a text x ex, get_d-entries t b.used i no_entry l, ← frozen-there, n, code_is a text x ex, ← em, entry-is a text x ex m (entry_at t i), ← w, book-set t b.used ready.whole i e' l, er)

-- ---- a receipt
module _ (b : Book) (t : BookRows) (a : Action) (receipt : ℕ) (text : List ℕ) (r : Bool) (er : r ≡ is_receipt receipt) where
  pub not-receipt : (rows : BookRows) → not r ≡ true → rows ≡ t → ◌≡◌ {A = Taking} (record { code = 60; rows = rows }) (take_receipt b t a receipt text)
  unfolding take_receipt
  not-receipt rows h e = rw (← er, not-true r h, e)

  module _ (h : not r ≡ false) (p : Option ℕ) (ep : p ≡ find_entry receipt (entries_of t b.used)) where
    pub none_found : (rows : BookRows) → p ≡ None → rows ≡ t → ◌≡◌ {A = Taking} (record { code = 62; rows = rows }) (take_receipt b t a receipt text)
    unfolding take_receipt take_at_place
    none_found rows n e = rw (← er, not-false r h, ← ep, n, e)

    pub one_found : (i : ℕ) (k : Taking) → p ≡ Some i → k ≡ take_at_place b t a text (Some i) → k ≡ take_receipt b t a receipt text
    unfolding take_receipt
    one_found i k y q = q ∙ rw (← er, not-false r h, ← ep, y)

-- ---- a check
module _ (text : List ℕ) where
  pub check-read : (x : Answer) → Some x ≡ undated (answer_read Check text) → 0 ≡ check_code text
  unfolding check_code
  check-read x ex = rw (read_is Check text x ex)

  pub check-unread : None ≡ undated (answer_read Check text) → 64 ≡ check_code text
  unfolding check_code
  check-unread h = rw (unread_is Check text h)

-- ---- the call
module _ (b : Book) (t : BookRows) (a : Action) (receipt : ℕ) (text : List ℕ) (g : Bool) (eg : g ≡ book_good b t) where
  pub take-not-book : (rows : BookRows) → not g ≡ true → rows ≡ t → ◌≡◌ {A = Taking} (record { code = 68; rows = rows }) (take_answer b t a receipt text)
  unfolding take_answer
  take-not-book rows h e = rw (← eg, not-true g h, e)

  module _ (h : not g ≡ false) (c : Bool) (ec : c ≡ is_check a) where
    pub take-check : (n : ℕ) (rows : BookRows) → c ≡ true → n ≡ check_code text → rows ≡ t → ◌≡◌ {A = Taking} (record { code = n; rows = rows }) (take_answer b t a receipt text)
    unfolding take_answer
    take-check n rows y en er = rw (← eg, not-false g h, ← ec, y, en, er)

    pub take-receipt : (k : Taking) → c ≡ false → k ≡ take_receipt b t a receipt text → k ≡ take_answer b t a receipt text
    unfolding take_answer
    take-receipt k n q = q ∙ rw (← eg, not-false g h, ← ec, n)

pub ruleset answered_entry_laws = (answered-is)

pub ruleset take_at_laws = (at-unread, at-frozen)

pub ruleset take_check_laws = (check-read, check-unread)

pub ruleset take_receipt_laws = (not-receipt, none_found, one_found, place-in-use)

pub ruleset take_answer_laws = (take-not-book, take-check, take-receipt)
