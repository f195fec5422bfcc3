-- What an answer may do to the book, and what it may not.
use Rattle.std.specs.Prelude.{Option, Some, None, is_some}
use Prim.Native.Nat.{ℕ, ◌<◌, ◌≤◌}
use native.Mathlib.Omega.{arith}
use mathlib.Core.Path.{◌≡◌, refl, sym, ◌∙◌}
use mathlib.Core.Bool.{Bool, true, false, cond}
use mathlib.Core.List.{List}
use lib.ListN.{set}
use borrow.Author.Tests.{le-leb}
use Rattle.fields.specs.Codes.{is_receipt}
use Rattle.texts.specs.Digits.{within}
use Rattle.texts.proofs.Tests.{cond-elim, cond-le, no-claim}
use Rattle.texts.proofs.DigitLaws.{within-high}
use Rattle.payments.specs.declared.Action.{Action}
use Rattle.payments.specs.declared.Action.TheVariants.{Check, Payment, Status, Cancel}
use Rattle.payments.specs.declared.Answer.{Answer}
use Rattle.answer_reader.specs.AnswerRead.{answer_read, answer_in}
use Rattle.answer_reader.proofs.AnswerRange.{read-code}
use Rattle.book.specs.declared.Book.{Book}
use Rattle.book.specs.declared.Entry.{Entry}
use Rattle.book.specs.declared.State.{State}
use Rattle.book.specs.declared.State.TheVariants.{Asked, Credited, CancelAsked, Cancelled, Unposted}
use Rattle.book.specs.Entries.{BookRows, state_of, no_entry, entry_at, entries_of, book_from}
use Rattle.book_validity.specs.BookValid.{entry_fields, book_good, ReadyBook}
use Rattle.book.proofs.EntryLaws.{get_d-entries, book-set}
use Rattle.book_validity.proofs.BookLaws.{entry-within}
use Rattle.book.proofs.StateLaws.{number-again, state-range, waits}
use Rattle.book_validity.proofs.PaymentLaws.{entry-parts, SamePayment, fields-kept}
use Rattle.answering.specs.declared.meaning.Meaning.{Meaning}
use Rattle.answering.specs.declared.meaning.Meaning.TheVariants.{Paid, Revoked, Silent}
use Rattle.daybook.specs.Freezing.{is_frozen}
use Rattle.answering.specs.Answering.{Taking, meaning, credits, turned, authcode_after, answered_entry, took, take_at_place, take_receipt, is_check, check_code, take_answer}
use Rattle.answering.proofs.MeaningLaws.{payment-silent, cancel-silent}
use Rattle.agent_theorems.proofs.MovedLaws.{place_of, same_place, found-fields, put_same, Left, kept, moved, others-kept, payments-kept, frozen-kept, good-kept, ready-kept}

-- every code but 0 and 7 says nothing, whatever was asked
silent-code : (a : Action) (code : ℕ) → (code ≡ 0 → ⊥) → (code ≡ 7 → ⊥) → meaning a code ≡ Silent
unfolding meaning
silent-code Check code zero seven = refl
silent-code Payment code zero seven = sym (payment-silent code zero seven)
silent-code Status code zero seven = sym (payment-silent code zero seven)
silent-code Cancel code zero seven = sym (cancel-silent code zero seven)

-- ---- the entry that an answer leaves
from_zero : (high v : ℕ) → v ≤ high → within 0 high v ≡ true
from_zero high v h = let z : 0 ≤ v = omega arith in rw (le-leb 0 v z, le-leb v high h)

module _ (m : Meaning) (x : Answer) (e : Entry) where
  answered-same : SamePayment e (answered_entry m x e)
  unfolding answered_entry
  answered-same = record { receipt = refl; number = refl; kind = refl; amount = refl; date = refl }

  answered-fields : entry_fields e ≡ true → x.authcode ≤ 999999999999999 → entry_fields (answered_entry m x e) ≡ true
  unfolding answered_entry authcode_after
  answered-fields h l =
      let p = entry-parts e h in
      let k : e.authcode ≤ 999999999999999 = within-high 0 999999999999999 e.authcode p.authcode in
      let c : Bool = credits m (state_of e.state) in
      fields-kept e (answered_entry m x e) answered-same p (state-range (turned m (state_of e.state)))
      (from_zero 999999999999999 (cond c (cond x.authorized x.authcode e.authcode) e.authcode) (cond-le c (cond-le x.authorized l k) k))

-- ---- an entry whose state is not turned stays as it is
unmoved-credits : (m : Meaning) (s : State) → turned m s ≡ s → credits m s ≡ false
unfolding turned credits
unmoved-credits Paid Asked h = let z : ◌≡◌ {A = ℕ} 0 1 = cc in absurd (omega arith)
unmoved-credits Paid Credited h = refl
unmoved-credits Paid CancelAsked h = refl
unmoved-credits Paid Cancelled h = refl
unmoved-credits Paid Unposted h = refl
unmoved-credits Revoked s h = refl
unmoved-credits Silent s h = refl

unmoved-entry : (m : Meaning) (x : Answer) (e : Entry) → entry_fields e ≡ true → turned m (state_of e.state) ≡ state_of e.state → answered_entry m x e ≡ e
unfolding answered_entry authcode_after
unmoved-entry m x e h same = rw (same, number-again e.state (entry-parts e h).state, unmoved-credits m (state_of e.state) same)

-- no answer turns a state in which none is awaited
final-turned : (m : Meaning) (s : State) → waits s ≡ false → turned m s ≡ s
unfolding turned
final-turned m Asked h = no-claim (sym h)
final-turned m CancelAsked h = no-claim (sym h)
final-turned Paid Credited h = refl
final-turned Paid Cancelled h = refl
final-turned Paid Unposted h = refl
final-turned Revoked Credited h = refl
final-turned Revoked Cancelled h = refl
final-turned Revoked Unposted h = refl
final-turned Silent Credited h = refl
final-turned Silent Cancelled h = refl
final-turned Silent Unposted h = refl

-- ---- the call: the rows stay, or the entry that was found is answered
module _ (b : Book) (t : BookRows) (a : Action) (receipt : ℕ) (text : List ℕ) where
  -- the answer, and what it leaves at a place
  abbrev answer : Answer
  answer = answer_in (answer_read a text)

  abbrev answered : ℕ → Entry
  answered i = answered_entry (meaning a answer.code) answer (entry_at t i)

  module _ (P : Taking → Type 0) (stays : (code : ℕ) → P (took code t))
      (answers : (i : ℕ) → book_good b t ≡ true → place_of b t receipt ≡ Some i → is_frozen b (entry_at t i).date ≡ false → is_some (answer_read a text) ≡ true
      → P (took 0 (book_from t (set (entries_of t b.used) i (answered i))))) where
    at-cases : book_good b t ≡ true → (p : Option ℕ) → place_of b t receipt ≡ p → P (take_at_place b t a text p)
    unfolding take_at_place
    at-cases good None e = stays 62
    at-cases good (Some i) e =
        rw (get_d-entries t b.used i no_entry (entry-within t b.used receipt i e))
        (cond-elim P (is_some (answer_read a text)) _ _
        (λ ok. cond-elim P (is_frozen b (entry_at t i).date) _ _ (λ _. stays 0) (λ free. answers i good e free ok))
        (λ _. stays 64))

    receipt-cases : book_good b t ≡ true → P (take_receipt b t a receipt text)
    unfolding take_receipt
    receipt-cases good = cond-elim P (is_receipt receipt) _ _ (λ _. at-cases good (place_of b t receipt) refl) (λ _. stays 60)

    pub take_cases : P (take_answer b t a receipt text)
    unfolding take_answer
    take_cases = cond-elim P (book_good b t) _ _ (λ good. cond-elim P (is_check a) _ _ (λ _. stays (check_code text)) (λ _. receipt-cases good)) (λ _. stays 68)

  -- a fault keeps the rows whole
  pub answer-fault : ((take_answer b t a receipt text).code ≡ 0 → ⊥) → (take_answer b t a receipt text).rows ≡ t
  answer-fault = take_cases (λ (k : Taking). (k.code ≡ 0 → ⊥) → k.rows ≡ t) (λ code n. refl) (λ i good e free ok n. absurd (n refl))

  module _ (ready : ReadyBook b t) where
    pub answer-left : Left b t (place_of b t receipt) (take_answer b t a receipt text).rows
    answer-left =
        take_cases (λ (k : Taking). Left b t (place_of b t receipt) k.rows) (λ code. kept refl)
        (λ i good e free ok.
        let l : i < b.used = entry-within t b.used receipt i e in
        moved i (answered i) e l good free (answered-same _ answer (entry_at t i)) (answered-fields _ answer (entry_at t i) (found-fields b t receipt i good e) (read-code a text ok).1)
        (book-set t b.used ready.whole i (answered i) l))

    -- ---- an answer moves at most the entry of its receipt
    pub answer-others : (j : ℕ) → (place_of b t receipt ≡ Some j → ⊥) → entry_at (take_answer b t a receipt text).rows j ≡ entry_at t j
    answer-others = others-kept b t (place_of b t receipt) _ answer-left

    -- every entry keeps its receipt, its account, its amount and its date
    pub answer-payments : (j : ℕ) → SamePayment (entry_at t j) (entry_at (take_answer b t a receipt text).rows j)
    answer-payments = payments-kept b t (place_of b t receipt) _ answer-left

    -- a good book is good again, and ready for the next call
    pub answer-good : book_good b t ≡ true → book_good b (take_answer b t a receipt text).rows ≡ true
    answer-good = good-kept b t (place_of b t receipt) _ answer-left

    pub answer-ready : ReadyBook b (take_answer b t a receipt text).rows
    answer-ready = ready-kept b t (place_of b t receipt) _ answer-left ready

    -- ---- an entry of a frozen day is moved by no answer
    pub answer-frozen : (j : ℕ) → is_frozen b (entry_at t j).date ≡ true → entry_at (take_answer b t a receipt text).rows j ≡ entry_at t j
    answer-frozen = frozen-kept b t (place_of b t receipt) _ answer-left

    -- ---- a state that is not turned: the rows stay as they are
    answer-unmoved : ((i : ℕ) → place_of b t receipt ≡ Some i → turned (meaning a answer.code) (state_of (entry_at t i).state) ≡ state_of (entry_at t i).state)
        → (take_answer b t a receipt text).rows ≡ t
    answer-unmoved same =
        take_cases (λ (k : Taking). k.rows ≡ t) (λ code. refl)
        (λ i good e free ok.
        let l : i < b.used = entry-within t b.used receipt i e in
        put_same b t i ready l (answered i) (unmoved-entry _ answer (entry_at t i) (found-fields b t receipt i good e) (same i e)))

    -- an answer that says neither paid nor revoked leaves the rows as they are
    pub answer-silent : meaning a answer.code ≡ Silent → (take_answer b t a receipt text).rows ≡ t
    unfolding turned
    answer-silent silent = answer-unmoved (λ i e. rw silent refl)

    -- so does every code but 0 and 7
    pub answer-refusal : (answer.code ≡ 0 → ⊥) → (answer.code ≡ 7 → ⊥) → (take_answer b t a receipt text).rows ≡ t
    answer-refusal zero seven = answer-silent (silent-code a answer.code zero seven)

    module _ (i : ℕ) (found : place_of b t receipt ≡ Some i) where
      -- a payment that is credited, cancelled or unposted stays so, whatever comes
      pub answer-final : waits (state_of (entry_at t i).state) ≡ false → (take_answer b t a receipt text).rows ≡ t
      answer-final h =
          answer-unmoved (λ j e. final-turned (meaning a answer.code) (state_of (entry_at t j).state) (rw (same_place j i (sym e ∙ found)) h))

      -- a late 0 is not heeded once the cancel was written
      pub answer-late : state_of (entry_at t i).state ≡ CancelAsked → meaning a answer.code ≡ Paid → (take_answer b t a receipt text).rows ≡ t
      unfolding turned
      answer-late h paid = answer-unmoved (λ j e. rw (same_place j i (sym e ∙ found), h, paid) refl)
