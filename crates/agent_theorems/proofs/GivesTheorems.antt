-- What a writing and an answer give for an entry of a good book, where document 01 asks for nothing more.
use Rattle.std.specs.Prelude.{Some, is_some}
use Prim.Native.Nat.{ℕ, ◌+◌, ◌-◌, ◌<◌, ◌≤◌}
use native.Mathlib.Omega.{arith}
use mathlib.Core.Path.{◌≡◌, refl, sym, ap, ◌∙◌}
use mathlib.Core.Bool.{true, false, cond}
use mathlib.Core.List.{List, []}
use mathlib.Core.Logic.{◌⊎◌, inl, inr}
use lib.ListN.{length, get_or, take, set}
use borrow.Author.Tests.{le-leb}
use Rattle.fields.specs.declared.number.Number.{Number}
use Rattle.fields.specs.Amount.{is_amount}
use Rattle.fields.specs.Codes.{is_kind, is_reason}
use Rattle.fields.specs.Number.{is_number}
use Rattle.texts.proofs.Tests.{cond-elim}
use Rattle.texts.proofs.OutLaws.{text-back}
use Rattle.dates.proofs.DateLaws.{written-parts}
use Rattle.payments.specs.declared.Action.{Action}
use Rattle.payments.specs.declared.Action.TheVariants.{Check, Payment, Status, Cancel}
use Rattle.message.specs.declared.request.Asked.{Asked as Request}
use Rattle.message.specs.RequestText.{is_asked, request_bytes, request_text}
use Rattle.message.proofs.RequestAgain.{request-fits}
use Rattle.payments.specs.declared.Answer.{Answer}
use Rattle.answer_reader.specs.AnswerRead.{answer_read, answer_in}
use Rattle.book.specs.declared.Book.{Book}
use Rattle.book.specs.declared.Entry.{Entry}
use Rattle.book.specs.declared.State.TheVariants.{Asked, Credited, CancelAsked, Cancelled}
use Rattle.book.specs.Entries.{BookRows, state_number, state_of, no_entry, entry_at, entries_of, book_with, book_from}
use Rattle.book_validity.specs.BookValid.{book_good}
use Rattle.book.proofs.EntryLaws.{get_d-entries, book-set}
use Rattle.book_validity.proofs.BookLaws.{good_book, entry_here}
use Rattle.book_validity.proofs.PaymentLaws.{EntryParts, entry-parts}
use Rattle.daybook.specs.Freezing.{is_frozen}
use Rattle.agent_theorems.proofs.DaybookGives.{good-whole}
use Rattle.answering.specs.declared.meaning.Meaning.{Meaning}
use Rattle.answering.specs.declared.meaning.Meaning.TheVariants.{Paid, Revoked}
use Rattle.writing.specs.Writing.{Writing, wrote, write_at, write_request, write_check}
use Rattle.asking.specs.Asking.{may_write, with_state, written_entry, request_of, forms_good, is_open, check_of}
use Rattle.answering.specs.Answering.{payment_meaning, cancel_meaning, meaning, credits, turned, authcode_after, answered_entry, took, take_at_place, take_receipt, is_check, take_answer}
use Rattle.agent_theorems.proofs.MovedLaws.{place_of}

-- ---- which writing is open on an unfrozen day
module _ (b : Book) (e : Entry) (unfrozen : is_frozen b e.date ≡ false) where
  -- a payment while it is asked
  pub payment-opens : state_of e.state ≡ Asked → is_open b Payment e ≡ true
  unfolding is_open may_write
  payment-opens h = rw (h, unfrozen) refl

  -- a status in any state
  pub status-opens : is_open b Status e ≡ true
  unfolding is_open may_write
  status-opens = rw unfrozen refl

  -- a cancel while it is asked, credited or cancel-asked
  pub cancel-opens : (state_of e.state ≡ Asked) ⊎ ((state_of e.state ≡ Credited) ⊎ (state_of e.state ≡ CancelAsked)) → is_open b Cancel e ≡ true
  unfolding is_open may_write
  cancel-opens (inl h) = rw (h, unfrozen) refl
  cancel-opens (inr (inl h)) = rw (h, unfrozen) refl
  cancel-opens (inr (inr h)) = rw (h, unfrozen) refl

-- a request has room in 512 bytes
request-room : (q : Request) → length q.date ≡ 19 → length (request_text q) ≤ 512
unfolding request_text
request-room q dated = cond-elim (λ (s : List ℕ). length s ≤ 512) (is_asked q) (request_bytes q) [] (λ good. request-fits q dated good) (λ _. omega arith)

-- what an answer says
paid-is : (a : Action) (code : ℕ) → (a ≡ Payment) ⊎ (a ≡ Status) → code ≡ 0 → meaning a code ≡ Paid
unfolding meaning payment_meaning
paid-is a code (inl e) z = rw (e, z) refl
paid-is a code (inr e) z = rw (e, z) refl

revoked-is : (a : Action) (code : ℕ) → (a ≡ Check → ⊥) → (code ≡ 7) ⊎ ((a ≡ Cancel) × (code ≡ 0)) → meaning a code ≡ Revoked
unfolding meaning payment_meaning cancel_meaning
revoked-is a code n (inr (e, z)) = rw (e, z) refl
revoked-is Check code n (inl z) = absurd (n refl)
revoked-is Payment code n (inl z) = rw z refl
revoked-is Status code n (inl z) = rw z refl
revoked-is Cancel code n (inl z) = rw z refl

no-check : (a : Action) → (a ≡ Payment) ⊎ (a ≡ Status) → a ≡ Check → ⊥
no-check a (inl e) c = let z : ◌≡◌ {A = ℕ} 0 1 = cc in absurd (omega arith)
no-check a (inr e) c = let z : ◌≡◌ {A = ℕ} 0 1 = cc in absurd (omega arith)

-- the entry credited, with the authcode that the answer has
abbrev pub credited_entry : Answer → Entry → Entry
credited_entry x e =
    record {
      receipt = e.receipt;
      number = e.number;
      kind = e.kind;
      amount = e.amount;
      date = e.date;
      state = state_number Credited;
      authcode = cond x.authorized x.authcode e.authcode;
    }

credited-entry : (m : Meaning) (x : Answer) (e : Entry) → m ≡ Paid → state_of e.state ≡ Asked → answered_entry m x e ≡ credited_entry x e
unfolding answered_entry turned credits authcode_after
credited-entry m x e paid asked = rw (paid, asked) refl

cancelled-entry : (m : Meaning) (x : Answer) (e : Entry) → m ≡ Revoked → (state_of e.state ≡ Asked) ⊎ (state_of e.state ≡ CancelAsked) → answered_entry m x e ≡ with_state e Cancelled
unfolding answered_entry turned credits authcode_after
cancelled-entry m x e revoked (inl h) = rw (revoked, h) refl
cancelled-entry m x e revoked (inr h) = rw (revoked, h) refl

-- ---- the entry at i of a good book, whose arrays hold six numbers
module _ (b : Book) (t : BookRows) (good : book_good b t ≡ true) (six : (j : ℕ) → j < b.used → length (get_or t.nums j []) ≡ 6) (i : ℕ) (used : i < b.used) where
  abbrev entry : Entry
  entry = entry_at t i

  parts : EntryParts entry
  parts = entry-parts entry ((good_book b t good).entry i used)

  -- its receipt finds it
  pub place_here : place_of b t entry.receipt ≡ Some i
  place_here =
      let turn : entry.receipt ≡ b.first + i = (good_book b t good).turn i used in
      let k : entry.receipt - b.first ≡ i = omega arith in
      sym (entry_here b t good entry.receipt (omega arith) (omega arith)) ∙ ap Some k

  set_here : (e : Entry) → book_from t (set (entries_of t b.used) i e) ≡ book_with t i e
  set_here e = book-set t b.used (good-whole b t good six) i e used

  -- ---- a writing that is open
  module _ (a : Action) (reason : ℕ) (out : List ℕ) (room : 512 ≤ length out) (reasoned : a ≡ Cancel → is_reason reason ≡ true) (free : is_open b a entry ≡ true) where
    forms : (a' : Action) → a' ≡ a → forms_good a' entry.receipt reason ≡ true
    unfolding forms_good
    forms Check e = parts.receipt
    forms Payment e = parts.receipt
    forms Status e = parts.receipt
    forms Cancel e = rw (parts.receipt, reasoned (sym e)) refl

    write-is : write_request b t a entry.receipt reason out ≡ wrote (book_with t i (written_entry a entry)) out (request_text (request_of a entry reason))
    unfolding write_request write_at
    write-is =
        rw (good, le-leb 512 (length out) room, forms a refl, place_here, get_d-entries t b.used i no_entry used, free, set_here (written_entry a entry)) refl

    -- gives 0, leaves its entry written and all others, and its request at the start of the buffer
    pub write-gives :
        ((write_request b t a entry.receipt reason out).code ≡ 0)
        × ((write_request b t a entry.receipt reason out).rows ≡ book_with t i (written_entry a entry))
        × (take (write_request b t a entry.receipt reason out).size (write_request b t a entry.receipt reason out).out ≡ request_text (request_of a entry reason))
    unfolding request_of
    write-gives =
        let q : Request = request_of a entry reason in
        let fits : length (request_text q) ≤ length out = omega (arith, room, request-room q (written-parts entry.date parts.date).size) in (
          ap (λ (k : Writing). k.code) write-is,
          ap (λ (k : Writing). k.rows) write-is,
          ap (λ (k : Writing). take k.size k.out) write-is ∙ text-back out (request_text q) fits,
        )

  -- ---- a readable answer on an unfrozen day
  module _ (a : Action) (text : List ℕ) (ok : is_some (answer_read a text) ≡ true) (unfrozen : is_frozen b entry.date ≡ false) where
    abbrev answer : Answer
    answer = answer_in (answer_read a text)

    no-check-is : (a' : Action) → (a' ≡ Check → ⊥) → is_check a' ≡ false
    no-check-is Check n = absurd (n refl)
    no-check-is Payment n = refl
    no-check-is Status n = refl
    no-check-is Cancel n = refl

    module _ (receipted : a ≡ Check → ⊥) where
      -- replaces its entry, and only that, by the answered one
      pub answer-turns : take_answer b t a entry.receipt text ≡ took 0 (book_with t i (answered_entry (meaning a answer.code) answer entry))
      unfolding take_answer take_receipt take_at_place
      answer-turns =
          rw (good, no-check-is a receipted, parts.receipt, place_here, get_d-entries t b.used i no_entry used, ok, unfrozen, set_here (answered_entry (meaning a answer.code) answer entry)) refl

      -- 7, or cancel's 0, turns asked and cancel-asked to cancelled
      pub revoked-cancels : (answer.code ≡ 7) ⊎ ((a ≡ Cancel) × (answer.code ≡ 0)) → (state_of entry.state ≡ Asked) ⊎ (state_of entry.state ≡ CancelAsked)
          → take_answer b t a entry.receipt text ≡ took 0 (book_with t i (with_state entry Cancelled))
      revoked-cancels says state = answer-turns ∙ ap (λ (e : Entry). took 0 (book_with t i e)) (cancelled-entry _ answer entry (revoked-is a answer.code receipted says) state)

    -- payment's or status' 0 turns asked to credited and stores the authcode if the answer has one
    pub paid-credits : (a ≡ Payment) ⊎ (a ≡ Status) → answer.code ≡ 0 → state_of entry.state ≡ Asked
        → take_answer b t a entry.receipt text ≡ took 0 (book_with t i (credited_entry answer entry))
    paid-credits pays zero asked =
        answer-turns (no-check a pays) ∙ ap (λ (e : Entry). took 0 (book_with t i e)) (credited-entry _ answer entry (paid-is a answer.code pays zero) asked)

-- ---- a check
module _ (b : Book) (t : BookRows) (n : Number) (k amount : ℕ) (out : List ℕ) where
  -- of well formed fields gives 0, leaves the book, and its request at the start of the buffer
  pub check-gives : book_good b t ≡ true → 512 ≤ length out → is_number n ≡ true → is_kind k ≡ true → is_amount amount ≡ true
      → ((write_check b t n k amount out).code ≡ 0)
      × ((write_check b t n k amount out).rows ≡ t)
      × (take (write_check b t n k amount out).size (write_check b t n k amount out).out ≡ request_text (check_of n k amount))
  unfolding check_of
  check-gives good room number kind amounts =
      let q : Request = check_of n k amount in
      let is : write_check b t n k amount out ≡ wrote t out (request_text q) = unfold write_check in rw (good, le-leb 512 (length out) room, number, kind, amounts) refl in
      let fits : length (request_text q) ≤ length out = omega (arith, room, request-room q refl) in
      (ap (λ (w : Writing). w.code) is, ap (λ (w : Writing). w.rows) is, ap (λ (w : Writing). take w.size w.out) is ∙ text-back out (request_text q) fits)
