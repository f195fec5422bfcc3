-- What a writing may do to the book, and what a reader makes of the request that it wrote.
use Rattle.std.specs.Prelude.{Option, Some, None, Ok}
use Prim.Native.Nat.{ℕ, ◌+◌, ◌<◌, ◌≤◌}
use native.Mathlib.Omega.{arith}
use mathlib.Core.Path.{◌≡◌, refl, sym, ap, ◌∙◌}
use mathlib.Core.Bool.{Bool, true, false, not, ◌&&◌}
use mathlib.Core.List.{List}
use lib.Dec.{leb}
use lib.ListN.{length, take, get_or, set, length-set}
use lib.Seq.{get_or-set_same}
use borrow.Author.Tests.{leb-true, leb-false, not-true}
use Rattle.fields.specs.declared.number.Number.{Number}
use Rattle.texts.specs.Lists.{written, cursor_after}
use Rattle.fields.specs.Amount.{is_amount}
use Rattle.fields.specs.Codes.{is_receipt, is_kind, is_reason}
use Rattle.fields.specs.Number.{is_number}
use Rattle.texts.proofs.Tests.{and_right, cond-elim, no-claim}
use Rattle.texts.proofs.OutLaws.{buffer-stays, cursor-moves, bytes_past, text-back}
use Rattle.dates.proofs.DateLaws.{written-parts}
use Rattle.payments.specs.declared.Action.{Action}
use Rattle.payments.specs.declared.Action.TheVariants.{Check, Payment, Status, Cancel}
use Rattle.message.specs.declared.request.Asked.{Asked as Request}
use Rattle.parameters.specs.Names.{has_reason}
use Rattle.message.specs.Request.{request_read}
use Rattle.message.specs.RequestText.{is_asked, request_bytes, request_text, asked_again}
use Rattle.message.proofs.RequestAgain.{request-fits, request-again}
use Rattle.book.specs.declared.Book.{Book}
use Rattle.book.specs.declared.Entry.{Entry}
use Rattle.book.specs.declared.State.TheVariants.{CancelAsked}
use Rattle.book.specs.Entries.{BookRows, state_of, no_entry, entry_at, entries_of, book_from}
use Rattle.book_validity.specs.BookValid.{entry_fields, book_good, ReadyBook}
use Rattle.book.proofs.EntryLaws.{get_d-entries, length-entries, entry-from, book-set}
use Rattle.book_validity.proofs.BookLaws.{entry-within}
use Rattle.book_validity.proofs.PaymentLaws.{entry-parts, SamePayment, same-payment, fields-kept}
use Rattle.book.proofs.StateLaws.{state-range}
use Rattle.daybook.specs.Freezing.{is_frozen}
use Rattle.writing.specs.Writing.{Writing, unwritten, wrote, write_at, write_request, write_check}
use Rattle.asking.specs.Asking.{may_write, written_entry, request_of, forms_good, is_open, check_of}
use Rattle.writing.proofs.WritingLaws.{check-asked}
use Rattle.agent_theorems.proofs.MovedLaws.{place_of, same_place, found-fields, put_same, Left, kept, moved, others-kept, payments-kept, frozen-kept, good-kept, ready-kept}

-- ---- the entry that a writing leaves
written_same : (a : Action) (e : Entry) → SamePayment e (written_entry a e)
unfolding written_entry
written_same Check e = same-payment e
written_same Payment e = same-payment e
written_same Status e = same-payment e
written_same Cancel e = record { receipt = refl; number = refl; kind = refl; amount = refl; date = refl }

written-fields : (a : Action) (e : Entry) → entry_fields e ≡ true → entry_fields (written_entry a e) ≡ true
unfolding written_entry
written-fields Check e h = h
written-fields Payment e h = h
written-fields Status e h = h
written-fields Cancel e h =
    let p = entry-parts e h in
    fields-kept e (written_entry Cancel e) (written_same Cancel e) p (state-range CancelAsked) p.authcode

-- only a cancel leaves another
written-as-was : (a : Action) (e : Entry) → has_reason a ≡ false → written_entry a e ≡ e
unfolding written_entry
written-as-was Check e h = refl
written-as-was Payment e h = refl
written-as-was Status e h = refl
written-as-was Cancel e h = no-claim (sym h)

-- ---- the request of a good entry is well formed
asked-good : (a : Action) (e : Entry) (receipt reason : ℕ) → entry_fields e ≡ true → forms_good a receipt reason ≡ true → is_asked (request_of a e reason) ≡ true
unfolding is_asked request_of forms_good
asked-good Check e receipt reason h f = let p = entry-parts e h in rw (p.number, p.kind, p.amount)
asked-good Payment e receipt reason h f = let p = entry-parts e h in rw (p.receipt, p.number, p.kind, p.amount, p.date)
asked-good Status e receipt reason h f = let p = entry-parts e h in rw p.receipt
asked-good Cancel e receipt reason h f = let p = entry-parts e h in rw (p.receipt, and_right (is_receipt receipt) (is_reason reason) f)

-- ---- the bytes past a text stay
rest-kept : (out xs : List ℕ) (j : ℕ) → cursor_after out 0 xs ≤ j → get_or (written out 0 xs) j 0 ≡ get_or out j 0
rest-kept out xs j h = go (leb (0 + length xs) (length out)) refl
  where
    go : (fits : Bool) → leb (0 + length xs) (length out) ≡ fits → get_or (written out 0 xs) j 0 ≡ get_or out j 0
    go true e = bytes_past out 0 xs j (omega (arith, h, cursor-moves out 0 xs (leb-true (0 + length xs) (length out) e)))
    go false e = ap (λ (d : List ℕ). get_or d j 0) (sym (buffer-stays out 0 xs (leb-false (0 + length xs) (length out) e)))

read_back : (q : Request) (out : List ℕ) → length q.date ≡ 19 → is_asked q ≡ true → 512 ≤ length out
    → request_read (take (cursor_after out 0 (request_text q)) (written out 0 (request_text q))) ≡ Ok (asked_again q)
unfolding request_text
read_back q out dated good room =
    let l : length (request_bytes q) ≤ length out = omega (arith, room, request-fits q dated good) in
    rw (good, text-back out (request_bytes q) l) (request-again q dated good)

-- ---- the call: all stays with a fault, or the entry that was found is written
module _ (b : Book) (t : BookRows) (a : Action) (receipt reason : ℕ) (out : List ℕ) where
  module _ (P : Writing → Type 0) (stays : (code : ℕ) → (code ≡ 0 → ⊥) → P (unwritten code t out))
      (writes : (i : ℕ) → book_good b t ≡ true → 512 ≤ length out → forms_good a receipt reason ≡ true → place_of b t receipt ≡ Some i → is_open b a (entry_at t i) ≡ true
      → P (wrote (book_from t (set (entries_of t b.used) i (written_entry a (entry_at t i)))) out (request_text (request_of a (entry_at t i) reason)))) where
    at-cases : book_good b t ≡ true → 512 ≤ length out → forms_good a receipt reason ≡ true → (p : Option ℕ) → place_of b t receipt ≡ p → P (write_at b t a reason out p)
    unfolding write_at
    at-cases good room forms None e = stays 62 (λ z. omega arith)
    at-cases good room forms (Some i) e =
        rw (get_d-entries t b.used i no_entry (entry-within t b.used receipt i e))
        (cond-elim P (is_open b a (entry_at t i)) _ _ (λ free. writes i good room forms e free) (λ _. stays 63 (λ z. omega arith)))

    pub write-cases : P (write_request b t a receipt reason out)
    unfolding write_request
    write-cases =
        cond-elim P (book_good b t) _ _
        (λ good. cond-elim P (leb 512 (length out)) _ _
        (λ room. cond-elim P (forms_good a receipt reason) _ _ (λ forms. at-cases good (leb-true _ _ room) forms (place_of b t receipt) refl) (λ _. stays 60 (λ z. omega arith)))
        (λ _. stays 50 (λ z. omega arith)))
        (λ _. stays 68 (λ z. omega arith))

  -- a fault keeps the rows and the buffer whole
  pub write-fault : ((write_request b t a receipt reason out).code ≡ 0 → ⊥)
      → write_request b t a receipt reason out ≡ unwritten (write_request b t a receipt reason out).code t out
  write-fault =
      write-cases (λ (k : Writing). (k.code ≡ 0 → ⊥) → k ≡ unwritten k.code t out) (λ code n m. refl) (λ i good room forms e free n. absurd (n refl))

  -- the buffer's bytes past the request stay
  pub write-rest : (j : ℕ) → (write_request b t a receipt reason out).size ≤ j → get_or (write_request b t a receipt reason out).out j 0 ≡ get_or out j 0
  write-rest j =
      write-cases (λ (k : Writing). k.size ≤ j → get_or k.out j 0 ≡ get_or out j 0) (λ code n l. refl)
      (λ i good room forms e free l. rest-kept out (request_text (request_of a (entry_at t i) reason)) j l)

  -- the entry of a written request: a cancel's is cancel-asked, the others are as they were
  pub write-leaves : (i : ℕ) → place_of b t receipt ≡ Some i → (write_request b t a receipt reason out).code ≡ 0
      → entry_at (write_request b t a receipt reason out).rows i ≡ written_entry a (entry_at t i)
  write-leaves i found =
      write-cases (λ (k : Writing). k.code ≡ 0 → entry_at k.rows i ≡ written_entry a (entry_at t i)) (λ code n z. absurd (n z))
      (λ j good room forms e free z.
      let same : j ≡ i = same_place j i (sym e ∙ found) in
      let l : i < length (entries_of t b.used) = omega (arith, entry-within t b.used receipt i found, length-entries t b.used) in
      let es : List Entry = set (entries_of t b.used) i (written_entry a (entry_at t i)) in
      let k : i < length es = omega (arith, l, length-set (entries_of t b.used) i (written_entry a (entry_at t i))) in
      rw same (entry-from t es i no_entry k ∙ get_or-set_same (entries_of t b.used) i (written_entry a (entry_at t i)) no_entry l))

  -- ---- a request that is written reads back as the fields of its entry
  pub write_again : (i : ℕ) → place_of b t receipt ≡ Some i → (write_request b t a receipt reason out).code ≡ 0
      → request_read (take (write_request b t a receipt reason out).size (write_request b t a receipt reason out).out)
      ≡ Ok (asked_again (request_of a (entry_at t i) reason))
  unfolding request_of
  write_again i found =
      write-cases (λ (k : Writing). k.code ≡ 0 → request_read (take k.size k.out) ≡ Ok (asked_again (request_of a (entry_at t i) reason)))
      (λ code n z. absurd (n z))
      (λ j good room forms e free z.
      let same : j ≡ i = same_place j i (sym e ∙ found) in
      ap (λ (n : ℕ). request_read (take (cursor_after out 0 (request_text (request_of a (entry_at t n) reason))) (written out 0 (request_text (request_of a (entry_at t n) reason))))) same
      ∙ read_back (request_of a (entry_at t i) reason) out (written-parts (entry_at t i).date (entry-parts (entry_at t i) (found-fields b t receipt i good found)).date).size
      (asked-good a (entry_at t i) receipt reason (found-fields b t receipt i good found) forms) room)

  -- ---- what it leaves of a book that is ready
  module _ (ready : ReadyBook b t) where
    pub write-left : Left b t (place_of b t receipt) (write_request b t a receipt reason out).rows
    unfolding is_open
    write-left =
        write-cases (λ (k : Writing). Left b t (place_of b t receipt) k.rows) (λ code n. kept refl)
        (λ i good room forms e free.
        let l : i < b.used = entry-within t b.used receipt i e in
        let f : is_frozen b (entry_at t i).date ≡ false =
        not-true (is_frozen b (entry_at t i).date) (and_right (may_write a (state_of (entry_at t i).state)) (not (is_frozen b (entry_at t i).date)) free) in
        moved i (written_entry a (entry_at t i)) e l good f (written_same a (entry_at t i)) (written-fields a (entry_at t i) (found-fields b t receipt i good e))
        (book-set t b.used ready.whole i (written_entry a (entry_at t i)) l))

    -- ---- a writing moves at most the entry of its receipt
    pub write-others : (j : ℕ) → (place_of b t receipt ≡ Some j → ⊥) → entry_at (write_request b t a receipt reason out).rows j ≡ entry_at t j
    write-others = others-kept b t (place_of b t receipt) _ write-left

    -- every entry keeps its receipt, its account, its amount and its date
    pub write-payments : (j : ℕ) → SamePayment (entry_at t j) (entry_at (write_request b t a receipt reason out).rows j)
    write-payments = payments-kept b t (place_of b t receipt) _ write-left

    -- a good book is good again, and ready for the next call
    pub write-good : book_good b t ≡ true → book_good b (write_request b t a receipt reason out).rows ≡ true
    write-good = good-kept b t (place_of b t receipt) _ write-left

    pub write-ready : ReadyBook b (write_request b t a receipt reason out).rows
    write-ready = ready-kept b t (place_of b t receipt) _ write-left ready

    -- an entry of a frozen day is moved by no writing
    pub write-frozen : (j : ℕ) → is_frozen b (entry_at t j).date ≡ true → entry_at (write_request b t a receipt reason out).rows j ≡ entry_at t j
    write-frozen = frozen-kept b t (place_of b t receipt) _ write-left

    -- a payment and a status move nothing
    pub write_keeps : has_reason a ≡ false → (write_request b t a receipt reason out).rows ≡ t
    write_keeps none =
        write-cases (λ (k : Writing). k.rows ≡ t) (λ code n. refl)
        (λ i good room forms e free.
        let l : i < b.used = entry-within t b.used receipt i e in
        put_same b t i ready l (written_entry a (entry_at t i)) (written-as-was a (entry_at t i) none))

-- ---- a check
module _ (b : Book) (t : BookRows) (n : Number) (k amount : ℕ) (out : List ℕ) where
  module _ (P : Writing → Type 0) (stays : (code : ℕ) → (code ≡ 0 → ⊥) → P (unwritten code t out))
      (writes : 512 ≤ length out → is_number n && (is_kind k && is_amount amount) ≡ true → P (wrote t out (request_text (check_of n k amount)))) where
    check-cases : P (write_check b t n k amount out)
    unfolding write_check
    check-cases =
        cond-elim P (book_good b t) _ _
        (λ good. cond-elim P (leb 512 (length out)) _ _
        (λ room. cond-elim P (is_number n && (is_kind k && is_amount amount)) _ _ (λ h. writes (leb-true _ _ room) h) (λ _. stays 60 (λ z. omega arith)))
        (λ _. stays 50 (λ z. omega arith)))
        (λ _. stays 68 (λ z. omega arith))

  -- it moves nothing
  pub check-keeps : (write_check b t n k amount out).rows ≡ t
  check-keeps = check-cases (λ (w : Writing). w.rows ≡ t) (λ code m. refl) (λ room h. refl)

  -- a fault keeps the buffer whole
  pub check-fault : ((write_check b t n k amount out).code ≡ 0 → ⊥) → write_check b t n k amount out ≡ unwritten (write_check b t n k amount out).code t out
  check-fault = check-cases (λ (w : Writing). (w.code ≡ 0 → ⊥) → w ≡ unwritten w.code t out) (λ code m z. refl) (λ room h m. absurd (m refl))

  -- the buffer's bytes past the request stay
  pub check-rest : (j : ℕ) → (write_check b t n k amount out).size ≤ j → get_or (write_check b t n k amount out).out j 0 ≡ get_or out j 0
  check-rest j =
      check-cases (λ (w : Writing). w.size ≤ j → get_or w.out j 0 ≡ get_or out j 0) (λ code m l. refl)
      (λ room h l. rest-kept out (request_text (check_of n k amount)) j l)

  -- one that is written reads back as its account and amount
  pub check-again : (write_check b t n k amount out).code ≡ 0
      → request_read (take (write_check b t n k amount out).size (write_check b t n k amount out).out) ≡ Ok (asked_again (check_of n k amount))
  unfolding check_of
  check-again =
      check-cases (λ (w : Writing). w.code ≡ 0 → request_read (take w.size w.out) ≡ Ok (asked_again (check_of n k amount)))
      (λ code m z. absurd (m z))
      (λ room h z. read_back (check_of n k amount) out refl (check-asked n k amount ∙ h) room)
