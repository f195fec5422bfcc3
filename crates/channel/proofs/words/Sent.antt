-- What is sent is what was written: all of its bytes and no byte more, in every world. What was sent before stays before it, and no other step sends.
use Rattle.std.specs.Prelude.{Some}
use Prim.Native.Nat.{ℕ, ◌≤◌}
use native.Mathlib.Omega.{arith}
use mathlib.Core.Path.{◌≡◌, refl, sym, ap, ◌∙◌}
use mathlib.Core.Bool.{Bool, true, false, not, ◌&&◌}
use mathlib.Core.List.{List, [], ◌∷◌, ◌++◌}
use mathlib.Core.Option.{Option, none, some}
use lib.Dec.{eqb, leb}
use lib.ListN.{length, take, get_elem?}
use borrow.Author.Tests.{leb-true, eq-eqb, ne_eqb, not-true, not-false}
use Rattle.days.specs.declared.calendar.Day.{Day}
use Rattle.fields.specs.declared.number.Number.{Number}
use Rattle.texts.specs.Lists.{written, cursor_after}
use Rattle.fields.specs.Amount.{is_amount}
use Rattle.days.specs.Calendar.{is_day, day_before}
use Rattle.fields.specs.Codes.{is_kind}
use Rattle.fields.specs.Number.{is_number}
use Rattle.texts.proofs.Tests.{cond-elim}
use Rattle.texts.proofs.OutLaws.{text-first, text-back}
use Rattle.dates.proofs.DateLaws.{written-parts}
use Rattle.payments.specs.declared.Action.{Action}
use Rattle.payments.specs.declared.Action.TheVariants.{Check}
use Rattle.message.specs.declared.request.Asked.{Asked}
use Rattle.message.specs.RequestText.{is_asked, request_text}
use Rattle.message.proofs.RequestAgain.{request-fits}
use Rattle.payments.specs.declared.Answer.{Answer}
use Rattle.answers.specs.Answer.{answer_bytes}
use Rattle.registry.specs.Registry.{registry_lines}
use Rattle.registry.proofs.LinesGood.{lines-good}
use Rattle.table.specs.Table.{records_of}
use Rattle.gate.specs.Deliver.{deliver}
use Rattle.admission.specs.Delivery.{Delivery}
use Rattle.gate_theorems.proofs.AnsweredTheorems.{answer_to as gateAnswer, deliver-text, deliver-told, deliver-silent}
use Rattle.clearing.specs.Clearing.{report_of}
use Rattle.settlement.specs.Settle.{settle}
use Rattle.closing.specs.Closing.{settle_day}
use Rattle.closing.proofs.DayLaws.{report-length}
use Rattle.settlement_theorems.proofs.SettleLaws.{settled-by, fault-keeps, report-now}
use Rattle.book.specs.Entries.{find_entry}
use Rattle.book_validity.specs.BookValid.{book_good}
use Rattle.listing.specs.Listing.{registry_of, Listing, list_on, write_registry}
use Rattle.listing.proofs.RegistryLaws.{registry-few}
use Rattle.writing.specs.Writing.{Writing, write_check}
use Rattle.asking.specs.Asking.{request_of, check_of}
use Rattle.book_validity.proofs.PaymentLaws.{entry-parts}
use Rattle.agent_theorems.proofs.MovedLaws.{same_place, found-fields}
use Rattle.agent_theorems.proofs.WritingTheorems.{write-cases}
use Rattle.channel.specs.World.{Sent, sent_request, sent_answer, sent_registry, sent_report, World, Step, opens, draws, accepts, writes_check, writes_payment, writes_status, writes_cancel, freezes, writes_registry, delivers, sent_if, at_gate, is_answered, request_arrives, registry_arrives, answer_arrives, report_arrives, delivered, opening, drawing, accepting, checking, writing, freezing, listing, step, code_of}
use Rattle.channel.specs.Claim.{records_in, entry_in, entries_in}

-- ---- what a call that wrote hands on
grown : (z : Bool) (m m' : Sent) (s : List Sent) → z ≡ true → m ≡ m' → sent_if z m s ≡ s ++ (m' ∷ [])
grown z m m' s e q = rw (e, q) refl

same_sent : (z : Bool) (m : Sent) (s : List Sent) → z ≡ false → sent_if z m s ≡ s
same_sent z m s e = rw e refl

-- ---- a request
-- malformed fields give no text, others a short one
text-fits : (q : Asked) → length q.date ≡ 19 → length (request_text q) ≤ 512
unfolding request_text
text-fits q dated = cond-elim (λ (xs : List ℕ). length xs ≤ 512) (is_asked q) _ _ (λ good. request-fits q dated good) (λ _. omega arith)

module _ (w : World) (a : Action) (receipt reason : ℕ) (out : List ℕ) where
  -- a writing that gave 0 found the receipt in the book
  pub request-found : (writing w a receipt reason out).code ≡ 0 → (i : ℕ) × (find_entry receipt (entries_in w) ≡ Some i)
  unfolding writing
  request-found =
      write-cases w.book w.book_rows a receipt reason out (λ (k : Writing). k.code ≡ 0 → (i : ℕ) × (find_entry receipt (entries_in w) ≡ Some i)) (λ code n z. absurd (n z))
      (λ i good room forms e free z. (i, e))

  -- a payment, a status or a cancel is the text of its entry
  pub request-sent : (i : ℕ) → find_entry receipt (entries_in w) ≡ Some i → (writing w a receipt reason out).code ≡ 0
      → (writing w a receipt reason out).world.sent ≡ w.sent ++ (sent_request a receipt (request_text (request_of a (entry_in w i) reason)) ∷ [])
  unfolding writing request_of
  request-sent i found =
      write-cases w.book w.book_rows a receipt reason out
      (λ (k : Writing). k.code ≡ 0 → sent_if (eqb k.code 0) (sent_request a receipt (take k.size k.out)) w.sent ≡ w.sent ++ (sent_request a receipt (request_text (request_of a (entry_in w i) reason)) ∷ []))
      (λ code n z. absurd (n z))
      (λ j good room forms e free z.
      let same : j ≡ i = same_place j i (sym e ∙ found) in
      let dated = (written-parts (entry_in w i).date (entry-parts (entry_in w i) (found-fields w.book w.book_rows receipt i good found)).date).size in
      let fits : length (request_text (request_of a (entry_in w i) reason)) ≤ length out = omega (arith, room, text-fits (request_of a (entry_in w i) reason) dated) in
      ap (λ (n : ℕ). w.sent ++ (sent_request a receipt (take (cursor_after out 0 (request_text (request_of a (entry_in w n) reason))) (written out 0 (request_text (request_of a (entry_in w n) reason)))) ∷ [])) same
      ∙ ap (λ (s : List ℕ). w.sent ++ (sent_request a receipt s ∷ [])) (text-back out (request_text (request_of a (entry_in w i) reason)) fits))

-- a check is the text of its own fields, and has no receipt
pub check-sent : (w : World) (n : Number) (k kopecks : ℕ) (out : List ℕ) → (checking w n k kopecks out).code ≡ 0
    → (checking w n k kopecks out).world.sent ≡ w.sent ++ (sent_request Check 0 (request_text (check_of n k kopecks)) ∷ [])
unfolding checking write_check check_of
check-sent w n k kopecks out =
    cond-elim P (book_good w.book w.book_rows) _ _
    (λ _. cond-elim P (leb 512 (length out)) _ _
    (λ room. cond-elim P (is_number n && (is_kind k && is_amount kopecks)) _ _
    (λ _ _.
    let fits : length text ≤ length out = omega (arith, leb-true 512 (length out) room, text-fits (check_of n k kopecks) refl) in
    ap (λ (s : List ℕ). w.sent ++ (sent_request Check 0 s ∷ [])) (text-back out text fits))
    (λ _ z. absurd (omega arith)))
    (λ _ z. absurd (omega arith)))
    (λ _ z. absurd (omega arith))
  where
    text : List ℕ
    text = request_text (check_of n k kopecks)

    P : Writing → Type 0
    P d = d.code ≡ 0 → sent_if (eqb d.code 0) (sent_request Check 0 (take d.size d.out)) w.sent ≡ w.sent ++ (sent_request Check 0 text ∷ [])

-- ---- an answer
module _ (w : World) (text clock : List ℕ) where
  -- the answer to a request, as the gate decides it
  abbrev pub answer_to : Answer
  answer_to = gateAnswer w.gate w.table clock text

  module _ (a : Action) (receipt : ℕ) (out : List ℕ) where
    abbrev answered : Delivery
    answered = deliver w.gate w.table clock text out

    -- it has the code that the gate returns
    pub answer-code : is_answered (request_arrives w a receipt text clock out).code ≡ true → answer_to.code ≡ (request_arrives w a receipt text clock out).code
    unfolding request_arrives
    answer-code h = deliver-told w.gate w.table clock text out (not-true _ h)

    -- and it is sent, with the action and the receipt that the request was sent with
    pub answer-sent : is_answered (request_arrives w a receipt text clock out).code ≡ true
        → (request_arrives w a receipt text clock out).world.sent ≡ w.sent ++ (sent_answer a receipt (answer_bytes answer_to) ∷ [])
    unfolding request_arrives
    answer-sent h = grown _ _ _ w.sent h (ap (sent_answer a receipt) (deliver-text w.gate w.table clock text out (not-true _ h)))

    -- where none is written, nothing is sent and nothing moves
    pub answer-none : is_answered (request_arrives w a receipt text clock out).code ≡ false → (request_arrives w a receipt text clock out).world ≡ w
    unfolding request_arrives
    answer-none h =
        ap (at_gate w answered.gate answered.rows) (same_sent (is_answered answered.code) _ w.sent h)
        ∙ ap (λ (d : Delivery). at_gate w d.gate d.rows w.sent) (deliver-silent w.gate w.table clock text out (not-false _ h))

-- ---- a registry
pub registry-sent : (w : World) (day : Day) (out : List ℕ) → (listing w day out).code ≡ 0
    → (listing w day out).world.sent ≡ w.sent ++ (sent_registry day (registry_of day (entries_in w)) ∷ [])
unfolding listing write_registry list_on
registry-sent w day out =
    cond-elim P (book_good w.book w.book_rows) _ _
    (λ good. cond-elim P (leb 65536 (length out)) _ _
    (λ room. cond-elim P (is_day day && not (day_before w.book.frozen day)) _ _
    (λ _ _.
    let fits : length text ≤ length out = omega (arith, leb-true 65536 (length out) room, registry-few w.book w.book_rows day good) in
    ap (λ (s : List ℕ). w.sent ++ (sent_registry day s ∷ [])) (text-back out text fits))
    (λ _ z. absurd (omega arith)))
    (λ _ z. absurd (omega arith)))
    (λ _ z. absurd (omega arith))
  where
    text : List ℕ
    text = registry_of day (entries_in w)

    P : Listing → Type 0
    P d = d.code ≡ 0 → sent_if (eqb d.code 0) (sent_registry day (take d.size d.out)) w.sent ≡ w.sent ++ (sent_registry day text ∷ [])

-- ---- a report
module _ (w : World) (day : Day) (text clock out : List ℕ) where
  -- of the table as the settlement leaves it
  abbrev pub report_text : List ℕ
  report_text = report_of (registry_lines text) (records_in (registry_arrives w day text clock out).world)

  -- a byte for each line
  pub report-size : length report_text ≡ length (registry_lines text)
  report-size = report-length (registry_lines text) (records_in (registry_arrives w day text clock out).world)

  -- what a settlement that gave 0 has counted
  report-room : (settle w.gate w.table clock day text out).code ≡ 0
      → ((settle w.gate w.table clock day text out).size ≡ length (registry_lines text)) × (length (registry_lines text) ≤ length out)
  report-room =
      settled-by w.gate w.table clock day text out (λ (d : Delivery). d.code ≡ 0 → (d.size ≡ length (registry_lines text)) × (length (registry_lines text) ≤ length out))
      (λ code n z. absurd (n z))
      (λ p off z. (refl, omega (arith, p.room, (lines-good day text p.faultless).few)))
      (λ p next z. (unfold settle_day in refl, omega (arith, p.room, (lines-good day text p.faultless).few)))

  pub report-sent : (registry_arrives w day text clock out).code ≡ 0
      → (registry_arrives w day text clock out).world.sent ≡ w.sent ++ (sent_report day report_text ∷ [])
  unfolding registry_arrives
  report-sent z =
      let d : Delivery = settle w.gate w.table clock day text out in
      let r = report-room z in
      let s : List ℕ = report_of (registry_lines text) (records_of d.rows d.gate.used) in
      let l : length s ≡ length (registry_lines text) = report-length (registry_lines text) (records_of d.rows d.gate.used) in
      let fits : length s ≤ length out = omega (arith, l, r.1) in
      grown (eqb d.code 0) _ _ w.sent (eq-eqb d.code 0 z)
      (ap (sent_report day)
      (ap (λ (n : ℕ). take n d.out) (r.0 ∙ sym l)
      ∙ ap (take (length s)) (report-now w.gate w.table clock day text out z)
      ∙ text-first out s fits))

  -- with any other code nothing is sent and nothing moves
  pub report-none : ((registry_arrives w day text clock out).code ≡ 0 → ⊥) → (registry_arrives w day text clock out).world ≡ w
  unfolding registry_arrives
  report-none n =
      let k = fault-keeps w.gate w.table clock day text out n in
      let d : Delivery = settle w.gate w.table clock day text out in
      let e = same_sent (eqb d.code 0) (sent_report day (take d.size d.out)) w.sent (ne_eqb d.code 0 n) in
      λ i. at_gate w (k i).gate (k i).rows (e i)

-- ---- which steps send: a writing that gives 0, a request that is answered, a registry that is settled or reported
abbrev pub sends_back : Option Sent → ℕ → Bool
sends_back none code = false
sends_back (some (sent_request a receipt text)) code = is_answered code
sends_back (some (sent_answer a receipt text)) code = false
sends_back (some (sent_registry day text)) code = eqb code 0
sends_back (some (sent_report day text)) code = false

abbrev pub sends : Step → World → Bool
sends (opens n k) w = false
sends (draws n k kopecks) w = false
sends (accepts n k kopecks date) w = false
sends (writes_check n k kopecks out) w = eqb (code_of (writes_check n k kopecks out) w) 0
sends (writes_payment receipt out) w = eqb (code_of (writes_payment receipt out) w) 0
sends (writes_status receipt out) w = eqb (code_of (writes_status receipt out) w) 0
sends (writes_cancel receipt reason out) w = eqb (code_of (writes_cancel receipt reason out) w) 0
sends (freezes day) w = false
sends (writes_registry day out) w = eqb (code_of (writes_registry day out) w) 0
sends (delivers i clock out) w = sends_back (get_elem? w.sent i) (code_of (delivers i clock out) w)

-- no other step sends anything
pub sent-only : (s : Step) (w : World) → sends s w ≡ false → (step s w).sent ≡ w.sent
unfolding opening drawing accepting checking writing freezing listing
sent-only (opens n k) w h = refl
sent-only (draws n k kopecks) w h = refl
sent-only (accepts n k kopecks date) w h = refl
sent-only (writes_check n k kopecks out) w h = same_sent _ _ w.sent h
sent-only (writes_payment receipt out) w h = same_sent _ _ w.sent h
sent-only (writes_status receipt out) w h = same_sent _ _ w.sent h
sent-only (writes_cancel receipt reason out) w h = same_sent _ _ w.sent h
sent-only (freezes day) w h = refl
sent-only (writes_registry day out) w h = same_sent _ _ w.sent h
sent-only (delivers i clock out) w h = go (get_elem? w.sent i) h
  where
    go : (m : Option Sent) → sends_back m (delivered w m clock out).code ≡ false → (delivered w m clock out).world.sent ≡ w.sent
    go none h = refl
    go (some (sent_request a receipt text)) h = unfold request_arrives in same_sent _ _ w.sent h
    go (some (sent_answer a receipt text)) h = unfold answer_arrives in refl
    go (some (sent_registry day text)) h = unfold registry_arrives in same_sent _ _ w.sent h
    go (some (sent_report day text)) h = unfold report_arrives in refl
