-- A request that is written from well formed fields reads back as those fields, and is short.
use Rattle.std.specs.Prelude.{Some, None, Ok}
use Prim.Native.Nat.{ℕ, ◌^◌, ◌≤◌, ◌<◌}
use native.Mathlib.Nat.{le_trans}
use native.Mathlib.Omega.{arith}
use mathlib.Core.Path.{◌≡◌, refl, ap}
use mathlib.Core.List.{List, [], ◌∷◌, append-nil}
use mathlib.Core.Bool.{Bool, true, false, not, ◌&&◌, ◌||◌}
use lib.ListN.{length}
use borrow.Author.Tests.{lt-ltb, le-leb}
use Rattle.fields.specs.declared.number.Number.{Number}
use Rattle.texts.specs.Lists.{every, eq_list}
use Rattle.texts.specs.Digits.{is_digit, within, decimal}
use Rattle.fields.specs.Amount.{is_amount, amount_read, amount_bytes}
use Rattle.fields.specs.Codes.{is_receipt, receipt_read, is_kind, kind_read, is_reason, reason_read}
use Rattle.fields.specs.Number.{number_byte, number_text, number_of, is_number, number_read}
use Rattle.dates.specs.Date.{is_written, empty_date, date_read}
use Rattle.texts.proofs.Tests.{and_left, and_right, both}
use Rattle.texts.proofs.ListLaws.{every-weaker}
use Rattle.texts.proofs.DigitLaws.{within_low, within-high}
use Rattle.texts.proofs.DecimalLaws.{decimal-digits}
use Rattle.fields.proofs.CodeLaws.{code-length, receipt-again, kind-again, reason-again}
use Rattle.fields.proofs.AmountLaws.{amount-again, amount-bytes, amount-length}
use Rattle.fields.proofs.NumberLaws.{byte-below-256, text-bytes, text-short, number-again}
use Rattle.dates.proofs.DateLaws.{date-again, date-bytes}
use Rattle.coding.specs.Url.{is_plain, is_byte}
use Rattle.coding.proofs.CodedLaws.{plain-marks, digit-plain, coded-plain, coded-length}
use Rattle.payments.specs.declared.Action.{Action}
use Rattle.payments.specs.declared.Action.TheVariants.{Check, Payment, Status, Cancel}
use Rattle.message.specs.declared.request.Asked.{Asked}
use Rattle.parameters.specs.Names.{action_name, number_name, kind_name, amount_name, receipt_name, date_name, reason_name, name_index, action_word, action_of, has_account, has_receipt, has_date, has_reason}
use Rattle.parameters.specs.Slots.{Slot, Values, gathered}
use Rattle.message.specs.Request.{held, field_of, unused_number, receipt_field, number_field, kind_field, amount_field, date_field, reason_field, first_fault, field_fault, fields_asked, fields_read, request_read}
use Rattle.message.specs.RequestText.{is_asked, pair, request_bytes, asked_again}
use Rattle.message.proofs.PairLaws.{Entry, entry, entry_slot, text_of, slots_for, size_of, named, text-size, gather-all, field-again, plain_entry}

-- ---- numbers and words
pub number-is-byte : (b : ℕ) → number_byte b ≡ true → is_byte b ≡ true
number-is-byte b h = lt-ltb b 256 (byte-below-256 b h)

word-plain : (a : Action) → every is_plain (action_word a) ≡ true
unfolding every is_plain action_word
word-plain Check = refl
word-plain Payment = refl
word-plain Status = refl
word-plain Cancel = refl

word-length : (a : Action) → length (action_word a) ≤ 7
unfolding action_word
word-length Check = omega arith
word-length Payment = omega arith
word-length Status = omega arith
word-length Cancel = omega arith

word-known : (a : Action) → action_of (action_word a) ≡ Some a
unfolding action_of action_word eq_list
word-known Check = refl
word-known Payment = refl
word-known Status = refl
word-known Cancel = refl

-- ---- what is written of a field
-- digits in a range that ends below 10 ^ k
abbrev code_entry : (used : Bool) (name : List ℕ) (k low high v : ℕ)
    → 0 < k → high < 10 ^ k → high < 2 ^ 64 → (used ≡ true → within low high v ≡ true) → Entry
code_entry used name k low high v some fit word w =
    plain_entry used name (decimal v) k (λ _. every-weaker is_digit is_plain (decimal v) digit-plain (decimal-digits v))
    (λ e. code-length k low high v some fit word (w e))

abbrev number_entry : (used : Bool) (x : Number) → (used ≡ true → is_number x ≡ true) → Entry
number_entry used x w =
    entry used number_name (number_text x) 90 (λ e. every-weaker number_byte is_byte (number_text x) number-is-byte (text-bytes x (w e)))
    (λ e. le_trans (coded-length (number_text x)) (omega (arith, text-short x (w e))))

-- ---- the fields of a request
if-used : (u p : Bool) → not u || p ≡ true → u ≡ true → p ≡ true
if-used true p h e = h
if-used false p h e = let z : ◌≡◌ {A = ℕ} 0 1 = cc in absurd (omega arith)

-- what the test `is_asked` says
record AskedParts (q : Asked) : Type 0 where
  receipt : has_receipt q.action ≡ true → is_receipt q.receipt ≡ true
  number : has_account q.action ≡ true → is_number q.number ≡ true
  kind : has_account q.action ≡ true → is_kind q.kind ≡ true
  amount : has_account q.action ≡ true → is_amount q.amount ≡ true
  date : has_date q.action ≡ true → is_written q.date ≡ true
  reason : has_reason q.action ≡ true → is_reason q.reason ≡ true

asked-parts : (q : Asked) → is_asked q ≡ true → AskedParts q
unfolding is_asked
asked-parts q h =
    let receipt = both (not (has_receipt q.action) || is_receipt q.receipt) _ h in
    let account = both (not (has_account q.action) || (is_number q.number && (is_kind q.kind && is_amount q.amount))) _ receipt.1 in
    let date = both (not (has_date q.action) || is_written q.date) _ account.1 in
    let number : has_account q.action ≡ true → (is_number q.number ≡ true) × (is_kind q.kind && is_amount q.amount ≡ true) = λ e. both (is_number q.number) (is_kind q.kind && is_amount q.amount) (if-used _ _ account.0 e) in
    record {
      receipt = if-used _ _ receipt.0;
      number = λ e. (number e).0;
      kind = λ e. and_left (is_kind q.kind) (is_amount q.amount) (number e).1;
      amount = λ e. and_right (is_kind q.kind) (is_amount q.amount) (number e).1;
      date = if-used _ _ date.0;
      reason = if-used _ _ date.1;
    }

-- fields that are all read leave no fault
fields-again : (a : Action) (t : List Slot) (r k m y : ℕ) (n : Number) (d : List ℕ)
    → receipt_field a t ≡ Some r → number_field a t ≡ Some n → kind_field a t ≡ Some k
    → amount_field a t ≡ Some m → date_field a t ≡ Some d → reason_field a t ≡ Some y
    → fields_read a t ≡ Ok (record { action = a; number = n; kind = k; amount = m; receipt = r; date = d; reason = y })
unfolding field_fault first_fault fields_read fields_asked
fields-again a t r k m y n d er en ek em ed ey = rw (er, en, ek, em, ed, ey)

-- ---- the request
module _ (q : Asked) (dated : length q.date ≡ 19) (good : is_asked q ≡ true) where
  parts : AskedParts q
  parts = asked-parts q good

  abbrev of_action : Entry
  of_action = plain_entry true action_name (action_word q.action) 7 (λ _. word-plain q.action) (λ _. word-length q.action)

  abbrev of_number : Entry
  of_number = number_entry (has_account q.action) q.number parts.number

  abbrev of_kind : Entry
  of_kind = code_entry (has_account q.action) kind_name 3 0 999 q.kind (omega arith) (omega arith) (omega arith) parts.kind

  abbrev of_amount : Entry
  of_amount =
      plain_entry (has_account q.action) amount_name (amount_bytes q.amount) 10 (λ _. amount-bytes is_plain q.amount digit-plain plain-marks.1)
      (λ e. amount-length q.amount (parts.amount e))

  abbrev of_receipt : Entry
  of_receipt = code_entry (has_receipt q.action) receipt_name 15 1 999999999999999 q.receipt (omega arith) (omega arith) (omega arith) parts.receipt

  abbrev of_date : Entry
  of_date =
      plain_entry (has_date q.action) date_name q.date 19 (λ e. date-bytes is_plain q.date digit-plain plain-marks.0 plain-marks.3 plain-marks.2 (parts.date e))
      (λ _. omega arith)

  abbrev of_reason : Entry
  of_reason = code_entry (has_reason q.action) reason_name 1 1 5 q.reason (omega arith) (omega arith) (omega arith) parts.reason

  abbrev entries : List Entry
  entries = of_action ∷ (of_number ∷ (of_kind ∷ (of_amount ∷ (of_receipt ∷ (of_date ∷ (of_reason ∷ []))))))

  -- they are the text, but for the first &
  text-is : text_of entries ≡ 38 ∷ request_bytes q
  unfolding text_of pair request_bytes
  text-is = rw (coded-plain (action_word q.action) (word-plain q.action), append-nil)

  -- the text is short
  pub request-length : length (request_bytes q) ≤ 224
  request-length =
      let r : size_of entries ≡ 195 = unfold size_of in refl in
      omega (arith, text-size entries, ap length text-is)

  pub request-fits : length (request_bytes q) ≤ 512
  request-fits = omega (arith, request-length)

  gathered-is : gathered (request_bytes q) ≡ Values (slots_for entries)
  unfolding named name_index eq_list every is_plain
  gathered-is = gather-all entries (request_bytes q) refl refl text-is

  -- what is written is read back
  pub request-again : request_read (request_bytes q) ≡ Ok (asked_again q)
  unfolding request_read slots_for asked_again
  request-again =
      let l : length (request_bytes q) ≤ 2048 = omega (arith, request-length) in
      let a : held None action_of (entry_slot of_action) ≡ Some q.action = unfold field_of in field-again Some q.action Check None action_of of_action (λ _. word-known q.action) in
      rw (le-leb _ _ l, gathered-is, a)
      (fields-again q.action (slots_for entries) _ _ _ _ _ _
      (field-again Some q.receipt 0 None receipt_read of_receipt (λ e. receipt-again q.receipt (parts.receipt e)))
      (field-again Some (number_of (number_text q.number)) unused_number None number_read of_number
      (λ e. number-again q.number (parts.number e)))
      (field-again Some q.kind 0 (Some 1) kind_read of_kind (λ e. kind-again q.kind (parts.kind e)))
      (field-again Some q.amount 0 None amount_read of_amount (λ e. amount-read (parts.amount e)))
      (field-again Some q.date empty_date None date_read of_date (λ e. date-again q.date (parts.date e)))
      (field-again Some q.reason 0 None reason_read of_reason (λ e. reason-again q.reason (parts.reason e))))
    where
      amount-read : is_amount q.amount ≡ true → amount_read (amount_bytes q.amount) ≡ Some q.amount
      amount-read w =
          let low : 1 ≤ q.amount = within_low 1 999999999 q.amount w in
          let high : q.amount ≤ 999999999 = within-high 1 999999999 q.amount w in
          amount-again q.amount low (omega arith)
