-- What a request that was read without fault holds: each field that the action has is in its range, and the date has its length.
use Rattle.std.specs.Prelude.{Option, Some, None, Result}
use Prim.Native.Nat.{ℕ}
use native.Mathlib.Omega.{arith}
use mathlib.Core.Path.{◌≡◌, refl}
use mathlib.Core.Bool.{Bool, true, false, not, ◌&&◌, ◌||◌}
use mathlib.Core.List.{List}
use lib.Dec.{leb}
use lib.ListN.{length, get_or}
use Rattle.fields.specs.Amount.{is_amount, amount_read}
use Rattle.fields.specs.Codes.{is_receipt, is_kind, is_reason, receipt_read, kind_read, reason_read}
use Rattle.fields.specs.Number.{is_number, is_number_text, number_of, number_read}
use Rattle.dates.specs.Date.{is_written, empty_date, date_read}
use Rattle.texts.proofs.Tests.{cond-elim, no-claim}
use Rattle.texts.proofs.DigitLaws.{range-within}
use Rattle.fields.proofs.AmountLaws.{amount-within}
use Rattle.fields.proofs.NumberLaws.{text-number}
use Rattle.dates.proofs.DateLaws.{written-parts}
use Rattle.coding.specs.Url.{decoded}
use Rattle.payments.specs.declared.Action.{Action}
use Rattle.payments.specs.declared.Action.TheVariants.{Check}
use Rattle.message.specs.declared.request.Asked.{Asked}
use Rattle.message.specs.declared.request.Refusal.{Refusal}
use Rattle.message.specs.declared.request.Fault.{Fault}
use Rattle.message.specs.declared.request.Fault.TheVariants.{NoAction, Account, Amount, Receipt, Date, Malformed, Reason}
use Rattle.parameters.specs.Names.{action_of, has_account, has_receipt, has_date, has_reason}
use Rattle.parameters.specs.Slots.{Slot, Absent, Holds, Gathered, Broken, Values, gathered}
use Rattle.message.specs.Request.{held, field_of, unused_number, value_in, refused, fault_in, field_fault, fault_number, asked_of, fields_asked, judged, fields_read, action_read, values_read, request_read}
use Rattle.message.specs.RequestText.{is_asked}
use Rattle.fields.specs.declared.number.Number.{Number}
use Rattle.message.proofs.FieldLaws.{fault-none}
use Rattle.message.proofs.RequestLaws.{code-some}

-- each field that the action has is in its range
pub record AskedGood (q : Asked) : Type 0 where
  pub receipt : has_receipt q.action ≡ true → is_receipt q.receipt ≡ true
  pub number : has_account q.action ≡ true → is_number q.number ≡ true
  pub kind : has_account q.action ≡ true → is_kind q.kind ≡ true
  pub amount : has_account q.action ≡ true → is_amount q.amount ≡ true
  pub date : has_date q.action ≡ true → is_written q.date ≡ true
  pub reason : has_reason q.action ≡ true → is_reason q.reason ≡ true
  pub dated : length q.date ≡ 19

-- ---- fields that are read
module _ {A : Type 0} (good : A → Bool) (fixed : A) (fault : Fault) where
  value-good : (x : Option A) → fault_in fault x ≡ None → ((v : A) → Some v ≡ x → good v ≡ true) → good (value_in fixed x) ≡ true
  value-good None e f = let z : ◌≡◌ {A = ℕ} 0 1 = cc in absurd (omega arith)
  value-good (Some v) e f = f v refl

  field-good : (absent : Option A) (read : List ℕ → Option A) → ((v : A) → Some v ≡ absent → good v ≡ true) → ((s : List ℕ) (v : A) → Some v ≡ read s → good v ≡ true)
      → (used : Bool) (k : Slot) → fault_in fault (field_of used (Some fixed) absent read k) ≡ None → used ≡ true
      → good (value_in fixed (field_of used (Some fixed) absent read k)) ≡ true
  unfolding field_of held
  field-good absent read fa fr false k e u = no-claim u
  field-good absent read fa fr true Absent e u = value-good absent e fa
  field-good absent read fa fr true (Holds v) e u = value-good (read (decoded v)) e (fr (decoded v))

no_value : {A B : Type 0} (v : B) → Some v ≡ None → A
no_value v e = let z : ◌≡◌ {A = ℕ} 0 1 = cc in absurd (omega arith)

one-kind : (v : ℕ) → Some v ≡ Some 1 → is_kind v ≡ true
one-kind v e = let z : v ≡ 1 = cc in rw z

-- ---- numbers and dates
number-reads : (s : List ℕ) (n : Number) → Some n ≡ number_read s → is_number n ≡ true
unfolding number_read
number-reads s n =
    cond-elim (λ (r : Option Number). Some n ≡ r → is_number n ≡ true) (is_number_text s) _ _
    (λ h e. let z : n ≡ number_of s = cc in rw z (text-number s h)) (λ _ e. no_value n e)

date-reads : (s d : List ℕ) → Some d ≡ date_read s → is_written d ≡ true
unfolding date_read
date-reads s d = cond-elim (λ (r : Option (List ℕ)). Some d ≡ r → is_written d ≡ true) (is_written s) _ _ (λ h e. let z : d ≡ s = cc in rw z h) (λ _ e. no_value d e)

date-sized : (used : Bool) (k : Slot) → length (value_in empty_date (field_of used (Some empty_date) None date_read k)) ≡ 19
unfolding field_of held
date-sized false k = refl
date-sized true Absent = refl
date-sized true (Holds v) = go (date_read (decoded v)) (date-reads (decoded v))
  where
    go : (x : Option (List ℕ)) → ((d : List ℕ) → Some d ≡ x → is_written d ≡ true) → length (value_in empty_date x) ≡ 19
    go None f = refl
    go (Some d) f = (written-parts d (f d refl)).size

-- ---- the fields of an action
fields-good : (a : Action) (t : List Slot) → field_fault a t ≡ None → AskedGood (fields_asked a t)
unfolding field_fault fields_asked
fields-good a t h =
    let receipt = fault-none _ _ h in
    let number = fault-none _ _ receipt.1 in
    let kind = fault-none _ _ number.1 in
    let amount = fault-none _ _ kind.1 in
    let date = fault-none _ _ amount.1 in
    let reason = fault-none _ _ date.1 in
    record {
      receipt = field-good is_receipt 0 Receipt None receipt_read (λ v e. no_value v e) (range-within 15 1 999999999999999) (has_receipt a) (get_or t 4 Absent) receipt.0;
      number = field-good is_number unused_number Account None number_read (λ v e. no_value v e) number-reads (has_account a) (get_or t 1 Absent) number.0;
      kind = field-good is_kind 0 Account (Some 1) kind_read one-kind (range-within 3 0 999) (has_account a) (get_or t 2 Absent) kind.0;
      amount = field-good is_amount 0 Amount None amount_read (λ v e. no_value v e) amount-within (has_account a) (get_or t 3 Absent) amount.0;
      date = field-good is_written empty_date Date None date_read (λ v e. no_value v e) date-reads (has_date a) (get_or t 5 Absent) date.0;
      reason = field-good is_reason 0 Reason None reason_read (λ v e. no_value v e) (range-within 1 1 5) (has_reason a) (get_or t 6 Absent) reason.0;
      dated = date-sized (has_date a) (get_or t 5 Absent);
    }

-- ---- the request
abbrev ReadGood : Result Asked Refusal → Type 0
ReadGood r = fault_number r ≡ 0 → AskedGood (asked_of r)

refused-good : (f : Fault) (a : Action) → ReadGood (refused f a)
refused-good f a e = absurd (code-some f e)

values-good : (x : Gathered) → ReadGood (values_read x)
unfolding fields_read
values-good Broken = refused-good Malformed Check
values-good (Values s) = go (held None action_of (get_or s 0 Absent))
  where
    go : (a : Option Action) → ReadGood (action_read a s)
    go None = refused-good NoAction Check
    go (Some a) = on (field_fault a s) refl
      where
        on : (o : Option Fault) → field_fault a s ≡ o → ReadGood (judged o a (fields_asked a s))
        on None e z = fields-good a s e
        on (Some f) e z = refused-good f a z

-- a request read without fault holds what its action has, each in its range
pub read-good : (s : List ℕ) → fault_number (request_read s) ≡ 0 → AskedGood (asked_of (request_read s))
unfolding request_read
read-good s =
    cond-elim ReadGood (leb (length s) 2048) (values_read (gathered s)) (refused Malformed Check)
    (λ _. values-good (gathered s))
    (λ _. refused-good Malformed Check)

used-if : (u p : Bool) → (u ≡ true → p ≡ true) → not u || p ≡ true
used-if true p f = f refl
used-if false p f = refl

-- and passes the test that a writer makes
pub read_asked : (s : List ℕ) → fault_number (request_read s) ≡ 0 → is_asked (asked_of (request_read s)) ≡ true
unfolding is_asked
read_asked s h =
    let q : Asked = asked_of (request_read s) in
    let g : AskedGood q = read-good s h in
    rw (
      used-if (has_receipt q.action) (is_receipt q.receipt) g.receipt,
      used-if (has_account q.action) (is_number q.number && (is_kind q.kind && is_amount q.amount)) (λ u. rw (g.number u, g.kind u, g.amount u)),
      used-if (has_date q.action) (is_written q.date) g.date,
      used-if (has_reason q.action) (is_reason q.reason) g.reason,
    )

-- its date has nineteen bytes, also where the action has none
pub read-dated : (s : List ℕ) → fault_number (request_read s) ≡ 0 → length (asked_of (request_read s)).date ≡ 19
read-dated s h = (read-good s h).dated
