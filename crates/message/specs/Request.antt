-- Document 01, "Requests" and the checks under "Gate": what a request asks, or its first fault.
use Rattle.std.specs.Prelude.{ℕ, List, [], ◌∷◌, Bool, cond, length, get_or, leb, Option, Some, None, Result, Ok, Err}
use Rattle.fields.specs.declared.number.Number.{Number}
use Rattle.fields.specs.Amount.{amount_read}
use Rattle.fields.specs.Codes.{receipt_read, kind_read, reason_read}
use Rattle.fields.specs.Number.{empty_number, number_read}
use Rattle.dates.specs.Date.{empty_date, date_read}
use Rattle.coding.specs.Url.{decoded}
use Rattle.payments.specs.declared.Action.{Action}
use Rattle.payments.specs.declared.Action.TheVariants.{Check}
use Rattle.message.specs.declared.request.Asked.{Asked}
use Rattle.message.specs.declared.request.Refusal.{Refusal}
use Rattle.message.specs.declared.request.Fault.{Fault}
use Rattle.message.specs.declared.request.Fault.TheVariants.{NoAction, Account, Amount, Receipt, Date, Malformed, Reason}
use Rattle.parameters.specs.Names.{action_place, number_place, kind_place, amount_place, receipt_place, date_place, reason_place, action_of, has_account, has_receipt, has_date, has_reason}
use Rattle.parameters.specs.Slots.{Slot, Absent, Holds, Gathered, Broken, Values, gathered}

-- ---- a field of an action
-- what a reader makes of a value once it is decoded
unfoldable pub held : {A : Type 0} → A → (List ℕ → A) → Slot → A
held absent read Absent = absent
held absent read (Holds v) = read (decoded v)

-- a field that the action lacks is at a fixed value
unfoldable pub field_of : {A : Type 0} → Bool → A → A → (List ℕ → A) → Slot → A
field_of used fixed absent read k = cond used (held absent read k) fixed

abbrev pub unused_number : Number
unused_number = empty_number

abbrev pub receipt_field : Action → List Slot → Option ℕ
receipt_field a t = field_of (has_receipt a) (Some 0) None receipt_read (get_or t receipt_place Absent)

abbrev pub number_field : Action → List Slot → Option Number
number_field a t = field_of (has_account a) (Some unused_number) None number_read (get_or t number_place Absent)

-- an absent type is 1
abbrev pub kind_field : Action → List Slot → Option ℕ
kind_field a t = field_of (has_account a) (Some 0) (Some 1) kind_read (get_or t kind_place Absent)

abbrev pub amount_field : Action → List Slot → Option ℕ
amount_field a t = field_of (has_account a) (Some 0) None amount_read (get_or t amount_place Absent)

abbrev pub date_field : Action → List Slot → Option (List ℕ)
date_field a t = field_of (has_date a) (Some empty_date) None date_read (get_or t date_place Absent)

abbrev pub reason_field : Action → List Slot → Option ℕ
reason_field a t = field_of (has_reason a) (Some 0) None reason_read (get_or t reason_place Absent)

-- ---- faults
-- no action 1, number or type 2, amount 3, receipt 4, date 5, the text itself 31, reason 32
abbrev pub fault_code : Fault → ℕ
fault_code NoAction = 1
fault_code Account = 2
fault_code Amount = 3
fault_code Receipt = 4
fault_code Date = 5
fault_code Malformed = 31
fault_code Reason = 32

-- the fault of a field that does not read
abbrev pub fault_in : {A : Type 0} → Fault → Option A → Option Fault
fault_in f None = Some f
fault_in f (Some v) = None

unfoldable pub first_fault : List (Option Fault) → Option Fault
first_fault [] = None
first_fault (None ∷ fs) = first_fault fs
first_fault (Some f ∷ fs) = Some f

-- the first malformed one of the fields that the action has: receipt 4, number or type 2, amount 3, date 5, reason 32
unfoldable pub field_fault : Action → List Slot → Option Fault
field_fault a t =
    first_fault
    (fault_in Receipt (receipt_field a t)
    ∷ fault_in Account (number_field a t)
    ∷ fault_in Account (kind_field a t)
    ∷ fault_in Amount (amount_field a t)
    ∷ fault_in Date (date_field a t)
    ∷ fault_in Reason (reason_field a t)
    ∷ [])

-- ---- the request
abbrev pub value_in : {A : Type 0} → A → Option A → A
value_in fixed None = fixed
value_in fixed (Some v) = v

-- nothing is asked: every field at its fixed value
unfoldable pub nothing_asked : Action → Asked
nothing_asked a = record { action = a; number = unused_number; kind = 0; amount = 0; receipt = 0; date = empty_date; reason = 0 }

-- with 31 and 1 no action is known, and Check stands there
abbrev pub refused : Fault → Action → Result Asked Refusal
refused fault a = Err (record { fault = fault; action = a })

-- the number of a request that was read: 0 where it is not refused
abbrev pub fault_number : Result Asked Refusal → ℕ
fault_number (Ok q) = 0
fault_number (Err r) = fault_code r.fault

-- what it asks, refused or not
abbrev pub asked_of : Result Asked Refusal → Asked
asked_of (Ok q) = q
asked_of (Err r) = nothing_asked r.action

unfoldable pub fields_asked : Action → List Slot → Asked
fields_asked a t =
    record {
      action = a;
      number = value_in unused_number (number_field a t);
      kind = value_in 0 (kind_field a t);
      amount = value_in 0 (amount_field a t);
      receipt = value_in 0 (receipt_field a t);
      date = value_in empty_date (date_field a t);
      reason = value_in 0 (reason_field a t);
    }

-- what is asked, unless a field has a fault
abbrev pub judged : Option Fault → Action → Asked → Result Asked Refusal
judged None a q = Ok q
judged (Some f) a q = refused f a

unfoldable pub fields_read : Action → List Slot → Result Asked Refusal
fields_read a t = judged (field_fault a t) a (fields_asked a t)

-- without one of the four actions it is 1
abbrev pub action_read : Option Action → List Slot → Result Asked Refusal
action_read None t = refused NoAction Check
action_read (Some a) t = fields_read a t

abbrev pub values_read : Gathered → Result Asked Refusal
values_read Broken = refused Malformed Check
values_read (Values t) = action_read (held None action_of (get_or t action_place Absent)) t

-- over 2,048 bytes it is 31, whatever they are
unfoldable pub request_read : List ℕ → Result Asked Refusal
request_read s = cond (leb (length s) 2048) (values_read (gathered s)) (refused Malformed Check)
