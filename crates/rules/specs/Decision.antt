-- Document 01, "Gate": the decision. It sees values only, no wire text.
use Rattle.std.specs.Prelude.{ℕ, Bool, cond, ◌||◌, eqb}
use Rattle.texts.specs.Digits.{within}
use Rattle.payments.specs.declared.Action.{Action}
use Rattle.payments.specs.declared.Action.TheVariants.{Check, Payment, Status, Cancel}
use Rattle.rules.specs.declared.decision.Standing.{Standing}
use Rattle.rules.specs.declared.decision.Standing.TheVariants.{Unrecorded, Done, Cancelled, Other}
use Rattle.rules.specs.declared.decision.View.{View}
use Rattle.rules.specs.declared.decision.Change.TheVariants.{Keep, Append, Revoke}
use Rattle.rules.specs.declared.decision.Decided.{Decided}

abbrev pub keeps : ℕ → Decided
keeps code = record { code = code; change = Keep }

-- 2 where the account is not known, 30 where there is no room
unfoldable pub check_code : View → ℕ
check_code v = cond v.known (cond v.full 30 0) 2

-- 5 where its day is closed; then as for a check; else it is credited and recorded
unfoldable pub payment_new : View → Decided
payment_new v =
    cond v.closed (keeps 5) (cond v.known (cond v.full (keeps 30) (record { code = 0; change = Append })) (keeps 2))

-- the record's day closed 9; balance below the amount 9; else cancel it
unfoldable pub cancel_done : View → Decided
cancel_done v = cond v.closed (keeps 9) (cond v.short (keeps 9) (record { code = 0; change = Revoke }))

-- a request without a fault. A payment whose receipt is another's gets 4 (document 02, [3]). Status and cancel cannot tell that: no standing of theirs is
-- Other (`standing_of`), and their rows for it say what they say of a payment without a record
unfoldable pub decision_on : Action → Standing → View → Decided
decision_on Check s v = keeps (check_code v)
decision_on Payment Unrecorded v = payment_new v
decision_on Payment Done v = keeps 0
decision_on Payment Cancelled v = keeps 7
decision_on Payment Other v = keeps 4
decision_on Status Unrecorded v = keeps 6
decision_on Status Done v = keeps 0
decision_on Status Cancelled v = keeps 7
decision_on Status Other v = keeps 6
decision_on Cancel Unrecorded v = keeps 9
decision_on Cancel Done v = cancel_done v
decision_on Cancel Cancelled v = keeps 0
decision_on Cancel Other v = keeps 9

-- what a reader may find at fault: action 1, number or type 2, amount 3, receipt 4, date 5, the text itself 31, reason 32; whatever other number it gave would be 31
unfoldable pub is_fault : ℕ → Bool
is_fault f = within 1 5 f || within 31 32 f

unfoldable pub fault_code : ℕ → ℕ
fault_code f = cond (is_fault f) f 31

-- the whole decision: a fault is answered and keeps all, else action and record decide
unfoldable pub decision : ℕ → Action → Standing → View → Decided
decision fault a s v = cond (eqb fault 0) (decision_on a s v) (keeps (fault_code fault))
