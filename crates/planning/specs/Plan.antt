-- Document 01, "Gate": what the decision on a request looks at.
use Rattle.std.specs.Prelude.{ℕ, ◌<◌, ◌≡◌, List, Bool, true, false, cond, eqb, leb, pos, length, get_or, Option, Some, None}
use Rattle.std.specs.Int.Signed.{lt_z}
use Rattle.days.specs.Calendar.{up_to}
use Rattle.dates.specs.Date.{date_day}
use Rattle.payments.specs.declared.Action.{Action}
use Rattle.payments.specs.declared.Action.TheVariants.{Check, Payment, Status, Cancel}
use Rattle.payments.specs.declared.Details.{Details}
use Rattle.payments.specs.declared.Instruction.{Instruction}
use Rattle.table.specs.declared.Record.{Record}
use Rattle.table.specs.declared.Gate.{Gate}
use Rattle.lists.specs.Lists.{is_found}
use Rattle.table.specs.Table.{done, no_record, Rows, find_record, same_payment}
use Rattle.table.specs.Accounts.{accounts_of, find_account, balance_at}
use Rattle.rules.specs.declared.decision.Standing.{Standing}
use Rattle.rules.specs.declared.decision.Standing.TheVariants.{Unrecorded, Done, Cancelled, Other}
use Rattle.rules.specs.declared.decision.View.{View}
use Rattle.rules.specs.declared.decision.Change.TheVariants.{Append}
use Rattle.planning.specs.declared.plan.Plan.{Plan}
use Rattle.rules.specs.Decision.{decision}
use Rattle.rules.specs.Answering.{is_cancel}

-- a place that was found, below a bound
pub record Within (f : Option ℕ) (n : ℕ) : Type 0 where
  pub at : (i : ℕ) → f ≡ Some i → i < n

-- the record that a receipt has
abbrev pub record_found : List Record → Option ℕ → Record
record_found rs (Some i) = get_or rs i no_record
record_found rs None = no_record

-- document 02, [3]: a payment tells number, type, amount and date, and its record is to have them; status and cancel tell a receipt only
abbrev pub agrees : Action → Details → Record → Bool
agrees Check d r = true
agrees Payment d r = same_payment d.number d.kind d.amount d.date r
agrees Status d r = true
agrees Cancel d r = true

-- how the receipt of an instruction stands, by the record that it has
abbrev pub standing_of : Instruction → Option ℕ → Record → Standing
standing_of q None r = Unrecorded
standing_of q (Some i) r = cond (agrees q.action q.details r) (cond (eqb r.state done) Done Cancelled) Other

-- whether the day of a date is closed
unfoldable pub date_closed : Gate → List ℕ → Bool
date_closed g date = up_to g.closed (date_day date)

-- a cancel concerns its record's account and date, every other action its own
unfoldable pub account_of : Gate → Instruction → Record → Option ℕ
account_of g q r =
    cond (is_cancel q.action) (find_account r.number r.kind (accounts_of g)) (find_account q.details.number q.details.kind (accounts_of g))

unfoldable pub date_of : Instruction → Record → List ℕ
date_of q r = cond (is_cancel q.action) r.date q.details.date

abbrev pub is_short : Gate → Option ℕ → ℕ → Bool
is_short g None n = false
is_short g (Some a) n = lt_z (balance_at g a) (pos n)

unfoldable pub is_full : Gate → ℕ → Bool
is_full g lent = leb lent g.used

unfoldable pub view_of : Gate → ℕ → Instruction → Record → Option ℕ → View
view_of g lent q r account =
    record { known = is_found account; full = is_full g lent; closed = date_closed g (date_of q r); short = is_short g account r.amount }

-- the decision for an instruction, with the record and the account that it concerns; a fault of its request decides first
unfoldable pub plan_with : Gate → ℕ → ℕ → Instruction → Option ℕ → Record → Plan
plan_with g lent fault q found r =
    record {
      decided = decision fault q.action (standing_of q found r) (view_of g lent q r (account_of g q r));
      found = found;
      payment = r;
      account = account_of g q r;
    }

unfoldable pub plan_of : Gate → List Record → ℕ → ℕ → Instruction → Plan
plan_of g rs lent fault q = plan_with g lent fault q (find_record q.details.receipt rs) (record_found rs (find_record q.details.receipt rs))

-- what a change of so many records may lean on: room for one more, a place that is there, an amount in its range
pub record Planned (used : ℕ) (t : Rows) (p : Plan) : Type 0 where
  pub room : p.decided.change ≡ Append → used < length t.nums
  pub found : Within p.found used
  pub amount : p.payment.amount < 1000000000
