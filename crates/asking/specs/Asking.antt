-- Document 01, "Agent": which requests an entry allows, what they say, and what writing them makes of it.
use Rattle.std.specs.Prelude.{ℕ, Bool, true, false, not, ◌&&◌}
use Rattle.fields.specs.declared.number.Number.{Number}
use Rattle.fields.specs.Codes.{is_receipt, is_reason}
use Rattle.dates.specs.Date.{empty_date}
use Rattle.payments.specs.declared.Action.{Action}
use Rattle.payments.specs.declared.Action.TheVariants.{Check, Payment, Status, Cancel}
use Rattle.message.specs.declared.request.Asked.{Asked as Request}
use Rattle.book.specs.declared.Book.{Book}
use Rattle.book.specs.declared.Entry.{Entry}
use Rattle.book.specs.declared.State.{State}
use Rattle.book.specs.declared.State.TheVariants.{Asked, Credited, CancelAsked, Cancelled, Unposted}
use Rattle.book.specs.Entries.{state_of, state_number}
use Rattle.daybook.specs.Freezing.{is_frozen}

-- a payment while it is asked, a status always, a cancel until the payment is cancelled or unposted
unfoldable pub may_write : Action → State → Bool
may_write Check s = true
may_write Payment Asked = true
may_write Payment Credited = false
may_write Payment CancelAsked = false
may_write Payment Cancelled = false
may_write Payment Unposted = false
may_write Status s = true
may_write Cancel Asked = true
may_write Cancel Credited = true
may_write Cancel CancelAsked = true
may_write Cancel Cancelled = false
may_write Cancel Unposted = false

-- the entry with another state
abbrev pub with_state : Entry → State → Entry
with_state e s =
    record {
      receipt = e.receipt;
      number = e.number;
      kind = e.kind;
      amount = e.amount;
      date = e.date;
      state = state_number s;
      authcode = e.authcode;
    }

-- a cancel makes its entry cancel-asked
unfoldable pub written_entry : Action → Entry → Entry
written_entry Check e = e
written_entry Payment e = e
written_entry Status e = e
written_entry Cancel e = with_state e CancelAsked

-- the request of an entry
unfoldable pub request_of : Action → Entry → ℕ → Request
request_of a e reason =
    record {
      action = a;
      number = e.number;
      kind = e.kind;
      amount = e.amount;
      receipt = e.receipt;
      date = e.date;
      reason = reason;
    }

-- a check concerns no entry
unfoldable pub check_of : Number → ℕ → ℕ → Request
check_of n k amount = record { action = Check; number = n; kind = k; amount = amount; receipt = 0; date = empty_date; reason = 0 }

-- a malformed receipt, and a cancel's malformed reason, are 60
unfoldable pub forms_good : Action → ℕ → ℕ → Bool
forms_good Check receipt reason = is_receipt receipt
forms_good Payment receipt reason = is_receipt receipt
forms_good Status receipt reason = is_receipt receipt
forms_good Cancel receipt reason = is_receipt receipt && is_reason reason

-- on an unfrozen day, in a state that allows it
unfoldable pub is_open : Book → Action → Entry → Bool
is_open b a e = may_write a (state_of e.state) && not (is_frozen b e.date)
