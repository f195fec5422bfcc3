-- Document 01, "Agent" and the rows 68, 60, 62 and 64: an answer is handed in together with the action and the receipt that it answers.
use Rattle.std.specs.Prelude.{ℕ, List, Bool, true, false, cond, eqb, get_or, set, Option, Some, None, is_some}
use Rattle.fields.specs.Codes.{is_receipt}
use Rattle.payments.specs.declared.Action.{Action}
use Rattle.payments.specs.declared.Action.TheVariants.{Check, Payment, Status, Cancel}
use Rattle.payments.specs.declared.Answer.{Answer}
use Rattle.answer_reader.specs.AnswerRead.{answer_read, answer_in}
use Rattle.book.specs.declared.Book.{Book}
use Rattle.book.specs.declared.Entry.{Entry}
use Rattle.book.specs.declared.State.{State}
use Rattle.book.specs.declared.State.TheVariants.{Asked, Credited, CancelAsked, Cancelled, Unposted}
use Rattle.book.specs.Entries.{BookRows, state_of, state_number, no_entry, entries_of, book_from, find_entry}
use Rattle.book_validity.specs.BookValid.{book_good}
use Rattle.answering.specs.declared.meaning.Meaning.{Meaning}
use Rattle.answering.specs.declared.meaning.Meaning.TheVariants.{Paid, Revoked, Silent}
use Rattle.daybook.specs.Freezing.{is_frozen}

-- what an answer answers and leaves
pub record Taking : Type 0 where
  pub code : ℕ
  pub rows : BookRows

abbrev pub taking_of : ℕ → BookRows → Taking
taking_of code rows = record { code = code; rows = rows }

-- ---- what an answer says: paid is payment's or status' 0, revoked is any 7 and cancel's 0; whatever else it says leaves the payment open
unfoldable pub payment_meaning : ℕ → Meaning
payment_meaning code = cond (eqb code 0) Paid (cond (eqb code 7) Revoked Silent)

unfoldable pub cancel_meaning : ℕ → Meaning
cancel_meaning code = cond (eqb code 0) Revoked (cond (eqb code 7) Revoked Silent)

unfoldable pub meaning : Action → ℕ → Meaning
meaning Check code = Silent
meaning Payment code = payment_meaning code
meaning Status code = payment_meaning code
meaning Cancel code = cancel_meaning code

-- ---- the state that it leaves: paid turns asked to credited, revoked turns asked and cancel-asked to cancelled
unfoldable pub turned : Meaning → State → State
turned Paid Asked = Credited
turned Paid Credited = Credited
turned Paid CancelAsked = CancelAsked
turned Paid Cancelled = Cancelled
turned Paid Unposted = Unposted
turned Revoked Asked = Cancelled
turned Revoked Credited = Credited
turned Revoked CancelAsked = Cancelled
turned Revoked Cancelled = Cancelled
turned Revoked Unposted = Unposted
turned Silent s = s

-- whether asked turns to credited: then an authcode that the answer has is stored
unfoldable pub credits : Meaning → State → Bool
credits Paid Asked = true
credits Paid Credited = false
credits Paid CancelAsked = false
credits Paid Cancelled = false
credits Paid Unposted = false
credits Revoked s = false
credits Silent s = false

unfoldable pub authcode_after : Bool → Answer → Entry → ℕ
authcode_after credited x e = cond credited (cond x.authorized x.authcode e.authcode) e.authcode

unfoldable pub answered_entry : Meaning → Answer → Entry → Entry
answered_entry m x e =
    record {
      receipt = e.receipt;
      number = e.number;
      kind = e.kind;
      amount = e.amount;
      date = e.date;
      state = state_number (turned m (state_of e.state));
      authcode = authcode_after (credits m (state_of e.state)) x e;
    }

-- ---- the call
abbrev pub took : ℕ → BookRows → Taking
took code t = record { code = code; rows = t }

-- an entry of a frozen day is moved by no answer
unfoldable pub take_at_place : Book → BookRows → Action → List ℕ → Option ℕ → Taking
take_at_place b t a text None = took 62 t
take_at_place b t a text (Some i) =
    let e = get_or (entries_of t b.used) i no_entry in
    cond (is_some (answer_read a text))
    (cond (is_frozen b e.date) (took 0 t)
    (took 0 (book_from t (set (entries_of t b.used) i (answered_entry (meaning a (answer_in (answer_read a text)).code) (answer_in (answer_read a text)) e)))))
    (took 64 t)

unfoldable pub take_receipt : Book → BookRows → Action → ℕ → List ℕ → Taking
take_receipt b t a receipt text = cond (is_receipt receipt) (take_at_place b t a text (find_entry receipt (entries_of t b.used))) (took 60 t)

-- a check's answer has no receipt and moves nothing
abbrev pub is_check : Action → Bool
is_check Check = true
is_check Payment = false
is_check Status = false
is_check Cancel = false

unfoldable pub check_code : List ℕ → ℕ
check_code text = cond (is_some (answer_read Check text)) 0 64

unfoldable pub take_answer : Book → BookRows → Action → ℕ → List ℕ → Taking
take_answer b t a receipt text =
    cond (book_good b t) (cond (is_check a) (took (check_code text) t) (take_receipt b t a receipt text)) (took 68 t)
