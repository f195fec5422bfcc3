-- Document 02, [3]: a payment whose receipt is recorded. Where it tells what the record has, it is answered as before that request: 0 or 7 with the
-- record's authcode and date. Any other gets 4, whatever the record's state, the day, the account and the table. Nothing moves in either case.
use Rattle.std.specs.Prelude.{Some}
use Prim.Native.Nat.{ℕ, ◌≤◌, ◌<◌}
use mathlib.Core.Path.{◌≡◌, refl}
use mathlib.Core.Bool.{Bool, true, false, cond}
use mathlib.Core.List.{List}
use lib.ListN.{length}
use borrow.Author.Tests.{le-leb}
use Rattle.texts.specs.Lists.{written, cursor_after}
use Rattle.dates.specs.Date.{is_written}
use Rattle.fields.proofs.NumberLaws.{same_refl}
use Rattle.payments.specs.declared.Action.{Action}
use Rattle.payments.specs.declared.Action.TheVariants.{Check, Payment, Status, Cancel}
use Rattle.payments.specs.declared.Answer.{Answer}
use Rattle.payments.specs.declared.Details.{Details}
use Rattle.payments.specs.declared.Instruction.{Instruction}
use Rattle.message.specs.Request.{request_read, asked_of, fault_number}
use Rattle.answers.specs.Answer.{answer_bytes}
use Rattle.table.specs.declared.Record.{Record}
use Rattle.table.specs.declared.Gate.{Gate}
use Rattle.table.specs.Table.{Rows, no_record, record_at, records_of, find_record, same_payment}
use Rattle.table.specs.Daily.{is_done}
use Rattle.table.proofs.TableLaws.{get_d-records, receipt-within, rows-kept}
use Rattle.table.proofs.PaymentLaws.{four-payment}
use Rattle.validity.specs.Valid.{table_good, Ready}
use Rattle.rules.specs.declared.decision.Standing.TheVariants.{Done, Cancelled, Other}
use Rattle.rules.specs.Decision.{decision_on, decision}
use Rattle.rules.specs.Answering.{is_cancel, answers_authcode, answers_date, answer_date, answer_of}
use Rattle.planning.specs.Plan.{agrees, standing_of, plan_with, plan_of}
use Rattle.ledger.specs.Change.{make_record, revoked, changed}
use Rattle.gate.specs.Deliver.{instruction_in, respond, deliver}
use Rattle.admission.specs.Delivery.{Delivery}
use Rattle.gate_theorems.proofs.AnsweredTheorems.{asks}

-- what a repeat is told of its record
abbrev pub repeat_answer : Record → Answer
repeat_answer r = record { code = cond (is_done r) 0 7; authorized = true; authcode = r.authcode; dated = true; date = cond (is_done r) r.credit r.cancel }

-- what another payment is told
abbrev pub other_answer : List ℕ → Answer
other_answer clock = record { code = 4; authorized = false; authcode = 0; dated = true; date = clock }

-- an answer is written, and nothing else changes
abbrev pub only : Gate → Rows → List ℕ → Answer → Delivery
only g t out x = record { code = x.code; gate = g; rows = t; out = written out 0 (answer_bytes x); size = cursor_after out 0 (answer_bytes x) }

module _ (g : Gate) (t : Rows) (ready : Ready g t) (clock params out : List ℕ) (good : table_good g t ≡ true) (room : 512 ≤ length out) (dated : is_written clock ≡ true)
    (sound : fault_number (request_read params) ≡ 0) (payment : asks params ≡ Payment) (i : ℕ) (there : find_record (asked_of (request_read params)).receipt (records_of t g.used) ≡ Some i) where
  abbrev told : Bool
  told = agrees Payment (instruction_in params).details (record_at t i)

  within : i < g.used
  within = receipt-within t g.used (asked_of (request_read params)).receipt i (find_record (asked_of (request_read params)).receipt (records_of t g.used)) refl there

  -- the same number, type, amount and date
  pub repeat-answered : told ≡ true → deliver g t clock params out ≡ only g t out (repeat_answer (record_at t i))
  unfolding deliver respond plan_of plan_with decision decision_on changed answer_of answers_authcode answers_date answer_date is_cancel
  repeat-answered same = go (is_done (record_at t i)) refl
    where
      go : (z : Bool) → is_done (record_at t i) ≡ z → deliver g t clock params out ≡ only g t out (repeat_answer (record_at t i))
      go true e = rw (good, le-leb 512 (length out) room, dated, sound, payment, there, get_d-records t g.used i no_record within, same, e, rows-kept t g.used ready.whole) refl
      go false e = rw (good, le-leb 512 (length out) room, dated, sound, payment, there, get_d-records t g.used i no_record within, same, e, rows-kept t g.used ready.whole) refl

  -- another
  pub other-answered : told ≡ false → deliver g t clock params out ≡ only g t out (other_answer clock)
  unfolding deliver respond plan_of plan_with decision decision_on changed answer_of answers_authcode answers_date answer_date
  other-answered differs = rw (good, le-leb 512 (length out) room, dated, sound, payment, there, get_d-records t g.used i no_record within, differs, rows-kept t g.used ready.whole) refl

-- ---- the record that a payment made is of that payment, and stays so when it is cancelled
pub made-agrees : (g : Gate) (clock : List ℕ) (d : Details) → agrees Payment d (make_record g clock d) ≡ true
unfolding make_record
made-agrees g clock d = four-payment d.number d.kind d.amount d.date (make_record g clock d) (record { number = same_refl d.number; kind = refl; amount = refl; date = refl })

pub revoked-agrees : (clock : List ℕ) (r : Record) (d : Details) → agrees Payment d (revoked clock r) ≡ agrees Payment d r
unfolding revoked same_payment
revoked-agrees clock r d = refl

-- ---- every other action goes by the state of the record, as before
pub by_state : (q : Instruction) (i : ℕ) (r : Record) → (q.action ≡ Payment → ⊥) → standing_of q (Some i) r ≡ cond (is_done r) Done Cancelled
by_state q i r other = go q.action refl
  where
    go : (a : Action) → q.action ≡ a → cond (agrees a q.details r) (cond (is_done r) Done Cancelled) Other ≡ cond (is_done r) Done Cancelled
    go Check e = refl
    go Payment e = absurd (other e)
    go Status e = refl
    go Cancel e = refl
