-- Laws of a request delivered to the gate.
use Rattle.std.specs.Prelude.{Option, Some, None, Result}
use Prim.Native.Nat.{ℕ, ◌<◌}
use native.Mathlib.Omega.{arith}
use mathlib.Core.Path.{◌≡◌, refl, sym, ◌∙◌}
use mathlib.Core.Bool.{Bool, true, false}
use mathlib.Core.List.{List}
use lib.Dec.{leb}
use lib.ListN.{length, get_or}
use Rattle.texts.specs.Lists.{written, cursor_after}
use Rattle.payments.specs.declared.Action.{Action}
use Rattle.payments.specs.declared.Instruction.{Instruction}
use Rattle.message.specs.declared.request.Asked.{Asked}
use Rattle.message.specs.declared.request.Refusal.{Refusal}
use Rattle.message.specs.declared.request.Fault.{Fault}
use Rattle.message.specs.declared.request.Fault.TheVariants.{NoAction, Malformed}
use Rattle.fields.specs.Amount.{amount_read}
use Rattle.texts.proofs.Tests.{cond-elim}
use Rattle.texts.proofs.DigitLaws.{within-high}
use Rattle.fields.proofs.AmountLaws.{amount-within}
use Rattle.coding.specs.Url.{decoded}
use Rattle.payments.specs.declared.Action.TheVariants.{Check}
use Rattle.parameters.specs.Names.{action_of, has_account}
use Rattle.parameters.specs.Slots.{Slot, Absent, Holds, Gathered, Broken, Values, gathered}
use Rattle.message.specs.Request.{held, field_of, value_in, nothing_asked, fault_number, refused, field_fault, asked_of, judged, fields_asked, fields_read, action_read, values_read, request_read}
use Rattle.payments.specs.declared.Answer.{Answer}
use Rattle.answers.specs.Answer.{answer_bytes}
use Rattle.table.specs.declared.Record.{Record}
use Rattle.table.specs.declared.Gate.{Gate}
use Rattle.table.specs.Table.{Rows}
use Rattle.table.specs.declared.Head.{Head}
use Rattle.table.proofs.ColumnLaws.{by-columns}
use Rattle.table.specs.Columns.{Columns, gate_of, head_of}
use Rattle.ledger.specs.Change.{Executes}
use Rattle.rules.specs.Answering.{answer_of}
use Rattle.gate.specs.Deliver.{instruction_of, respond, deliver}
use Rattle.admission.specs.Delivery.{Delivery, admission}
use Rattle.admission.proofs.AdmissionLaws.{refused-by, admitted-by}

pub executed-answered : (g : Gate) (t : Rows) (clock : List ℕ) (fault : ℕ) (q : Asked) (out : List ℕ) (i : Instruction) (code : ℕ) (gate : Gate) (subject : Record) (rows : Rows) (x : Answer) (left : List ℕ) (size : ℕ)
    → i ≡ instruction_of q → Executes g t clock fault i code gate subject rows
    → x ≡ answer_of q.action code subject clock → size ≡ cursor_after out 0 (answer_bytes x) → left ≡ written out 0 (answer_bytes x)
    → ◌≡◌ {A = Delivery} (record { code = code; gate = gate; rows = rows; out = left; size = size }) (respond g t clock fault (instruction_of q) out)
unfolding respond
executed-answered g t clock fault q out i code gate subject rows x left size ei done ex es el =
    let made = done.made in rw (← ei, el, es, ex, done.codes, made.subjects, made.gates, made.left, ei)

-- the gate by value is the one that was put into columns
pub delivered-packed : (g : Gate) (h h' : Head) (a a' : Columns) (t t' : Rows) (clock params out out' : List ℕ) (code size : ℕ) (gate : Gate) → gate_of (head_of g) a ≡ g → h ≡ head_of g
    → ◌≡◌ {A = Delivery} (record { code = code; gate = gate_of h' a'; rows = t'; out = out'; size = size }) (deliver (gate_of h a) t clock params out)
    → gate ≡ gate_of h' a' → ◌≡◌ {A = Delivery} (record { code = code; gate = gate; rows = t'; out = out'; size = size }) (deliver g t clock params out)
delivered-packed g h h' a a' t t' clock params out out' code size gate unpacked eh done packed =
    by-columns (λ (x : Gate). record { code = code; gate = x; rows = t'; out = out'; size = size }) (λ (x : Gate). deliver x t clock params out) g gate h h' a a' unpacked eh packed done

-- what a request asks is in its range whatever the wire
pub instruction-amount : (q : Asked) (i : Instruction) → i ≡ instruction_of q → q.amount < 1000000000 → i.details.amount < 1000000000
instruction-amount q i e h = rw e h

-- ---- the ways out of a delivery
module _ (g : Gate) (t : Rows) (clock params out : List ℕ) (f : ℕ) (ef : f ≡ admission g t clock (length out)) where
  pub not-admitted : (f ≡ 0 → ⊥) → (rows : Rows) → rows ≡ t → (left : List ℕ) → left ≡ out
      → ◌≡◌ {A = Delivery} (record { code = f; gate = g; rows = rows; out = left; size = 0 }) (deliver g t clock params out)
  unfolding deliver
  not-admitted n rows er left el = rw (er, el) (refused-by g t clock out f ef n _)

  -- a request that was read
  pub read_done : f ≡ 0 → (q : Result Asked Refusal) → q ≡ request_read params → (fault : ℕ) → fault ≡ fault_number q → (asked : Asked) → asked ≡ asked_of q
      → (d : Delivery) → d ≡ respond g t clock fault (instruction_of asked) out → d ≡ deliver g t clock params out
  unfolding deliver
  read_done z q eq fault ef' asked ea d e = e ∙ rw (ef', ea, eq) (admitted-by g t clock out f ef z _)

-- ---- an amount that was read is in its range
held-amount : (used : Bool) (k : Slot) → value_in 0 (field_of used (Some 0) None amount_read k) < 1000000000
unfolding field_of held
held-amount false k = omega arith
held-amount true Absent = omega arith
held-amount true (Holds v) = go (amount_read (decoded v)) refl
  where
    go : (d : Option ℕ) → amount_read (decoded v) ≡ d → value_in 0 d < 1000000000
    go None e = omega arith
    go (Some x) e = omega (arith, within-high 1 999999999 x (amount-within (decoded v) x (sym e)))

refused-amount : (f : Fault) (a : Action) → (asked_of (refused f a)).amount < 1000000000
unfolding nothing_asked
refused-amount f a = omega arith

fields-amount : (a : Action) (s : List Slot) → (asked_of (fields_read a s)).amount < 1000000000
unfolding fields_read fields_asked
fields-amount a s = go (field_fault a s)
  where
    go : (f : Option Fault) → (asked_of (judged f a (fields_asked a s))).amount < 1000000000
    go None = held-amount (has_account a) (get_or s 3 Absent)
    go (Some f) = refused-amount f a

values-amount : (x : Gathered) → (asked_of (values_read x)).amount < 1000000000
values-amount Broken = refused-amount Malformed Check
values-amount (Values s) = go (held None action_of (get_or s 0 Absent))
  where
    go : (a : Option Action) → (asked_of (action_read a s)).amount < 1000000000
    go None = refused-amount NoAction Check
    go (Some a) = fields-amount a s

pub asked-amount : (s : List ℕ) (q : Result Asked Refusal) → q ≡ request_read s → (asked : Asked) → asked ≡ asked_of q → asked.amount < 1000000000
unfolding request_read
asked-amount s q e asked ea =
    rw (ea, e)
    (cond-elim (λ (r : Result Asked Refusal). (asked_of r).amount < 1000000000) (leb (length s) 2048) (values_read (gathered s)) (refused Malformed Check)
    (λ _. values-amount (gathered s))
    (λ _. refused-amount Malformed Check))
