-- Laws of a registry that is delivered, at each way out of the call.
use Prim.Native.Nat.{ℕ, ◌<◌}
use native.Mathlib.Omega.{arith}
use mathlib.Core.Path.{◌≡◌, ◌∙◌}
use mathlib.Core.Bool.{true}
use mathlib.Core.List.{List}
use lib.ListN.{length}
use Rattle.days.specs.declared.calendar.Day.{Day}
use Rattle.fields.specs.Amount.{is_amount}
use Rattle.fields.specs.Codes.{is_receipt}
use Rattle.texts.proofs.Tests.{and_left, and_right}
use Rattle.texts.proofs.DigitLaws.{within-high}
use Rattle.lines.specs.declared.line.Line.{Line}
use Rattle.registry.specs.Registry.{registry_lines, fault_code, registry_fault}
use Rattle.registry.specs.declared.text.Fault.{Fault}
use Rattle.registry.specs.declared.text.Fault.TheVariants.{BadLine, TooMany, Unordered}
use Rattle.table.specs.declared.Gate.{Gate}
use Rattle.table.specs.declared.Record.{Record}
use Rattle.table.specs.Table.{Rows, record_at}
use Rattle.validity.specs.Valid.{ranges_good, record_good, authcode_good, table_good, Ready}
use Rattle.validity.proofs.GoodLaws.{good-table}
use Rattle.settlement.specs.Settle.{settle_read, settle}
use Rattle.settlement.specs.SettleText.{settle_text}
use Rattle.admission.specs.Delivery.{Delivery, admission}
use Rattle.admission.proofs.AdmissionLaws.{refused-by, admitted-by}
use Rattle.posting.specs.Steps.{Held}

-- ---- what the checks give to the functions behind them
good-amount : (g : Gate) (i : ℕ) (r : Record) → record_good g i r ≡ true → r.amount < 1000000000
unfolding record_good ranges_good
good-amount g i r h =
    let ranges = and_left (ranges_good r) _ (and_right (authcode_good i r) _ h) in
    let amount = and_left (is_amount r.amount) _ (and_right (is_receipt r.receipt) _ ranges) in
    omega (arith, within-high 1 999999999 r.amount amount)

pub held-ready : (g : Gate) (t : Rows) → Ready g t → table_good g t ≡ true → Held g t 10000000000000
held-ready g t ready good =
    record { backed = ready; small = λ i h. good-amount g i (record_at t i) ((good-table g t ready.funds.places good).records i h) }

-- ---- a text that was read
module _ (g : Gate) (t : Rows) (clock : List ℕ) (day : Day) (s out : List ℕ) where
  pub text-fault : (fault : Fault) → registry_fault day s ≡ fault_code fault → (rows : Rows) → rows ≡ t → (left : List ℕ) → left ≡ out → (n : ℕ) → n ≡ fault_code fault
      → ◌≡◌ {A = Delivery} (record { code = n; gate = g; rows = rows; out = left; size = 0 }) (settle_text g t clock day s out)
  unfolding settle_text
  text-fault BadLine f rows er left el n en = rw (er, el, en, f)
  text-fault TooMany f rows er left el n en = rw (er, el, en, f)
  text-fault Unordered f rows er left el n en = rw (er, el, en, f)

  pub text-read : registry_fault day s ≡ 0 → (xs : List Line) → xs ≡ registry_lines s
      → (d : Delivery) → d ≡ settle_read g t clock day xs out → d ≡ settle_text g t clock day s out
  unfolding settle_text
  text-read f xs lines d e = e ∙ rw (lines, f)

-- ---- the call
module _ (g : Gate) (t : Rows) (clock : List ℕ) (day : Day) (s out : List ℕ) (a : ℕ) (ea : a ≡ admission g t clock (length out)) where
  pub not-admitted : (a ≡ 0 → ⊥) → (rows : Rows) → rows ≡ t → (left : List ℕ) → left ≡ out
      → ◌≡◌ {A = Delivery} (record { code = a; gate = g; rows = rows; out = left; size = 0 }) (settle g t clock day s out)
  unfolding settle
  not-admitted n rows er left el = rw (er, el) (refused-by g t clock out a ea n _)

  pub settle-read : a ≡ 0 → (d : Delivery) → d ≡ settle_text g t clock day s out → d ≡ settle g t clock day s out
  unfolding settle settle_text
  settle-read z d e = e ∙ admitted-by g t clock out a ea z _
