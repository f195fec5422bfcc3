-- A recorded receipt is never credited again.
use Rattle.std.specs.Prelude.{Option, Some, None}
use Prim.Native.Nat.{ℕ, zero, suc, ◌+◌, ◌-◌}
use native.Mathlib.Omega.{arith}
use mathlib.Core.Path.{◌≡◌, refl, sym, ap, ◌∙◌}
use mathlib.Core.Bool.{Bool, true, false, cond}
use mathlib.Core.List.{List, [], ◌∷◌}
use lib.Dec.{ltb, le→leb}
use lib.IntN.{ℤ, pos, negsuc, sub_ℕ, ◌-ℤ◌}
use lib.Signed.{◌≤ℤ◌, ≤ℤ_refl, le_z_yes}
use lib.ListN.{get_or, set}
use borrow.Author.Tests.{lt-ltb}
use Rattle.payments.specs.declared.Action.TheVariants.{Payment, Cancel}
use Rattle.payments.specs.declared.Instruction.{Instruction}
use Rattle.message.specs.Request.{request_read, asked_of, fault_number}
use Rattle.table.specs.declared.Account.{Account}
use Rattle.table.specs.declared.Gate.{Gate}
use Rattle.table.specs.declared.Record.{Record}
use Rattle.table.specs.Table.{Rows, records_of, find_record, rows_from}
use Rattle.table.specs.Accounts.{no_account, balance_at, with_balance, debited}
use Rattle.table.proofs.TableLaws.{length-records, records-from}
use Rattle.rules.specs.declared.decision.Change.TheVariants.{Append}
use Rattle.table.specs.Table.{no_record}
use Rattle.planning.specs.Plan.{record_found, standing_of, account_of, view_of, plan_with, plan_of}
use Rattle.ledger.specs.Change.{debited_at}
use Rattle.gate.specs.Deliver.{instruction_in, respond, deliver}
use Rattle.admission.specs.Delivery.{Delivery}
use Rattle.rules.proofs.DecisionLaws.{Appends, append-of}
use Rattle.gate_theorems.proofs.OutcomeLaws.{missing-of, Outcome, stays, appends, revokes, outcome}
use Rattle.gate_theorems.proofs.KeepsLaws.{delivered-by}
use Rattle.ledger.proofs.ChangeLaws.{debit-used}

-- ---- balances that a debit lowers
sub-below : (a n : ℕ) → sub_ℕ a n ≤ℤ pos a
sub-below a n = pick (ltb a n)
  where
    pick : (b : Bool) → cond b (negsuc (n - suc a)) (pos (a - n)) ≤ℤ pos a
    pick true = le_z_yes tt
    pick false = le_z_yes (le→leb (a - n) a (omega arith))

minus-below : (z : ℤ) (n : ℕ) → (z -ℤ pos n) ≤ℤ z
minus-below (pos a) zero = le_z_yes (le→leb (a + 0) a (omega arith))
minus-below (pos a) (suc n) = sub-below a (suc n)
minus-below (negsuc a) zero = pick (ltb 0 (suc a)) (lt-ltb 0 (suc a) (omega arith))
  where
    pick : (b : Bool) → b ≡ true → cond b (negsuc (suc a - suc 0)) (pos (0 - suc a)) ≤ℤ negsuc a
    pick true e = le_z_yes (le→leb a (suc a - suc 0) (omega arith))
    pick false e = let z : ◌≡◌ {A = ℕ} 0 1 = cc in absurd (omega arith)
minus-below (negsuc a) (suc n) = le_z_yes (le→leb a (suc (a + n)) (omega arith))

balance-set : (l : List Account) (i j : ℕ) (x : Account) → x.balance ≤ℤ (get_or l i no_account).balance
    → (get_or (set l i x) j no_account).balance ≤ℤ (get_or l j no_account).balance
balance-set [] i j x h = ≤ℤ_refl _
balance-set (y ∷ l) zero zero x h = h
balance-set (y ∷ l) zero (suc j) x h = ≤ℤ_refl _
balance-set (y ∷ l) (suc i) zero x h = ≤ℤ_refl _
balance-set (y ∷ l) (suc i) (suc j) x h = balance-set l i j x h

debit-below : (g : Gate) (f : Option ℕ) (n j : ℕ) → balance_at (debited_at g f n) j ≤ℤ balance_at g j
unfolding debited
debit-below g None n j = ≤ℤ_refl _
debit-below g (Some a) n j = balance-set g.accounts a j (with_balance (get_or g.accounts a no_account) (balance_at g a -ℤ pos n)) (minus-below (balance_at g a) n)

-- rows written from their own records hold the same records
pub same-records : (t : Rows) (n : ℕ) → records_of (rows_from t (records_of t n)) n ≡ records_of t n
same-records t n = rw (length-records t n) at (records-from t (records_of t n) no_record)

-- ---- a request whose receipt is recorded
-- its decision never appends: it keeps or revokes
pub once-decided : (g : Gate) (rs : List Record) (lent fault : ℕ) (q : Instruction) (i : ℕ) → find_record q.details.receipt rs ≡ Some i → (plan_of g rs lent fault q).decided.change ≡ Append → ⊥
unfolding plan_of plan_with
once-decided g rs lent fault q i known h =
    let f : Option ℕ = find_record q.details.receipt rs in
    let r : Record = record_found rs f in
    let b : Appends fault q.action (standing_of q f r) (view_of g lent q r (account_of g q r)) = append-of fault q.action (standing_of q f r) (view_of g lent q r (account_of g q r)) h in
    let y : Some i ≡ None = sym known ∙ missing-of q f r b.standing in
    let z : ◌≡◌ {A = ℕ} 0 1 = cc in
    omega arith

module _ (g : Gate) (t : Rows) (clock : List ℕ) (fault : ℕ) (q : Instruction) (out : List ℕ) (i : ℕ) (known : find_record q.details.receipt (records_of t g.used) ≡ Some i) where
  absent : {A : Type 0} → find_record q.details.receipt (records_of t g.used) ≡ None → A
  absent e = let y : Some i ≡ None = sym known ∙ e in let z : ◌≡◌ {A = ℕ} 0 1 = cc in absurd (omega arith)

  -- the number of records stays
  pub once-used : (respond g t clock fault q out).gate.used ≡ g.used
  once-used = go (respond g t clock fault q out) (outcome g t clock fault q out)
    where
      go : (d : Delivery) → Outcome g t clock q d → d.gate.used ≡ g.used
      go d (stays eg er) = ap (λ (x : Gate). x.used) eg
      go d (appends a ea en ef room day ec eg er) = absent en
      go d (revokes k r f ea ek er ef es day fu ec eg el) = ap (λ (x : Gate). x.used) eg ∙ debit-used g f r.amount

  -- no balance goes up
  pub once-balance : (j : ℕ) → balance_at (respond g t clock fault q out).gate j ≤ℤ balance_at g j
  once-balance j = go (respond g t clock fault q out) (outcome g t clock fault q out)
    where
      go : (d : Delivery) → Outcome g t clock q d → balance_at d.gate j ≤ℤ balance_at g j
      go d (stays eg er) = rw eg (≤ℤ_refl (balance_at g j))
      go d (appends a ea en ef room day ec eg er) = absent en
      go d (revokes k r f ea ek er ef es day fu ec eg el) = rw eg (debit-below g f r.amount j)

  -- a payment sent again leaves the gate and the records exactly as they were
  pub once-payment : q.action ≡ Payment
      → ((respond g t clock fault q out).gate ≡ g) × (records_of (respond g t clock fault q out).rows g.used ≡ records_of t g.used)
  once-payment p = go (respond g t clock fault q out) (outcome g t clock fault q out)
    where
      go : (d : Delivery) → Outcome g t clock q d → (d.gate ≡ g) × (records_of d.rows g.used ≡ records_of t g.used)
      go d (stays eg er) = (eg, ap (λ (x : Rows). records_of x g.used) er ∙ same-records t g.used)
      go d (appends a ea en ef room day ec eg er) = absent en
      go d (revokes k r f ea ek er ef es day fu ec eg el) = let y : Payment ≡ Cancel = sym p ∙ ea in let z : ◌≡◌ {A = ℕ} 0 1 = cc in absurd (omega arith)

-- ---- the same for a delivery
module _ (g : Gate) (t : Rows) (clock params out : List ℕ) (i : ℕ) (known : find_record (asked_of (request_read params)).receipt (records_of t g.used) ≡ Some i) where
  -- a delivery of a recorded receipt adds no record
  pub delivered-once : (deliver g t clock params out).gate.used ≡ g.used
  delivered-once =
      delivered-by g t clock params out (λ (d : Delivery). d.gate.used ≡ g.used) (λ code left size. refl)
      (λ _ _. once-used g t clock (fault_number (request_read params)) (instruction_in params) out i known)

  -- and raises no balance
  pub delivered-balance : (j : ℕ) → balance_at (deliver g t clock params out).gate j ≤ℤ balance_at g j
  delivered-balance j =
      delivered-by g t clock params out (λ (d : Delivery). balance_at d.gate j ≤ℤ balance_at g j) (λ code left size. ≤ℤ_refl (balance_at g j))
      (λ _ _. once-balance g t clock (fault_number (request_read params)) (instruction_in params) out i known j)
