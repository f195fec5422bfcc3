-- What a delivery may change: only a payment adds a record, and only a cancel revokes one.
use Rattle.std.specs.Prelude.{Option, Some, None}
use Prim.Native.Nat.{ℕ, ◌+◌, ◌<◌}
use native.Mathlib.Omega.{arith}
use mathlib.Core.Path.{◌≡◌, refl, sym, ap, ◌∙◌}
use mathlib.Core.Bool.{Bool, true, false, cond}
use mathlib.Core.List.{List, [], ◌∷◌, ◌++◌}
use lib.Dec.{eqb}
use lib.ListN.{length, set}
use borrow.Author.Tests.{leb-false, eqb-true}
use Rattle.texts.proofs.Tests.{cond-elim}
use Rattle.payments.specs.declared.Action.TheVariants.{Payment, Cancel}
use Rattle.payments.specs.declared.Instruction.{Instruction}
use Rattle.table.specs.declared.Record.{Record}
use Rattle.table.specs.declared.Gate.{Gate}
use Rattle.lists.specs.Lists.{is_found}
use Rattle.table.specs.Table.{Rows, records_of, find_record, rows_from}
use Rattle.table.specs.Accounts.{accounts_of, find_account, credited, with_used}
use Rattle.rules.specs.declared.decision.Standing.TheVariants.{Unrecorded, Done, Cancelled, Other}
use Rattle.rules.specs.declared.decision.View.{View}
use Rattle.rules.specs.declared.decision.Change.{Change}
use Rattle.rules.specs.declared.decision.Change.TheVariants.{Keep, Append, Revoke}
use Rattle.planning.specs.declared.plan.Plan.{Plan}
use Rattle.rules.specs.declared.decision.Decided.{Decided}
use Rattle.rules.specs.Decision.{is_fault, fault_code}
use Rattle.planning.specs.Plan.{record_found, agrees, standing_of, date_closed, account_of, date_of, is_short, is_full, view_of, plan_with, plan_of}
use Rattle.rules.specs.Answering.{is_cancel}
use Rattle.ledger.specs.Change.{make_record, revoked, credited_at, debited_at, changed}
use Rattle.gate.specs.Deliver.{answered, respond}
use Rattle.admission.specs.Delivery.{Delivery}
use Rattle.rules.proofs.DecisionLaws.{Appends, Revokes, decision-cases, append-of, revoke-of}

-- ---- the outcomes of a request: all stays, a payment is recorded, or a payment is revoked
pub data Outcome (g : Gate) (t : Rows) (clock : List ℕ) (q : Instruction) (d : Delivery) : Type 0 where
  stays : d.gate ≡ g → d.rows ≡ rows_from t (records_of t g.used) → Outcome g t clock q d
  appends : (a : ℕ) → q.action ≡ Payment → find_record q.details.receipt (records_of t g.used) ≡ None
      → find_account q.details.number q.details.kind (accounts_of g) ≡ Some a → g.used < length t.nums → date_closed g q.details.date ≡ false → d.code ≡ 0
      → d.gate ≡ with_used (credited g a q.details.amount) (g.used + 1) → d.rows ≡ rows_from t (records_of t g.used ++ (make_record g clock q.details ∷ []))
      → Outcome g t clock q d
  revokes : (i : ℕ) (r : Record) (f : Option ℕ) → q.action ≡ Cancel → find_record q.details.receipt (records_of t g.used) ≡ Some i
      → r ≡ record_found (records_of t g.used) (Some i) → f ≡ find_account r.number r.kind (accounts_of g) → r.state ≡ 1
      → date_closed g r.date ≡ false → is_short g f r.amount ≡ false → d.code ≡ 0
      → d.gate ≡ debited_at g f r.amount → d.rows ≡ rows_from t (set (records_of t g.used) i (revoked clock r))
      → Outcome g t clock q d

-- a standing is told apart from the others
other-standing : {A : Type 0} (b c : Bool) → cond b (cond c Done Cancelled) Other ≡ Unrecorded → A
other-standing true true h = let z : ◌≡◌ {A = ℕ} 0 1 = cc in absurd (omega arith)
other-standing true false h = let z : ◌≡◌ {A = ℕ} 0 1 = cc in absurd (omega arith)
other-standing false c h = let z : ◌≡◌ {A = ℕ} 0 1 = cc in absurd (omega arith)

found-of : {A : Type 0} (q : Instruction) (f : Option ℕ) (r : Record) → ((i : ℕ) → f ≡ Some i → r.state ≡ 1 → A) → standing_of q f r ≡ Done → A
found-of q None r k h = let z : ◌≡◌ {A = ℕ} 0 1 = cc in absurd (omega arith)
found-of q (Some i) r k h = k i refl (eqb-true r.state 1 (go (agrees q.action q.details r) (eqb r.state 1) h))
  where
    go : (a b : Bool) → cond a (cond b Done Cancelled) Other ≡ Done → b ≡ true
    go a true h = refl
    go true false h = let z : ◌≡◌ {A = ℕ} 0 1 = cc in absurd (omega arith)
    go false false h = let z : ◌≡◌ {A = ℕ} 0 1 = cc in absurd (omega arith)

-- what stands unrecorded was not found
pub missing-of : (q : Instruction) (f : Option ℕ) (r : Record) → standing_of q f r ≡ Unrecorded → f ≡ None
missing-of q None r h = refl
missing-of q (Some i) r h = other-standing (agrees q.action q.details r) (eqb r.state 1) h

place-of : {A : Type 0} (f : Option ℕ) → ((i : ℕ) → f ≡ Some i → A) → is_found f ≡ true → A
place-of (Some i) k h = k i refl
place-of None k h = let z : ◌≡◌ {A = ℕ} 0 1 = cc in absurd (omega arith)

module _ (g : Gate) (q : Instruction) (r : Record) where
  own-account : q.action ≡ Payment → account_of g q r ≡ find_account q.details.number q.details.kind (accounts_of g)
  unfolding account_of is_cancel
  own-account e = rw e

  own-date : q.action ≡ Payment → date_of q r ≡ q.details.date
  unfolding date_of is_cancel
  own-date e = rw e

  its-account : q.action ≡ Cancel → account_of g q r ≡ find_account r.number r.kind (accounts_of g)
  unfolding account_of is_cancel
  its-account e = rw e

  its-date : q.action ≡ Cancel → date_of q r ≡ r.date
  unfolding date_of is_cancel
  its-date e = rw e

module _ (g : Gate) (t : Rows) (clock : List ℕ) (fault : ℕ) (q : Instruction) (out : List ℕ) (f : Option ℕ) (r : Record) where
  outcome-at : (rs : List Record) → rs ≡ records_of t g.used → f ≡ find_record q.details.receipt rs → r ≡ record_found rs f → (c : Change) (p : Plan)
      → p ≡ plan_with g (length t.nums) fault q f r → p.decided.change ≡ c
      → Outcome g t clock q (answered t out q.action p.decided.code clock (changed c g rs clock q p))
  unfolding changed plan_with view_of is_full
  outcome-at rs ers ef er Keep p ep ec = stays refl (rw ers)
  outcome-at rs ers ef er Append p ep ec =
      let v : View = view_of g (length t.nums) q r (account_of g q r) in
      let b : Appends fault q.action (standing_of q f r) v = append-of fault q.action (standing_of q f r) v (sym (ap (λ (x : Plan). x.decided.change) ep) ∙ ec) in
      place-of (account_of g q r)
      (λ a ea. appends a b.action (ap (find_record q.details.receipt) (sym ers) ∙ sym ef ∙ missing-of q f r b.standing)
      (sym (own-account g q r b.action) ∙ ea)
      (leb-false (length t.nums) g.used b.room)
      (ap (date_closed g) (sym (own-date g q r b.action)) ∙ b.unclosed)
      (ap (λ (x : Plan). x.decided.code) ep ∙ b.code)
      (ap (λ (x : Option ℕ). with_used (credited_at g x q.details.amount) (g.used + 1)) (ap (λ (x : Plan). x.account) ep ∙ ea))
      (rw ers))
      b.known
  outcome-at rs ers ef er Revoke p ep ec =
      let v : View = view_of g (length t.nums) q r (account_of g q r) in
      let b : Revokes fault q.action (standing_of q f r) v = revoke-of fault q.action (standing_of q f r) v (sym (ap (λ (x : Plan). x.decided.change) ep) ∙ ec) in
      found-of q f r
      (λ i ei done. revokes i r (account_of g q r) b.action (ap (find_record q.details.receipt) (sym ers) ∙ sym ef ∙ ei)
      (er ∙ rw (ei, ers))
      (its-account g q r b.action)
      done
      (ap (date_closed g) (sym (its-date g q r b.action)) ∙ b.unclosed)
      b.funds
      (ap (λ (x : Plan). x.decided.code) ep ∙ b.code)
      (rw ep)
      (rw (ep, ei, ers)))
      b.standing

-- a request keeps all, credits and adds a record, or debits and cancels one
pub outcome : (g : Gate) (t : Rows) (clock : List ℕ) (fault : ℕ) (q : Instruction) (out : List ℕ) → Outcome g t clock q (respond g t clock fault q out)
unfolding respond plan_of
outcome g t clock fault q out =
    let rs : List Record = records_of t g.used in
    let f : Option ℕ = find_record q.details.receipt rs in
    let r : Record = record_found rs f in
    let p : Plan = plan_with g (length t.nums) fault q f r in
    outcome-at g t clock fault q out f r rs refl refl refl p.decided.change p refl refl

-- 0 is answered only to a request without a fault
fault-code : (f : ℕ) → (f ≡ 0 → ⊥) → fault_code f ≡ 0 → ⊥
unfolding fault_code
fault-code f n = cond-elim (λ (c : ℕ). c ≡ 0 → ⊥) (is_fault f) f 31 (λ _. n) (λ _ h. omega arith)

pub respond-zero : (g : Gate) (t : Rows) (clock : List ℕ) (fault : ℕ) (q : Instruction) (out : List ℕ) → (respond g t clock fault q out).code ≡ 0 → fault ≡ 0
unfolding respond plan_of plan_with
respond-zero g t clock fault q out = decision-cases (λ (d : Decided). d.code ≡ 0 → fault ≡ 0) fault q.action _ _ (λ e _. e) (λ n h. absurd (fault-code fault n h))
