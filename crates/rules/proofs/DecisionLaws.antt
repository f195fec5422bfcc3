-- What a decision may change: only a payment appends, and only a cancel revokes.
use Prim.Native.Nat.{ℕ}
use native.Mathlib.Omega.{arith}
use mathlib.Core.Path.{◌≡◌, refl, sym}
use mathlib.Core.Bool.{Bool, true, false, cond}
use lib.Dec.{eqb}
use borrow.Author.Tests.{eqb-true, eqb-false}
use Rattle.texts.proofs.Tests.{cond-elim}
use Rattle.payments.specs.declared.Action.{Action}
use Rattle.payments.specs.declared.Action.TheVariants.{Check, Payment, Status, Cancel}
use Rattle.rules.specs.declared.decision.Standing.{Standing}
use Rattle.rules.specs.declared.decision.Standing.TheVariants.{Unrecorded, Done, Cancelled, Other}
use Rattle.rules.specs.declared.decision.View.{View}
use Rattle.rules.specs.declared.decision.Change.{Change}
use Rattle.rules.specs.declared.decision.Change.TheVariants.{Keep, Append, Revoke}
use Rattle.rules.specs.declared.decision.Decided.{Decided}
use Rattle.rules.specs.Decision.{keeps, payment_new, cancel_done, decision_on, fault_code, decision}

-- ---- changes and standings are told apart
not-append : {A : Type 0} → Keep ≡ Append → A
not-append h = let z : ◌≡◌ {A = ℕ} 0 1 = cc in absurd (omega arith)

not-revoke : {A : Type 0} → Keep ≡ Revoke → A
not-revoke h = let z : ◌≡◌ {A = ℕ} 0 1 = cc in absurd (omega arith)

append-revoke : {A : Type 0} → Append ≡ Revoke → A
append-revoke h = let z : ◌≡◌ {A = ℕ} 0 1 = cc in absurd (omega arith)

-- ---- nothing but a payment appends, and nothing but a cancel revokes
-- a payment without a record, of a day that is not closed, to a known account, with a place left
pub record Appends (f : ℕ) (a : Action) (s : Standing) (v : View) : Type 0 where
  pub sound : f ≡ 0
  pub action : a ≡ Payment
  pub standing : s ≡ Unrecorded
  pub code : (decision f a s v).code ≡ 0
  pub unclosed : v.closed ≡ false
  pub known : v.known ≡ true
  pub room : v.full ≡ false

-- a cancel of a payment that is done, of a day that is not closed, with the amount on the account
pub record Revokes (f : ℕ) (a : Action) (s : Standing) (v : View) : Type 0 where
  pub sound : f ≡ 0
  pub action : a ≡ Cancel
  pub standing : s ≡ Done
  pub code : (decision f a s v).code ≡ 0
  pub unclosed : v.closed ≡ false
  pub funds : v.short ≡ false

payment-appends : (v : View) → (payment_new v).change ≡ Append → Appends 0 Payment Unrecorded v
unfolding decision decision_on payment_new
payment-appends v h =
    let p = go v.closed v.known v.full h in
    record { sound = refl; action = refl; standing = refl; code = p.0; unclosed = p.1; known = p.2; room = p.3 }
  where
    go : (c k f : Bool) → (cond c (keeps 5) (cond k (cond f (keeps 30) (record { code = 0; change = Append })) (keeps 2))).change ≡ Append
        → ((cond c (keeps 5) (cond k (cond f (keeps 30) (record { code = 0; change = Append })) (keeps 2))).code ≡ 0) × (c ≡ false) × (k ≡ true) × (f ≡ false)
    go true k f h = not-append h
    go false true true h = not-append h
    go false true false h = (refl, refl, refl, refl)
    go false false f h = not-append h

payment-keeps : (v : View) → (payment_new v).change ≡ Revoke → ⊥
unfolding payment_new
payment-keeps v h = go v.closed v.known v.full h
  where
    go : (c k f : Bool) → (cond c (keeps 5) (cond k (cond f (keeps 30) (record { code = 0; change = Append })) (keeps 2))).change ≡ Revoke → ⊥
    go true k f h = not-revoke h
    go false true true h = not-revoke h
    go false true false h = append-revoke h
    go false false f h = not-revoke h

cancel-revokes : (v : View) → (cancel_done v).change ≡ Revoke → Revokes 0 Cancel Done v
unfolding decision decision_on cancel_done
cancel-revokes v h =
    let p = go v.closed v.short h in
    record { sound = refl; action = refl; standing = refl; code = p.0; unclosed = p.1; funds = p.2 }
  where
    go : (c s : Bool) → (cond c (keeps 9) (cond s (keeps 9) (record { code = 0; change = Revoke }))).change ≡ Revoke
        → ((cond c (keeps 9) (cond s (keeps 9) (record { code = 0; change = Revoke }))).code ≡ 0) × (c ≡ false) × (s ≡ false)
    go true s h = not-revoke h
    go false true h = not-revoke h
    go false false h = (refl, refl, refl)

cancel-keeps : (v : View) → (cancel_done v).change ≡ Append → ⊥
unfolding cancel_done
cancel-keeps v h = go v.closed v.short h
  where
    go : (c s : Bool) → (cond c (keeps 9) (cond s (keeps 9) (record { code = 0; change = Revoke }))).change ≡ Append → ⊥
    go true s h = not-append h
    go false true h = not-append h
    go false false h = append-revoke (sym h)

append-on : (a : Action) (s : Standing) (v : View) → (decision_on a s v).change ≡ Append → Appends 0 a s v
unfolding decision_on
append-on Check s v h = not-append h
append-on Payment Unrecorded v h = payment-appends v h
append-on Payment Done v h = not-append h
append-on Payment Cancelled v h = not-append h
append-on Payment Other v h = not-append h
append-on Status Unrecorded v h = not-append h
append-on Status Done v h = not-append h
append-on Status Cancelled v h = not-append h
append-on Status Other v h = not-append h
append-on Cancel Unrecorded v h = not-append h
append-on Cancel Done v h = absurd (cancel-keeps v h)
append-on Cancel Cancelled v h = not-append h
append-on Cancel Other v h = not-append h

revoke-on : (a : Action) (s : Standing) (v : View) → (decision_on a s v).change ≡ Revoke → Revokes 0 a s v
unfolding decision_on
revoke-on Check s v h = not-revoke h
revoke-on Payment Unrecorded v h = absurd (payment-keeps v h)
revoke-on Payment Done v h = not-revoke h
revoke-on Payment Cancelled v h = not-revoke h
revoke-on Payment Other v h = not-revoke h
revoke-on Status Unrecorded v h = not-revoke h
revoke-on Status Done v h = not-revoke h
revoke-on Status Cancelled v h = not-revoke h
revoke-on Status Other v h = not-revoke h
revoke-on Cancel Unrecorded v h = not-revoke h
revoke-on Cancel Done v h = cancel-revokes v h
revoke-on Cancel Cancelled v h = not-revoke h
revoke-on Cancel Other v h = not-revoke h

-- what a decision makes of a fault, and of none
module _ (P : Decided → Type 0) (f : ℕ) (a : Action) (s : Standing) (v : View) where
  pub decision-cases : (f ≡ 0 → P (decision_on a s v)) → ((f ≡ 0 → ⊥) → P (keeps (fault_code f))) → P (decision f a s v)
  unfolding decision
  decision-cases sound faulty = cond-elim P (eqb f 0) _ _ (λ e. sound (eqb-true f 0 e)) (λ e. faulty (eqb-false f 0 e))

-- only a payment without a fault that has no record, is open, known and finds room appends
pub append-of : (f : ℕ) (a : Action) (s : Standing) (v : View) → (decision f a s v).change ≡ Append → Appends f a s v
append-of f a s v = decision-cases (λ (d : Decided). d.change ≡ Append → Appends f a s v) f a s v (λ e h. rw e (append-on a s v h)) (λ _ h. not-append h)

-- only a cancel without a fault of a payment that is done, open and covered revokes
pub revoke-of : (f : ℕ) (a : Action) (s : Standing) (v : View) → (decision f a s v).change ≡ Revoke → Revokes f a s v
revoke-of f a s v = decision-cases (λ (d : Decided). d.change ≡ Revoke → Revokes f a s v) f a s v (λ e h. rw e (revoke-on a s v h)) (λ _ h. not-revoke h)

-- a code other than 0 changes nothing
pub kept_of : (f : ℕ) (a : Action) (s : Standing) (v : View) → ((decision f a s v).code ≡ 0 → ⊥) → (decision f a s v).change ≡ Keep
kept_of f a s v n = go (decision f a s v).change refl
  where
    go : (c : Change) → (decision f a s v).change ≡ c → c ≡ Keep
    go Keep e = refl
    go Append e = absurd (n (append-of f a s v e).code)
    go Revoke e = absurd (n (revoke-of f a s v e).code)
