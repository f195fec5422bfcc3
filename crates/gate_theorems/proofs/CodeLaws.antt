-- The codes of decisions and faults, and what an answer tells by them: an authcode in its range and a date that is one.
use Rattle.std.specs.Prelude.{Option, Some, None, Result}
use Prim.Native.Nat.{ℕ, ◌≤◌, ◌<◌}
use native.Mathlib.Omega.{arith}
use native.Mathlib.Decide.{ℕ_discrete}
use mathlib.Core.Path.{◌≡◌, refl, sym, ap, subst, ◌∙◌}
use mathlib.Core.Bool.{Bool, true, false, cond, ◌||◌}
use mathlib.Core.List.{List, [], ◌∷◌}
use lib.Dec.{eqb, leb}
use lib.ListN.{length, get_or}
use borrow.Author.Tests.{eqb-true}
use Rattle.texts.specs.Digits.{within}
use Rattle.texts.proofs.DigitLaws.{within_low, within-high}
use Rattle.dates.specs.Date.{is_written, empty_date}
use Rattle.texts.proofs.Tests.{and_right, cond-elim, no-claim}
use Rattle.dates.proofs.DateLaws.{written-parts}
use Rattle.payments.specs.declared.Action.{Action}
use Rattle.payments.specs.declared.Action.TheVariants.{Check, Payment, Status, Cancel}
use Rattle.message.specs.declared.request.Asked.{Asked}
use Rattle.message.specs.declared.request.Refusal.{Refusal}
use Rattle.message.specs.declared.request.Fault.{Fault}
use Rattle.message.specs.declared.request.Fault.TheVariants.{NoAction, Account, Amount, Receipt, Date, Malformed, Reason}
use Rattle.parameters.specs.Names.{action_of}
use Rattle.parameters.specs.Slots.{Slot, Absent, Gathered, Broken, Values, gathered}
use Rattle.message.specs.Request.{held, fault_code as number_of_fault, fault_number, judged, field_fault, fields_asked, fields_read, action_read, values_read, request_read}
use Rattle.payments.specs.declared.Answer.{Answer}
use Rattle.payments.specs.declared.Instruction.{Instruction}
use Rattle.answers.specs.Answer.{answer_bytes}
use Rattle.answer_reader.specs.ReadBack.{answer_again}
use Rattle.answers.proofs.AnswerTextLaws.{answer-length-512}
use Rattle.table.specs.declared.Record.{Record}
use Rattle.table.specs.declared.Gate.{Gate}
use Rattle.table.specs.Table.{Rows, record_at, records_of, find_record}
use Rattle.validity.specs.Valid.{state_good, table_good}
use Rattle.table.proofs.TableLaws.{get_d-records, receipt-within}
use Rattle.rules.specs.declared.decision.Standing.{Standing}
use Rattle.rules.specs.declared.decision.Standing.TheVariants.{Unrecorded, Done, Cancelled, Other}
use Rattle.rules.specs.declared.decision.View.{View}
use Rattle.rules.specs.declared.decision.Change.{Change}
use Rattle.rules.specs.declared.decision.Change.TheVariants.{Keep, Append, Revoke}
use Rattle.rules.specs.declared.decision.Decided.{Decided}
use Rattle.rules.specs.Decision.{check_code, payment_new, cancel_done, decision_on, is_fault, fault_code, decision}
use Rattle.table.specs.Table.{no_record}
use Rattle.planning.specs.Plan.{record_found, agrees, standing_of}
use Rattle.rules.specs.Answering.{is_cancel, answers_authcode, answers_date, answer_date, answer_of}
use Rattle.rules.proofs.DecisionLaws.{decision-cases}
use Rattle.validity.proofs.GoodLaws.{record-good, used-few}
use Rattle.gate_theorems.proofs.KeptLaws.{RecordParts, parts-of}

-- whether a code is one of a list
unfoldable pub one_of : List ℕ → ℕ → Bool
one_of [] c = false
one_of (x ∷ l) c = eqb c x || one_of l c

-- the codes that are answered
abbrev pub answer_codes : List ℕ
answer_codes = 0 ∷ 1 ∷ 2 ∷ 3 ∷ 4 ∷ 5 ∷ 6 ∷ 7 ∷ 9 ∷ 30 ∷ 31 ∷ 32 ∷ []

-- and those with which nothing is written
abbrev pub is_silent : ℕ → Bool
is_silent c = eqb c 68 || (eqb c 50 || eqb c 51)

-- a code in a list is none that is not
pub not_in : (c n : ℕ) → one_of answer_codes c ≡ true → one_of answer_codes n ≡ false → eqb c n ≡ false
not_in c n l h = go (eqb c n) refl
  where
    go : (z : Bool) → eqb c n ≡ z → z ≡ false
    go true e = no-claim (sym h ∙ ap (one_of answer_codes) (sym (eqb-true c n e)) ∙ l)
    go false e = refl

-- ---- the codes of a decision
module _ (P : ℕ → Type 0) (zero : P 0) (two : P 2) (four : P 4) (five : P 5) (six : P 6) (seven : P 7) (nine : P 9) (thirty : P 30) where
  abbrev PD : Decided → Type 0
  PD d = P d.code

  decision-on : (a : Action) (s : Standing) (v : View) → P (decision_on a s v).code
  unfolding decision_on check_code payment_new cancel_done
  decision-on Check s v = cond-elim P v.known _ _ (λ _. cond-elim P v.full _ _ (λ _. thirty) (λ _. zero)) (λ _. two)
  decision-on Payment Unrecorded v =
      cond-elim PD v.closed _ _ (λ _. five) (λ _. cond-elim PD v.known _ _ (λ _. cond-elim PD v.full _ _ (λ _. thirty) (λ _. zero)) (λ _. two))
  decision-on Payment Done v = zero
  decision-on Payment Cancelled v = seven
  decision-on Payment Other v = four
  decision-on Status Unrecorded v = six
  decision-on Status Done v = zero
  decision-on Status Cancelled v = seven
  decision-on Status Other v = six
  decision-on Cancel Unrecorded v = nine
  decision-on Cancel Done v = cond-elim PD v.closed _ _ (λ _. nine) (λ _. cond-elim PD v.short _ _ (λ _. nine) (λ _. zero))
  decision-on Cancel Cancelled v = zero
  decision-on Cancel Other v = nine

-- ---- the codes of a fault
module _ (P : ℕ → Type 0) (one : P 1) (two : P 2) (three : P 3) (four : P 4) (five : P 5) (most : P 31) (reason : P 32) where
  pick : (n f : ℕ) → P n → ((f ≡ n → ⊥) → P f) → P f
  pick n f p other = go (ℕ_discrete f n)
    where
      go : Dec (f ≡ n) → P f
      go (yes e) = subst P (sym e) p
      go (no d) = other d

  among : (f : ℕ) → is_fault f ≡ true → P f
  unfolding is_fault
  among f h =
      pick 1 f one (λ a. pick 2 f two (λ b. pick 3 f three (λ c. pick 4 f four (λ d. pick 5 f five (λ e. pick 31 f most (λ m. pick 32 f reason (λ r. none a b c d e m r)))))))
    where
      low : 1 ≤ f → f ≤ 5 → (f ≡ 1 → ⊥) → (f ≡ 2 → ⊥) → (f ≡ 3 → ⊥) → (f ≡ 4 → ⊥) → (f ≡ 5 → ⊥) → ⊥
      low l h a b c d e = omega arith

      high : 31 ≤ f → f ≤ 32 → (f ≡ 31 → ⊥) → (f ≡ 32 → ⊥) → ⊥
      high l h m r = omega arith

      none : (f ≡ 1 → ⊥) → (f ≡ 2 → ⊥) → (f ≡ 3 → ⊥) → (f ≡ 4 → ⊥) → (f ≡ 5 → ⊥) → (f ≡ 31 → ⊥) → (f ≡ 32 → ⊥) → P f
      none a b c d e m r = absurd (go (within 1 5 f) refl)
        where
          go : (z : Bool) → within 1 5 f ≡ z → ⊥
          go true z = low (within_low 1 5 f z) (within-high 1 5 f z) a b c d e
          go false z = let w : within 31 32 f ≡ true = rw z at h in high (within_low 31 32 f w) (within-high 31 32 f w) m r

  pub fault-code-by : (f : ℕ) → P (fault_code f)
  unfolding fault_code
  fault-code-by f = cond-elim P (is_fault f) f 31 (λ h. among f h) (λ _. most)

-- ---- the codes of a decision, whatever it is made from
module _ (P : ℕ → Type 0) (zero : P 0) (one : P 1) (two : P 2) (three : P 3) (four : P 4) (five : P 5) (six : P 6) (seven : P 7) (nine : P 9) (thirty : P 30) (most : P 31) (reason : P 32) where
  pub decision-by : (f : ℕ) (a : Action) (s : Standing) (v : View) → P (decision f a s v).code
  decision-by f a s v =
      decision-cases (λ (d : Decided). P d.code) f a s v (λ _. decision-on P zero two four five six seven nine thirty a s v) (λ _. fault-code-by P one two three four five most reason f)

-- ---- the faults of a request
module _ (P : ℕ → Type 0) (none : P 0) (one : P 1) (two : P 2) (three : P 3) (four : P 4) (five : P 5) (most : P 31) (reason : P 32) where
  of-fault : (f : Fault) → P (number_of_fault f)
  of-fault NoAction = one
  of-fault Account = two
  of-fault Amount = three
  of-fault Receipt = four
  of-fault Date = five
  of-fault Malformed = most
  of-fault Reason = reason

  of-fields : (f : Option Fault) (a : Action) (q : Asked) → P (fault_number (judged f a q))
  of-fields None a q = none
  of-fields (Some f) a q = of-fault f

  of-values : (x : Gathered) → P (fault_number (values_read x))
  unfolding fields_read
  of-values Broken = most
  of-values (Values t) = go (held None action_of (get_or t 0 Absent))
    where
      go : (a : Option Action) → P (fault_number (action_read a t))
      go None = one
      go (Some a) = of-fields (field_fault a t) a (fields_asked a t)

  pub fault-by : (params : List ℕ) → P (fault_number (request_read params))
  unfolding request_read
  fault-by params = cond-elim (λ (r : Result Asked Refusal). P (fault_number r)) (leb (length params) 2048) _ _ (λ _. of-values (gathered params)) (λ _. most)

-- ---- what an answer tells: a code that is answered, an authcode in its range, and a date that is one
pub record Told (clock : List ℕ) (a : Action) (c : ℕ) (r : Record) : Type 0 where
  pub listed : one_of answer_codes c ≡ true
  pub loud : is_silent c ≡ false
  pub small : c ≤ 9999
  pub auth : r.authcode ≤ 999999999999999
  pub date : answers_date a c ≡ true → is_written (answer_date a c r clock) ≡ true

-- what is known of a record by its standing
pub record Known-of (s : Standing) (r : Record) : Type 0 where
  pub auth : r.authcode ≤ 999999999999999
  pub done : s ≡ Done → is_written r.credit ≡ true
  pub void : s ≡ Cancelled → is_written r.cancel ≡ true

-- the record that an answer speaks of: the one found, the new one, or the revoked one
abbrev pub subject : Record → Record → Record → Change → Record
subject r new gone Keep = r
subject r new gone Append = new
subject r new gone Revoke = gone

module _ (clock : List ℕ) (dated : is_written clock ≡ true) where
  told : (a : Action) (c : ℕ) (r : Record) → one_of answer_codes c ≡ true → is_silent c ≡ false → c ≤ 9999 → r.authcode ≤ 999999999999999
      → is_written (answer_date a c r clock) ≡ true → Told clock a c r
  told a c r l s m n d = record { listed = l; loud = s; small = m; auth = n; date = λ _. d }

  -- a refusal tells the clock
  clock-told : (a : Action) (c : ℕ) (r : Record) → eqb c 0 ≡ false → eqb c 7 ≡ false → is_written (answer_date a c r clock) ≡ true
  unfolding answer_date
  clock-told a c r z s = rw (s, z) dated

  -- a check's answer has no date
  check-told : (c : ℕ) (r : Record) → one_of answer_codes c ≡ true → is_silent c ≡ false → c ≤ 9999 → r.authcode ≤ 999999999999999 → Told clock Check c r
  unfolding answers_date
  check-told c r l s m n = record { listed = l; loud = s; small = m; auth = n; date = λ e. no-claim e }

  fault-told : (a : Action) (f : ℕ) (r : Record) → r.authcode ≤ 999999999999999 → Told clock a (fault_code f) r
  unfolding one_of
  fault-told a f r n =
      fault-code-by (λ (c : ℕ). Told clock a c r) (one 1 refl refl (omega arith) refl refl) (one 2 refl refl (omega arith) refl refl) (one 3 refl refl (omega arith) refl refl) (one 4 refl refl (omega arith) refl refl)
      (one 5 refl refl (omega arith) refl refl)
      (one 31 refl refl (omega arith) refl refl)
      (one 32 refl refl (omega arith) refl refl)
      f
    where
      one : (c : ℕ) → one_of answer_codes c ≡ true → is_silent c ≡ false → c ≤ 9999 → eqb c 0 ≡ false → eqb c 7 ≡ false → Told clock a c r
      one c l s m z v = told a c r l s m n (clock-told a c r z v)

  module _ (r new gone : Record) (fresh : new.authcode ≤ 999999999999999) (credit : new.credit ≡ clock) (same : gone.authcode ≡ r.authcode) (cancel : gone.cancel ≡ clock) where
    abbrev Tells : Action → Decided → Type 0
    Tells a d = Told clock a d.code (subject r new gone d.change)

    told-on : (a : Action) (s : Standing) (v : View) → Known-of s r → Tells a (decision_on a s v)
    unfolding one_of decision_on check_code payment_new cancel_done answer_date is_cancel
    told-on Check s v k =
        cond-elim (λ (c : ℕ). Told clock Check c r) v.known _ _
        (λ _. cond-elim (λ (c : ℕ). Told clock Check c r) v.full _ _ (λ _. check-told 30 r refl refl (omega arith) k.auth) (λ _. check-told 0 r refl refl (omega arith) k.auth))
        (λ _. check-told 2 r refl refl (omega arith) k.auth)
    told-on Payment Unrecorded v k =
        cond-elim (Tells Payment) v.closed _ _ (λ _. told Payment 5 r refl refl (omega arith) k.auth dated)
        (λ _. cond-elim (Tells Payment) v.known _ _
        (λ _. cond-elim (Tells Payment) v.full _ _ (λ _. told Payment 30 r refl refl (omega arith) k.auth dated)
        (λ _. told Payment 0 new refl refl (omega arith) fresh (ap is_written credit ∙ dated)))
        (λ _. told Payment 2 r refl refl (omega arith) k.auth dated))
    told-on Payment Done v k = told Payment 0 r refl refl (omega arith) k.auth (k.done refl)
    told-on Payment Cancelled v k = told Payment 7 r refl refl (omega arith) k.auth (k.void refl)
    told-on Payment Other v k = told Payment 4 r refl refl (omega arith) k.auth dated
    told-on Status Unrecorded v k = told Status 6 r refl refl (omega arith) k.auth dated
    told-on Status Done v k = told Status 0 r refl refl (omega arith) k.auth (k.done refl)
    told-on Status Cancelled v k = told Status 7 r refl refl (omega arith) k.auth (k.void refl)
    told-on Status Other v k = told Status 6 r refl refl (omega arith) k.auth dated
    told-on Cancel Unrecorded v k = told Cancel 9 r refl refl (omega arith) k.auth dated
    told-on Cancel Done v k =
        cond-elim (Tells Cancel) v.closed _ _ (λ _. told Cancel 9 r refl refl (omega arith) k.auth dated)
        (λ _. cond-elim (Tells Cancel) v.short _ _ (λ _. told Cancel 9 r refl refl (omega arith) k.auth dated)
        (λ _. told Cancel 0 gone refl refl (omega arith) (omega (arith, same, k.auth)) (ap is_written cancel ∙ dated)))
    told-on Cancel Cancelled v k = told Cancel 0 r refl refl (omega arith) k.auth (k.void refl)
    told-on Cancel Other v k = told Cancel 9 r refl refl (omega arith) k.auth dated

    -- what is decided for any fault, action, standing and view is told
    pub decided-told : (f : ℕ) (a : Action) (s : Standing) (v : View) → Known-of s r → Tells a (decision f a s v)
    decided-told f a s v k = decision-cases (Tells a) f a s v (λ _. told-on a s v k) (λ _. fault-told a f r k.auth)

-- ---- the record that a request finds
-- a record that is good and not done has the date of its cancel
pub cancel-dated : (r : Record) → state_good r ≡ true → eqb r.state 1 ≡ false → is_written r.cancel ≡ true
unfolding state_good
cancel-dated r h e = and_right (eqb r.state 2) (is_written r.cancel) (rw e at h)

pub known-found : (g : Gate) (t : Rows) → table_good g t ≡ true → (q : Instruction) (f : Option ℕ) → find_record q.details.receipt (records_of t g.used) ≡ f
    → Known-of (standing_of q f (record_found (records_of t g.used) f)) (record_found (records_of t g.used) f)
known-found g t good q None e =
    record { auth = omega arith; done = λ h. let z : ◌≡◌ {A = ℕ} 0 1 = cc in absurd (omega arith); void = λ h. let z : ◌≡◌ {A = ℕ} 0 1 = cc in absurd (omega arith) }
known-found g t good q (Some i) e =
    rw (get_d-records t g.used i no_record within)
    (record { auth = omega (arith, its.authcode, within, used-few g t good); done = λ _. its.credit; void = go (agrees q.action q.details (record_at t i)) (eqb (record_at t i).state 1) refl })
  where
    within : i < g.used
    within = receipt-within t g.used q.details.receipt i (find_record q.details.receipt (records_of t g.used)) refl e

    its : RecordParts i (record_at t i)
    its = parts-of g i (record_at t i) (record-good g t good i within)

    go : (b z : Bool) → eqb (record_at t i).state 1 ≡ z → cond b (cond z Done Cancelled) Other ≡ Cancelled → is_written (record_at t i).cancel ≡ true
    go true true q h = let z : ◌≡◌ {A = ℕ} 0 1 = cc in absurd (omega arith)
    go false true q h = let z : ◌≡◌ {A = ℕ} 0 1 = cc in absurd (omega arith)
    go b false q h = cancel-dated (record_at t i) its.state q

-- ---- the texts
-- an answer that is told has its date's nineteen bytes
pub told-fits : (clock : List ℕ) (a : Action) (c : ℕ) (r : Record) → Told clock a c r → length (answer_bytes (answer_of a c r clock)) ≤ 512
told-fits clock a c r k = answer-length-512 (answer_of a c r clock) (unfold answer_of in go (answers_date a c) k.date)
  where
    go : (z : Bool) → (z ≡ true → is_written (answer_date a c r clock) ≡ true) → length (cond z (answer_date a c r clock) empty_date) ≡ 19
    go true h = (written-parts (answer_date a c r clock) (h refl)).size
    go false h = refl

-- what is absent from the gate's answers is at its fixed value already
pub again-same : (clock : List ℕ) (a : Action) (c : ℕ) (r : Record) → answer_again (answer_of a c r clock) ≡ answer_of a c r clock
unfolding answer_again answer_of
again-same clock a c r = go (answers_authcode a c) (answers_date a c)
  where
    go : (y z : Bool)
        → ◌≡◌ {A = Answer} (record { code = c; authorized = y; authcode = cond y (cond y r.authcode 0) 0; dated = z; date = cond z (cond z (answer_date a c r clock) empty_date) empty_date })
        (record { code = c; authorized = y; authcode = cond y r.authcode 0; dated = z; date = cond z (answer_date a c r clock) empty_date })
    go true true = refl
    go true false = refl
    go false true = refl
    go false false = refl
