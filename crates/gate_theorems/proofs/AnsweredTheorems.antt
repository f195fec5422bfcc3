-- What a delivery answers: its codes, its size, and that the agent's reader reads it back.
use Rattle.std.specs.Prelude.{Option, Some}
use Prim.Native.Nat.{ℕ, ◌+◌, ◌≤◌}
use native.Mathlib.Nat.{zero-add}
use native.Mathlib.Omega.{arith}
use mathlib.Core.Path.{◌≡◌, refl, sym, ap, ◌∙◌}
use mathlib.Core.Bool.{Bool, true, false, cond, not, ◌&&◌, ◌||◌}
use mathlib.Core.List.{List, [], ◌∷◌}
use lib.Dec.{eqb, leb}
use lib.ListN.{length, take}
use borrow.Author.Tests.{leb-true, le-leb, ne_eqb}
use Rattle.texts.specs.Lists.{written, cursor_after}
use Rattle.dates.specs.Date.{is_written}
use Rattle.texts.proofs.Tests.{cond-elim, no-claim}
use Rattle.texts.proofs.OutLaws.{cursor-moves, text-back}
use Rattle.payments.specs.declared.Action.{Action}
use Rattle.payments.specs.declared.Action.TheVariants.{Check, Payment, Status, Cancel}
use Rattle.payments.specs.declared.Instruction.{Instruction}
use Rattle.message.specs.Request.{request_read, asked_of, fault_number}
use Rattle.payments.specs.declared.Answer.{Answer}
use Rattle.answers.specs.Answer.{answer_bytes}
use Rattle.answer_reader.specs.AnswerRead.{answer_read}
use Rattle.table.specs.declared.Record.{Record}
use Rattle.table.specs.declared.Gate.{Gate}
use Rattle.table.specs.Table.{Rows, records_of, find_record}
use Rattle.validity.specs.Valid.{table_good, Ready}
use Rattle.table.proofs.TableLaws.{rows-kept}
use Rattle.rules.specs.declared.decision.Standing.{Standing}
use Rattle.rules.specs.declared.decision.View.{View}
use Rattle.rules.specs.declared.decision.Change.{Change}
use Rattle.rules.specs.declared.decision.Change.TheVariants.{Keep, Append, Revoke}
use Rattle.planning.specs.declared.plan.Plan.{Plan}
use Rattle.rules.specs.Decision.{is_fault, fault_code, decision}
use Rattle.table.specs.Table.{no_record}
use Rattle.planning.specs.Plan.{record_found, standing_of, account_of, view_of, plan_with, plan_of}
use Rattle.ledger.specs.Change.{next_authcode, make_record, revoked, Changed, changed}
use Rattle.rules.specs.Answering.{settles, answers_authcode, answers_date, answer_date, answer_of}
use Rattle.gate.specs.Deliver.{instruction_in, respond, deliver}
use Rattle.admission.specs.Delivery.{Delivery, undelivered}
use Rattle.gate_theorems.proofs.AnswerGood.{gate-answers}
use Rattle.validity.proofs.GoodLaws.{used-few}
use Rattle.gate_theorems.proofs.CodeLaws.{one_of, answer_codes, is_silent, not_in, decision-by, fault-by, Told, subject, decided-told, known-found, told-fits, again-same}

-- a decision gives one of twelve codes, whatever the fault, the action, the record and the view are
pub decision-codes : (f : ℕ) (a : Action) (s : Standing) (v : View) → one_of answer_codes (decision f a s v).code ≡ true
unfolding one_of
decision-codes = decision-by (λ (c : ℕ). one_of answer_codes c ≡ true) refl refl refl refl refl refl refl refl refl refl refl refl

-- never 8, and never 50, 51 or 68, which are the call's own
pub decision-never : (f : ℕ) (a : Action) (s : Standing) (v : View) → one_of (8 ∷ 50 ∷ 51 ∷ 68 ∷ []) (decision f a s v).code ≡ false
unfolding one_of
decision-never = decision-by (λ (c : ℕ). one_of (8 ∷ 50 ∷ 51 ∷ 68 ∷ []) c ≡ false) refl refl refl refl refl refl refl refl refl refl refl refl

-- a request has no fault, or one of seven
pub fault-codes : (params : List ℕ) → one_of (0 ∷ 1 ∷ 2 ∷ 3 ∷ 4 ∷ 5 ∷ 31 ∷ 32 ∷ []) (fault_number (request_read params)) ≡ true
unfolding one_of
fault-codes = fault-by (λ (c : ℕ). one_of (0 ∷ 1 ∷ 2 ∷ 3 ∷ 4 ∷ 5 ∷ 31 ∷ 32 ∷ []) c ≡ true) refl refl refl refl refl refl refl refl

-- so its answer has the number that was found at fault
pub fault-kept : (params : List ℕ) → (fault_number (request_read params) ≡ 0 → ⊥) → fault_code (fault_number (request_read params)) ≡ fault_number (request_read params)
unfolding fault_code is_fault
fault-kept = fault-by (λ (c : ℕ). (c ≡ 0 → ⊥) → fault_code c ≡ c) (λ n. absurd (n refl)) (λ _. refl) (λ _. refl) (λ _. refl) (λ _. refl) (λ _. refl) (λ _. refl) (λ _. refl)

-- ---- a delivery
abbrev pub asks : List ℕ → Action
asks params = (asked_of (request_read params)).action

module _ (g : Gate) (t : Rows) (clock params : List ℕ) where
  abbrev plan : Plan
  plan = plan_of g (records_of t g.used) (length t.nums) (fault_number (request_read params)) (instruction_in params)

  abbrev after : Changed
  after = changed plan.decided.change g (records_of t g.used) clock (instruction_in params) plan

  -- the answer to a request: of its own action, with what is decided and the record that this concerns
  abbrev pub answer_to : Answer
  answer_to = answer_of (asks params) plan.decided.code after.subject clock

  plan-told : table_good g t ≡ true → is_written clock ≡ true → Told clock (asks params) plan.decided.code after.subject
  unfolding plan_of plan_with
  plan-told good dated =
      go (decision fault (asks params) s v).change
      (decided-told clock dated r (make_record g clock q.details) (revoked clock r) (unfold make_record next_authcode in omega (arith, used-few g t good)) (unfold make_record in refl) (unfold revoked in refl) (unfold revoked in refl)
      fault (asks params) s v (known-found g t good q f refl))
    where
      fault : ℕ
      fault = fault_number (request_read params)

      q : Instruction
      q = instruction_in params

      f : Option ℕ
      f = find_record q.details.receipt (records_of t g.used)

      r : Record
      r = record_found (records_of t g.used) f

      s : Standing
      s = standing_of q f r

      v : View
      v = view_of g (length t.nums) q r (account_of g q r)

      go : (c : Change) → Told clock (asks params) (decision fault (asks params) s v).code (subject r (make_record g clock q.details) (revoked clock r) c)
          → Told clock (asks params) (decision fault (asks params) s v).code (changed c g (records_of t g.used) clock q (plan_with g (length t.nums) fault q f r)).subject
      go Keep k = unfold changed plan_with in k
      go Append k = unfold changed in k
      go Revoke k = unfold changed plan_with in k

module _ (g : Gate) (t : Rows) (clock params out : List ℕ) where
  abbrev pub delivery : Delivery
  delivery = deliver g t clock params out

  abbrev answer : Answer
  answer = answer_to g t clock params

  abbrev gives : ℕ → Record → Answer
  gives c r = answer_of (asks params) c r clock

  -- 68, 50 and 51 write nothing and keep all; else an answer is written that tells what it should
  answer-cases : (P : Delivery → Type 0) → P (undelivered 68 g t out) → P (undelivered 50 g t out) → P (undelivered 51 g t out)
      → ((c : ℕ) (r : Record) (g' : Gate) (t' : Rows) → 512 ≤ length out → Told clock (asks params) c r → answer ≡ gives c r
      → P (record { code = c; gate = g'; rows = t'; out = written out 0 (answer_bytes (gives c r)); size = cursor_after out 0 (answer_bytes (gives c r)) }))
      → P delivery
  unfolding deliver respond
  answer-cases P table room date given =
      cond-elim P (table_good g t) _ _
      (λ good. cond-elim P (leb 512 (length out)) _ _
      (λ l. cond-elim P (is_written clock) _ _
      (λ dated. given (plan g t clock params).decided.code (after g t clock params).subject _ _ (leb-true 512 (length out) l) (plan-told g t clock params good dated) refl)
      (λ _. date))
      (λ _. room))
      (λ _. table)

  -- the same where a code other than 68, 50 and 51 is known
  answered-by : (P : Delivery → Type 0)
      → ((c : ℕ) (r : Record) (g' : Gate) (t' : Rows) → length (answer_bytes (gives c r)) ≤ length out → Told clock (asks params) c r → answer ≡ gives c r
      → P (record { code = c; gate = g'; rows = t'; out = written out 0 (answer_bytes (gives c r)); size = cursor_after out 0 (answer_bytes (gives c r)) }))
      → is_silent delivery.code ≡ false → P delivery
  answered-by P given =
      answer-cases (λ (d : Delivery). is_silent d.code ≡ false → P d) (λ h. no-claim (sym h)) (λ h. no-claim (sym h)) (λ h. no-claim (sym h))
      (λ c r g' t' l k e h. given c r g' t' (omega (arith, l, told-fits clock (asks params) c r k)) k e)

  -- what is written is the text of that answer
  pub deliver-text : is_silent delivery.code ≡ false → take delivery.size delivery.out ≡ answer_bytes answer
  deliver-text = answered-by (λ (d : Delivery). take d.size d.out ≡ answer_bytes answer) (λ c r g' t' fits k e. text-back out (answer_bytes (gives c r)) fits ∙ ap answer_bytes (sym e))

  -- the agent's reader takes it, and reads that answer again
  pub deliver-reads : is_silent delivery.code ≡ false → answer_read (asks params) (take delivery.size delivery.out) ≡ Some answer
  deliver-reads h =
      ap (answer_read (asks params)) (deliver-text h)
      ∙ answered-by (λ (d : Delivery). answer_read (asks params) (answer_bytes answer) ≡ Some answer)
      (λ c r g' t' fits k e. rw e (gate-answers (asks params) c r clock k.small k.auth k.date ∙ ap (λ (x : Answer). Some x) (again-same clock (asks params) c r))) h

  -- which has the code that is returned
  pub deliver-told : is_silent delivery.code ≡ false → answer.code ≡ delivery.code
  unfolding answer_of
  deliver-told = answered-by (λ (d : Delivery). answer.code ≡ d.code) (λ c r g' t' fits k e. ap (λ (x : Answer). x.code) e)

  -- its size is the length of the answer's text
  pub deliver-size : is_silent delivery.code ≡ false → delivery.size ≡ length (answer_bytes answer)
  deliver-size =
      answered-by (λ (d : Delivery). d.size ≡ length (answer_bytes answer))
      (λ c r g' t' fits k e.
      let l : 0 + length (answer_bytes (gives c r)) ≤ length out = omega arith in
      sym (cursor-moves out 0 (answer_bytes (gives c r)) l) ∙ zero-add _ ∙ ap (λ (x : Answer). length (answer_bytes x)) (sym e))

  -- with 68, 50 and 51 nothing is written, and all is kept
  pub deliver-silent : is_silent delivery.code ≡ true → delivery ≡ undelivered delivery.code g t out
  deliver-silent =
      answer-cases (λ (d : Delivery). is_silent d.code ≡ true → d ≡ undelivered d.code g t out) (λ _. refl) (λ _. refl) (λ _. refl)
      (λ c r g' t' l k e h. no-claim (sym k.loud ∙ h))

  -- never more than 512 bytes are written
  pub deliver-most : delivery.size ≤ 512
  deliver-most =
      answer-cases (λ (d : Delivery). d.size ≤ 512) (omega arith) (omega arith) (omega arith)
      (λ c r g' t' l k e.
      let fits : 0 + length (answer_bytes (gives c r)) ≤ length out = omega (arith, l, told-fits clock (asks params) c r k) in
      omega (arith, cursor-moves out 0 (answer_bytes (gives c r)) fits, told-fits clock (asks params) c r k))

  -- a delivery gives one of fifteen codes
  pub codes-of : one_of answer_codes delivery.code || is_silent delivery.code ≡ true
  unfolding one_of
  codes-of = answer-cases (λ (d : Delivery). one_of answer_codes d.code || is_silent d.code ≡ true) refl refl refl (λ c r g' t' l k e. rw k.listed refl)

  -- never 8
  pub never-eight : delivery.code ≡ 8 → ⊥
  unfolding one_of
  never-eight e = no-claim (ap (λ (c : ℕ). one_of answer_codes c || is_silent c) (sym e) ∙ codes-of)

  -- ---- the call's own codes, each exactly where its test fails first
  answered-code : (n : ℕ) → one_of answer_codes n ≡ false → table_good g t ≡ true → is_written clock ≡ true → eqb (respond g t clock (fault_number (request_read params)) (instruction_in params) out).code n ≡ false
  unfolding respond
  answered-code n h good dated =
      not_in (plan g t clock params).decided.code n (plan-told g t clock params good dated).listed h

  own_code : (n : ℕ) → one_of answer_codes n ≡ false
      → eqb delivery.code n ≡ cond (table_good g t) (cond (leb 512 (length out)) (cond (is_written clock) false (eqb 51 n)) (eqb 50 n)) (eqb 68 n)
  unfolding deliver
  own_code n h = go (table_good g t) (leb 512 (length out)) (is_written clock) refl refl
    where
      go : (a b c : Bool) → table_good g t ≡ a → is_written clock ≡ c
          → eqb (cond a (cond b (cond c (respond g t clock (fault_number (request_read params)) (instruction_in params) out) (undelivered 51 g t out)) (undelivered 50 g t out)) (undelivered 68 g t out)).code n
          ≡ cond a (cond b (cond c false (eqb 51 n)) (eqb 50 n)) (eqb 68 n)
      go false b c ea ec = refl
      go true false c ea ec = refl
      go true true false ea ec = refl
      go true true true ea ec = answered-code n h ea ec

  -- 68 exactly where the table is not good
  pub sixty-eight : eqb delivery.code 68 ≡ not (table_good g t)
  unfolding one_of
  sixty-eight = own_code 68 refl ∙ go (table_good g t) (leb 512 (length out)) (is_written clock)
    where
      go : (a b c : Bool) → cond a (cond b (cond c false false) false) true ≡ not a
      go false b c = refl
      go true false c = refl
      go true true false = refl
      go true true true = refl

  -- 50 exactly where it is and the buffer has under 512 bytes
  pub fifty : eqb delivery.code 50 ≡ table_good g t && not (leb 512 (length out))
  unfolding one_of
  fifty = own_code 50 refl ∙ go (table_good g t) (leb 512 (length out)) (is_written clock)
    where
      go : (a b c : Bool) → cond a (cond b (cond c false false) true) false ≡ a && not b
      go false b c = refl
      go true false c = refl
      go true true false = refl
      go true true true = refl

  -- 51 exactly where both are as they should be and the clock is no date
  pub fifty-one : eqb delivery.code 51 ≡ table_good g t && (leb 512 (length out) && not (is_written clock))
  unfolding one_of
  fifty-one = own_code 51 refl ∙ go (table_good g t) (leb 512 (length out)) (is_written clock)
    where
      go : (a b c : Bool) → cond a (cond b (cond c false true) false) false ≡ a && (b && not c)
      go false b c = refl
      go true false c = refl
      go true true false = refl
      go true true true = refl

-- ---- a request with a fault: it is answered with the fault's number, and nothing moves
-- a code other than 0 and 7 tells nothing of a record
unsettled-same : (a : Action) (c : ℕ) (r r' : Record) (clock : List ℕ) → settles c ≡ false → eqb c 0 ≡ false → eqb c 7 ≡ false → answer_of a c r clock ≡ answer_of a c r' clock
unfolding answer_of answers_authcode answers_date answer_date
unsettled-same Check c r r' clock h z s = refl
unsettled-same Payment c r r' clock h z s = rw (h, z, s)
unsettled-same Status c r r' clock h z s = rw h
unsettled-same Cancel c r r' clock h z s = rw h

module _ (g : Gate) (t : Rows) (ready : Ready g t) (clock params out : List ℕ) (good : table_good g t ≡ true) (room : 512 ≤ length out) (dated : is_written clock ≡ true) where
  abbrev fault : ℕ
  fault = fault_number (request_read params)

  abbrev refusal : Answer
  refusal = answer_of (asks params) fault no_record clock

  pub fault-answered : (fault ≡ 0 → ⊥)
      → deliver g t clock params out ≡ record { code = fault; gate = g; rows = t; out = written out 0 (answer_bytes refusal); size = cursor_after out 0 (answer_bytes refusal) }
  unfolding deliver respond plan_of plan_with decision changed
  fault-answered n =
      rw (good, le-leb 512 (length out) room, dated, ne_eqb fault 0 n, fault-kept params n, rows-kept t g.used ready.whole)
      (ap (λ (x : Answer). record { code = fault; gate = g; rows = t; out = written out 0 (answer_bytes x); size = cursor_after out 0 (answer_bytes x) }) same)
    where
      seven : eqb fault 7 ≡ false
      seven = fault-by (λ (c : ℕ). eqb c 7 ≡ false) refl refl refl refl refl refl refl refl params

      r : Record
      r = record_found (records_of t g.used) (find_record (asked_of (request_read params)).receipt (records_of t g.used))

      same : answer_of (asks params) fault r clock ≡ refusal
      same = unsettled-same (asks params) fault r no_record clock (rw (ne_eqb fault 0 n, seven) refl) (ne_eqb fault 0 n) seven
