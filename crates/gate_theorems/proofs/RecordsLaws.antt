-- A used record keeps for ever what it is known by: receipt, account, amount, date, authcode and credit date.
use Prim.Native.Nat.{ℕ, ◌+◌, ◌<◌, ◌≤◌}
use native.Mathlib.Decide.{ℕ_discrete}
use native.Mathlib.Omega.{arith}
use mathlib.Core.Path.{◌≡◌, refl, sym, ap, ◌∙◌}
use mathlib.Core.Bool.{true}
use mathlib.Core.List.{List, [], ◌∷◌, ◌++◌}
use lib.ListN.{length, get_or, set, length-append, length-set, get_or-append}
use lib.Seq.{get_or_at, get_or-set_same, get_or-set_other}
use Rattle.texts.proofs.Tests.{no-claim}
use Rattle.payments.specs.declared.Instruction.{Instruction}
use Rattle.message.specs.Request.{request_read, fault_number}
use Rattle.table.specs.declared.Record.{Record}
use Rattle.table.specs.declared.Gate.{Gate}
use Rattle.table.specs.Table.{Rows, record_at, records_of, rows_from}
use borrow.Author.Tests.{eqb-false}
use Rattle.table.specs.Table.{find_record, has_receipt}
use Rattle.lists.proofs.ListLaws.{found_none}
use Rattle.table.proofs.TableLaws.{length-records, get_d-records, from_at}
use Rattle.table.specs.Table.{no_record}
use Rattle.planning.specs.Plan.{date_closed}
use Rattle.ledger.specs.Change.{make_record, revoked}
use Rattle.gate.specs.Deliver.{instruction_in, respond, deliver}
use Rattle.admission.specs.Delivery.{Delivery}
use Rattle.ledger.proofs.ChangeLaws.{debit-used}
use Rattle.gate_theorems.proofs.OutcomeLaws.{Outcome, stays, appends, revokes, outcome}
use Rattle.gate_theorems.proofs.KeepsLaws.{delivered-by}

-- what a record is known by: receipt, account, amount, date, authcode and credit date
pub record SameKey (r r' : Record) : Type 0 where
  pub receipt : r'.receipt ≡ r.receipt
  pub number : r'.number ≡ r.number
  pub kind : r'.kind ≡ r.kind
  pub amount : r'.amount ≡ r.amount
  pub date : r'.date ≡ r.date
  pub authcode : r'.authcode ≡ r.authcode
  pub credit : r'.credit ≡ r.credit

pub key-equal : (r r' : Record) → r' ≡ r → SameKey r r'
key-equal r r' e =
    record {
      receipt = ap (λ (x : Record). x.receipt) e;
      number = ap (λ (x : Record). x.number) e;
      kind = ap (λ (x : Record). x.kind) e;
      amount = ap (λ (x : Record). x.amount) e;
      date = ap (λ (x : Record). x.date) e;
      authcode = ap (λ (x : Record). x.authcode) e;
      credit = ap (λ (x : Record). x.credit) e;
    }

pub key-revoked : (clock : List ℕ) (r : Record) → SameKey r (revoked clock r)
unfolding revoked
key-revoked clock r = record { receipt = refl; number = refl; kind = refl; amount = refl; date = refl; authcode = refl; credit = refl }

-- what a delivery keeps of it; a record that is not done is final
pub record SameIdentity (r r' : Record) : Type 0 where
  pub key : SameKey r r'
  pub final : (r.state ≡ 1 → ⊥) → r' ≡ r

-- no record in use is lost, each keeps what it is known by, and one of a closed day keeps all
pub record Lasting (g : Gate) (t : Rows) (d : Delivery) : Type 0 where
  pub used : g.used ≤ d.gate.used
  pub identity : (i : ℕ) (z : Record) → i < g.used → SameIdentity (get_or (records_of t g.used) i z) (get_or (records_of d.rows d.gate.used) i z)
  pub settled : (i : ℕ) → i < g.used → date_closed g (record_at t i).date ≡ true → record_at d.rows i ≡ record_at t i

same-identity : (r r' : Record) → r' ≡ r → SameIdentity r r'
same-identity r r' e = record { key = key-equal r r' e; final = λ _. e }

revoked-identity : (clock : List ℕ) (r : Record) → r.state ≡ 1 → SameIdentity r (revoked clock r)
revoked-identity clock r h = record { key = key-revoked clock r; final = λ n. absurd (n h) }

-- the records after a delivery, place by place
module _ (g : Gate) (t : Rows) (d : Delivery) where
  lasting-from : (rs : List Record) → d.rows ≡ rows_from t rs → g.used ≤ length rs → g.used ≤ d.gate.used
      → ((i : ℕ) → i < g.used → SameIdentity (record_at t i) (get_or rs i no_record))
      → ((i : ℕ) → i < g.used → date_closed g (record_at t i).date ≡ true → get_or rs i no_record ≡ record_at t i) → Lasting g t d
  lasting-from rs er room more same closed = record { used = more; identity = one; settled = λ i h e. rw er (from_at t rs i no_record (omega arith)) ∙ closed i h e }
    where
      one : (i : ℕ) (z : Record) → i < g.used → SameIdentity (get_or (records_of t g.used) i z) (get_or (records_of d.rows d.gate.used) i z)
      one i z h =
          rw (get_d-records t g.used i z h, get_d-records d.rows d.gate.used i z (omega arith), er, from_at t rs i no_record (omega arith))
          (same i h)

  lasting-outcome : (clock : List ℕ) (q : Instruction) → Outcome g t clock q d → Lasting g t d
  lasting-outcome clock q (stays eg er) =
      let size = length-records t g.used in
      let used : d.gate.used ≡ g.used = ap (λ (x : Gate). x.used) eg in
      lasting-from (records_of t g.used) er (omega arith) (omega arith)
      (λ i h. same-identity _ _ (get_d-records t g.used i no_record h))
      (λ i h e. get_d-records t g.used i no_record h)
  lasting-outcome clock q (appends a ea en ef room day ec eg er) =
      let size = length-records t g.used in
      let used : d.gate.used ≡ g.used + 1 = ap (λ (x : Gate). x.used) eg in
      let longer : length (records_of t g.used ++ (make_record g clock q.details ∷ [])) ≡ length (records_of t g.used) + 1 = length-append (records_of t g.used) (make_record g clock q.details ∷ []) in
      lasting-from (records_of t g.used ++ (make_record g clock q.details ∷ [])) er (omega arith) (omega arith)
      (λ i h. same-identity _ _ (kept i h))
      (λ i h e. kept i h)
    where
      kept : (i : ℕ) → i < g.used → get_or (records_of t g.used ++ (make_record g clock q.details ∷ [])) i no_record ≡ record_at t i
      kept i h =
          let l : i < length (records_of t g.used) = omega (arith, length-records t g.used) in
          get_or-append (records_of t g.used) (make_record g clock q.details ∷ []) no_record i l ∙ get_d-records t g.used i no_record h
  lasting-outcome clock q (revokes k r f ea ek ir ef es day fu ec eg er) =
      let size = length-records t g.used in
      let used : d.gate.used ≡ g.used = ap (λ (x : Gate). x.used) eg ∙ debit-used g f r.amount in
      let as_long : length (set (records_of t g.used) k (revoked clock r)) ≡ length (records_of t g.used) = length-set (records_of t g.used) k (revoked clock r) in
      lasting-from (set (records_of t g.used) k (revoked clock r)) er (omega arith) (omega arith) one closed
    where
      -- the record that is revoked is of a day that is not closed
      closed : (i : ℕ) → i < g.used → date_closed g (record_at t i).date ≡ true → get_or (set (records_of t g.used) k (revoked clock r)) i no_record ≡ record_at t i
      closed i h c = pick (ℕ_discrete i k)
        where
          pick : Dec (i ≡ k) → get_or (set (records_of t g.used) k (revoked clock r)) i no_record ≡ record_at t i
          pick (yes e) =
              let same : record_at t i ≡ r = sym (get_d-records t g.used i no_record h) ∙ ap (λ (j : ℕ). get_or (records_of t g.used) j no_record) e ∙ sym ir in
              no-claim (sym day ∙ ap (λ (x : Record). date_closed g x.date) (sym same) ∙ c)
          pick (no n) = get_or-set_other (records_of t g.used) k i (revoked clock r) no_record n ∙ get_d-records t g.used i no_record h

      one : (i : ℕ) → i < g.used → SameIdentity (record_at t i) (get_or (set (records_of t g.used) k (revoked clock r)) i no_record)
      one i h = pick (ℕ_discrete i k)
        where
          pick : Dec (i ≡ k) → SameIdentity (record_at t i) (get_or (set (records_of t g.used) k (revoked clock r)) i no_record)
          pick (yes e) =
              let l : k < length (records_of t g.used) = omega (arith, length-records t g.used) in
              let same : record_at t i ≡ r = sym (get_d-records t g.used i no_record h) ∙ ap (λ (j : ℕ). get_or (records_of t g.used) j no_record) e ∙ sym ir in
              rw (same, e, get_or-set_same (records_of t g.used) k (revoked clock r) no_record l) (revoked-identity clock r es)
          pick (no n) =
              same-identity _ _ (get_or-set_other (records_of t g.used) k i (revoked clock r) no_record n ∙ get_d-records t g.used i no_record h)

-- ---- used records keep what they are known by
-- through the answer to a request read without fault
pub respond-lasts : (g : Gate) (t : Rows) (clock : List ℕ) (fault : ℕ) (q : Instruction) (out : List ℕ) → Lasting g t (respond g t clock fault q out)
respond-lasts g t clock fault q out = lasting-outcome g t (respond g t clock fault q out) clock q (outcome g t clock fault q out)

-- and through any delivery
pub records-last : (g : Gate) (t : Rows) (clock params out : List ℕ) → Lasting g t (deliver g t clock params out)
records-last g t clock params out =
    delivered-by g t clock params out (Lasting g t)
    (λ code left size. record { used = omega arith; identity = λ i z h. same-identity _ _ refl; settled = λ i h e. refl })
    (λ _ _. respond-lasts g t clock (fault_number (request_read params)) (instruction_in params) out)

-- ---- no receipt twice
-- no two records in use have one receipt
pub record Distinct (g : Gate) (t : Rows) : Type 0 where
  pub apart : (i j : ℕ) → i < j → j < g.used → (record_at t i).receipt ≡ (record_at t j).receipt → ⊥

module _ (g : Gate) (t : Rows) (once : Distinct g t) (d : Delivery) (last : Lasting g t d) where
  receipt-kept : (i : ℕ) → i < g.used → (record_at d.rows i).receipt ≡ (record_at t i).receipt
  receipt-kept i h =
      let more = last.used in
      ap (λ (x : Record). x.receipt) (sym (get_d-records d.rows d.gate.used i no_record (omega arith)))
      ∙ (last.identity i no_record h).key.receipt
      ∙ ap (λ (x : Record). x.receipt) (get_d-records t g.used i no_record h)

  distinct-same : d.gate.used ≡ g.used → Distinct d.gate d.rows
  distinct-same used =
      record { apart = λ i j l h e. once.apart i j l (omega arith) (sym (receipt-kept i (omega arith)) ∙ e ∙ receipt-kept j (omega arith)) }

  distinct-outcome : (clock : List ℕ) (q : Instruction) → Outcome g t clock q d → Distinct d.gate d.rows
  unfolding find_record make_record
  distinct-outcome clock q (stays eg er) = distinct-same (ap (λ (x : Gate). x.used) eg)
  distinct-outcome clock q (appends a ea en ef room day ec eg er) = record { apart = λ i j l h e. pick i j l (rw eg at h) e (ℕ_discrete j g.used) }
    where
      rs : List Record
      rs = records_of t g.used

      new : (record_at d.rows g.used).receipt ≡ q.details.receipt
      new =
          let l : g.used < length (rs ++ (make_record g clock q.details ∷ [])) = omega (arith, length-append rs (make_record g clock q.details ∷ []), length-records t g.used) in
          let it : record_at d.rows g.used ≡ get_or (rs ++ (make_record g clock q.details ∷ [])) g.used no_record = rw er (from_at t (rs ++ (make_record g clock q.details ∷ [])) g.used no_record l) in
          ap (λ (x : Record). x.receipt) (it ∙ get_or_at rs (make_record g clock q.details) [] no_record g.used (length-records t g.used))

      fresh : (i : ℕ) → i < g.used → (record_at t i).receipt ≡ q.details.receipt → ⊥
      fresh i h =
          let l : i < length rs = omega (arith, length-records t g.used) in
          eqb-false _ _ (ap (has_receipt q.details.receipt) (sym (get_d-records t g.used i no_record h)) ∙ found_none (has_receipt q.details.receipt) rs no_record en i l)

      pick : (i j : ℕ) → i < j → j < g.used + 1 → (record_at d.rows i).receipt ≡ (record_at d.rows j).receipt → Dec (j ≡ g.used) → ⊥
      pick i j l h e (yes s) = fresh i (omega arith) (sym (receipt-kept i (omega arith)) ∙ e ∙ ap (λ (k : ℕ). (record_at d.rows k).receipt) s ∙ new)
      pick i j l h e (no n) = once.apart i j l (omega arith) (sym (receipt-kept i (omega arith)) ∙ e ∙ receipt-kept j (omega arith))
  distinct-outcome clock q (revokes k r f ea ek ir ef es day fu ec eg er) = distinct-same (ap (λ (x : Gate). x.used) eg ∙ debit-used g f r.amount)

-- where no receipt is recorded twice, none is after any delivery
pub receipts-distinct : (g : Gate) (t : Rows) → Distinct g t → (clock params out : List ℕ) → Distinct (deliver g t clock params out).gate (deliver g t clock params out).rows
receipts-distinct g t once clock params out =
    delivered-by g t clock params out (λ (d : Delivery). Distinct d.gate d.rows)
    (λ code left size. once)
    (λ _ _. distinct-outcome g t once (respond g t clock (fault_number (request_read params)) (instruction_in params) out) (respond-lasts g t clock (fault_number (request_read params)) (instruction_in params) out)
    clock (instruction_in params) (outcome g t clock (fault_number (request_read params)) (instruction_in params) out))
