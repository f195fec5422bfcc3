-- A delivery keeps row 68: every record is good again at its place, and the gate keeps its accounts' names and its closed day.
use Rattle.std.specs.Prelude.{Option, Some, None}
use Prim.Native.Nat.{ℕ, zero, suc, ◌+◌, ◌-◌, ◌<◌, ◌≤◌}
use native.Mathlib.Decide.{ℕ_discrete}
use native.Mathlib.Omega.{arith}
use mathlib.Core.Path.{◌≡◌, refl, ap, ◌∙◌}
use mathlib.Core.Bool.{true, cond}
use mathlib.Core.List.{List, [], ◌∷◌, ◌++◌}
use lib.IntN.{ℤ}
use lib.ListN.{length, take, get_or, set, length-append, length-set, get_or-append}
use lib.Seq.{get_or_at, get_or-set_same, get_or-set_other}
use borrow.Author.Tests.{eq-eqb}
use Rattle.fields.specs.declared.number.Number.{Number}
use Rattle.texts.specs.Lists.{eq_list}
use Rattle.fields.specs.Amount.{is_amount}
use Rattle.fields.specs.Codes.{is_receipt}
use Rattle.dates.specs.Date.{is_written}
use Rattle.texts.proofs.Tests.{and_left, and_right, and_both}
use Rattle.payments.specs.declared.Details.{Details}
use Rattle.payments.specs.declared.Instruction.{Instruction}
use Rattle.payments.specs.declared.Action.TheVariants.{Payment}
use Rattle.parameters.specs.Names.{has_account, has_receipt, has_date}
use Rattle.message.specs.Request.{request_read, fault_number}
use Rattle.message.proofs.RequestRange.{read-good}
use Rattle.table.specs.declared.Account.{Account}
use Rattle.table.specs.declared.Gate.{Gate}
use Rattle.table.specs.declared.Record.{Record}
use Rattle.lists.specs.Lists.{first_from}
use Rattle.table.specs.Table.{Rows, record_at, records_of, rows_from, Whole}
use Rattle.table.specs.Accounts.{is_account, accounts_of, find_account, no_account, with_balance, gate_balance, credited, debited, with_used}
use Rattle.validity.specs.Valid.{state_good, ranges_good, account_known, authcode_good, record_good, table_good, Ready}
use Rattle.table.proofs.TableLaws.{length-records, get_d-records, from_at, from-whole, whole_from}
use Rattle.table.specs.Table.{no_record}
use Rattle.ledger.specs.Change.{next_authcode, make_record, revoked, debited_at}
use Rattle.gate.specs.Deliver.{instruction_in, respond, deliver}
use Rattle.admission.specs.Delivery.{Delivery}
use Rattle.gate_theorems.proofs.OutcomeLaws.{Outcome, stays, appends, revokes, outcome, respond-zero}
use Rattle.gate_theorems.proofs.KeepsLaws.{delivered-by}
use Rattle.ledger.proofs.ChangeLaws.{debit-used}
use Rattle.validity.proofs.GoodLaws.{Good, Near, good-table, table-again, ready-again}

-- ---- the accounts keep their names
-- the same accounts by number and type, found at the same places, and the same closed day
pub record SameNames (g g' : Gate) : Type 0 where
  pub count : g'.count ≡ g.count
  pub closed : g'.closed ≡ g.closed
  pub places : length g'.accounts ≡ length g.accounts
  pub number : (j : ℕ) → (get_or g'.accounts j no_account).number ≡ (get_or g.accounts j no_account).number
  pub kind : (j : ℕ) → (get_or g'.accounts j no_account).kind ≡ (get_or g.accounts j no_account).kind
  pub finds : (n : Number) (k : ℕ) → find_account n k (accounts_of g') ≡ find_account n k (accounts_of g)

module _ (z : ℤ) where
  abbrev moved : List Account → ℕ → List Account
  moved l a = set l a (with_balance (get_or l a no_account) z)

  number-moved : (l : List Account) (a j : ℕ) → (get_or (moved l a) j no_account).number ≡ (get_or l j no_account).number
  number-moved [] a j = refl
  number-moved (y ∷ l) zero zero = refl
  number-moved (y ∷ l) zero (suc j) = refl
  number-moved (y ∷ l) (suc a) zero = refl
  number-moved (y ∷ l) (suc a) (suc j) = number-moved l a j

  kind-moved : (l : List Account) (a j : ℕ) → (get_or (moved l a) j no_account).kind ≡ (get_or l j no_account).kind
  kind-moved [] a j = refl
  kind-moved (y ∷ l) zero zero = refl
  kind-moved (y ∷ l) zero (suc j) = refl
  kind-moved (y ∷ l) (suc a) zero = refl
  kind-moved (y ∷ l) (suc a) (suc j) = kind-moved l a j

  find-moved : (n : Number) (k m i : ℕ) (l : List Account) (a : ℕ) → first_from (is_account n k) i (take m (moved l a)) ≡ first_from (is_account n k) i (take m l)
  unfolding first_from is_account
  find-moved n k zero i l a = refl
  find-moved n k (suc m) i [] a = refl
  find-moved n k (suc m) i (y ∷ l) zero = refl
  find-moved n k (suc m) i (y ∷ l) (suc a) = ap (λ (f : Option ℕ). cond (is_account n k y) (Some i) f) (find-moved n k m (i + 1) l a)

  -- a gate with a balance moved has the same names
  pub names-moved : (g : Gate) (a : ℕ) → SameNames g (gate_balance g a z)
  unfolding find_account
  names-moved g a =
      record {
        count = refl;
        closed = refl;
        places = length-set g.accounts a _;
        number = number-moved g.accounts a;
        kind = kind-moved g.accounts a;
        finds = λ n k. find-moved n k g.count 0 g.accounts a;
      }

-- and so has the same gate
pub names_same : (g g' : Gate) → g' ≡ g → SameNames g g'
names_same g g' e = rw e (record { count = refl; closed = refl; places = refl; number = λ j. refl; kind = λ j. refl; finds = λ n k. refl })

pub names-used : (g g' : Gate) (n : ℕ) → SameNames g g' → SameNames g (with_used g' n)
names-used g g' n s = record { count = s.count; closed = s.closed; places = s.places; number = s.number; kind = s.kind; finds = s.finds }

pub names-credited : (g : Gate) (a n : ℕ) → SameNames g (credited g a n)
unfolding credited
names-credited g a n = names-moved _ g a

-- and one that is debited
pub names-debited : (g : Gate) (f : Option ℕ) (n : ℕ) → SameNames g (debited_at g f n)
unfolding debited
names-debited g None n = names_same g g refl
names-debited g (Some a) n = names-moved _ g a

-- ---- a record that is made or revoked is good
pub made-good : (g : Gate) (clock : List ℕ) (q : Details) (a : ℕ) → is_receipt q.receipt ≡ true → is_amount q.amount ≡ true → is_written q.date ≡ true → is_written clock ≡ true
    → find_account q.number q.kind (accounts_of g) ≡ Some a → record_good g g.used (make_record g clock q) ≡ true
unfolding record_good authcode_good ranges_good state_good account_known make_record next_authcode eq_list
made-good g clock q a receipt amount date dated known = rw (eq-eqb (g.used + 1) (g.used + 1) refl, receipt, amount, date, dated, known) refl

-- another state and cancel date: a good record stays good where the two agree
pub state-good : (g : Gate) (i : ℕ) (r s : Record) → s.authcode ≡ r.authcode → s.receipt ≡ r.receipt → s.amount ≡ r.amount → s.date ≡ r.date → s.credit ≡ r.credit → s.number ≡ r.number → s.kind ≡ r.kind
    → state_good s ≡ true → record_good g i r ≡ true → record_good g i s ≡ true
unfolding record_good authcode_good ranges_good account_known
state-good g i r s ea er em ed ec en ek st h =
    let rest = and_right (authcode_good i r) _ h in
    let ranges = and_left (ranges_good r) _ rest in
    let amount = and_right (is_receipt r.receipt) _ ranges in
    let date = and_right (is_amount r.amount) _ amount in
    let credit = and_right (is_written r.date) _ date in
    rw (st, ea, er, em, ed, ec, en, ek)
    (and_both (authcode_good i r) _ (and_left (authcode_good i r) _ h)
    (and_both _ (account_known g r)
    (and_both (is_receipt r.receipt) _ (and_left (is_receipt r.receipt) _ ranges)
    (and_both (is_amount r.amount) _ (and_left (is_amount r.amount) _ amount)
    (and_both (is_written r.date) _ (and_left (is_written r.date) _ date) (and_both (is_written r.credit) _ (and_left (is_written r.credit) _ credit) refl))))
    (and_right (ranges_good r) _ rest)))

pub revoked-good : (g : Gate) (clock : List ℕ) (i : ℕ) (r : Record) → is_written clock ≡ true → record_good g i r ≡ true → record_good g i (revoked clock r) ≡ true
unfolding revoked state_good
revoked-good g clock i r dated h = state-good g i r (revoked clock r) refl refl refl refl refl refl refl dated h

-- a record is good at a gate with the same names
pub good-there : (g g' : Gate) → SameNames g g' → (i : ℕ) (r : Record) → record_good g i r ≡ true → record_good g' i r ≡ true
unfolding record_good account_known
good-there g g' same i r h = rw (same.finds r.number r.kind) h

-- ---- the rows after a delivery
-- row 68 but the balance bound, the same names, and used records with their lengths
pub record Again (g : Gate) (g' : Gate) (t' : Rows) : Type 0 where
  pub good : Good g' t'
  pub names : SameNames g g'
  pub whole : Whole t' g'.used

module _ (g : Gate) (t : Rows) (good : Good g t) (g' : Gate) (t' : Rows) (same : SameNames g g') where
  again-from : (rs : List Record) → t' ≡ rows_from t rs → g'.used ≡ length rs → length rs ≤ length t.nums
      → ((i : ℕ) → i < length rs → record_good g i (get_or rs i no_record) ≡ true) → Again g g' t'
  again-from rs er eu room each =
      let size = from-whole t rs in
      let nums : length t'.nums ≡ length rs + (length t.nums - length rs) = rw er size.0 in
      let numbers : length t'.numbers ≡ length rs + (length t.numbers - length rs) = rw er size.1 in
      let dates : length t'.dates ≡ length rs + (length t.dates - length rs) = rw er size.2 in
      let few = same.count in
      record {
        good =
            record {
              some = omega (arith, good.some);
              most = omega (arith, good.most);
              numbers = omega (arith, good.numbers);
              dates = omega (arith, good.dates);
              room = omega arith;
              count = omega (arith, good.count);
              closed = rw same.closed good.closed;
              number = λ i h. rw (same.number i) (good.number i (omega arith));
              kind = λ i h. rw (same.kind i) (good.kind i (omega arith));
              records = λ i h. one i (omega arith);
            };
        names = same;
        whole = rw (er, eu) (whole_from t rs);
      }
    where
      one : (i : ℕ) → i < length rs → record_good g' i (record_at t' i) ≡ true
      one i h = good-there g g' same i (record_at t' i) (ap (record_good g i) (rw er (from_at t rs i no_record h)) ∙ each i h)

-- a payment's details in the ranges of a record
record Formed (p : Details) : Type 0 where
  receipt : is_receipt p.receipt ≡ true
  amount : is_amount p.amount ≡ true
  date : is_written p.date ≡ true

module _ (g : Gate) (t : Rows) (good : Good g t) (clock : List ℕ) (dated : is_written clock ≡ true) (q : Instruction) (d : Delivery)
    (formed : d.code ≡ 0 → q.action ≡ Payment → Formed q.details) where
  each-used : (i : ℕ) → i < g.used → record_good g i (get_or (records_of t g.used) i no_record) ≡ true
  each-used i h = ap (record_good g i) (get_d-records t g.used i no_record h) ∙ good.records i h

  again-outcome : Outcome g t clock q d → Again g d.gate d.rows
  again-outcome (stays eg er) =
      let size = length-records t g.used in
      let used : d.gate.used ≡ g.used = ap (λ (x : Gate). x.used) eg in
      let room = good.room in
      again-from g t good d.gate d.rows (names_same g d.gate eg) (records_of t g.used) er (omega arith) (omega arith)
      (λ i h. each-used i (omega arith))
  again-outcome (appends a ea en ef room day ec eg er) =
      let rs : List Record = records_of t g.used in
      let size : length rs ≡ g.used = length-records t g.used in
      let longer : length (rs ++ (make_record g clock q.details ∷ [])) ≡ length rs + 1 = length-append rs (make_record g clock q.details ∷ []) in
      let used : d.gate.used ≡ g.used + 1 = ap (λ (x : Gate). x.used) eg in
      again-from g t good d.gate d.rows (rw eg (names-used g (credited g a q.details.amount) (g.used + 1) (names-credited g a q.details.amount)))
      (rs ++ (make_record g clock q.details ∷ [])) er (omega arith) (omega arith)
      (λ i h. one i (omega arith))
    where
      one : (i : ℕ) → i < g.used + 1 → record_good g i (get_or (records_of t g.used ++ (make_record g clock q.details ∷ [])) i no_record) ≡ true
      one i h = pick (ℕ_discrete i g.used)
        where
          pick : Dec (i ≡ g.used) → record_good g i (get_or (records_of t g.used ++ (make_record g clock q.details ∷ [])) i no_record) ≡ true
          pick (yes e) =
              rw (e, get_or_at (records_of t g.used) (make_record g clock q.details) [] no_record g.used (length-records t g.used))
              (made-good g clock q.details a (formed ec ea).receipt (formed ec ea).amount (formed ec ea).date dated ef)
          pick (no n) =
              let l : i < length (records_of t g.used) = omega (arith, length-records t g.used) in
              ap (record_good g i) (get_or-append (records_of t g.used) (make_record g clock q.details ∷ []) no_record i l) ∙ each-used i (omega arith)
  again-outcome (revokes k r f ea ek ir ef es day fu ec eg er) =
      let rs : List Record = records_of t g.used in
      let size : length rs ≡ g.used = length-records t g.used in
      let as_long : length (set rs k (revoked clock r)) ≡ length rs = length-set rs k (revoked clock r) in
      let used : d.gate.used ≡ g.used = ap (λ (x : Gate). x.used) eg ∙ debit-used g f r.amount in
      let room = good.room in
      again-from g t good d.gate d.rows (rw eg (names-debited g f r.amount)) (set rs k (revoked clock r)) er (omega arith) (omega arith)
      (λ i h. one i (omega arith))
    where
      one : (i : ℕ) → i < g.used → record_good g i (get_or (set (records_of t g.used) k (revoked clock r)) i no_record) ≡ true
      one i h = pick (ℕ_discrete i k)
        where
          pick : Dec (i ≡ k) → record_good g i (get_or (set (records_of t g.used) k (revoked clock r)) i no_record) ≡ true
          pick (yes e) =
              let l : k < g.used = omega arith in
              let b : k < length (records_of t g.used) = omega (arith, length-records t g.used) in
              rw (e, get_or-set_same (records_of t g.used) k (revoked clock r) no_record b)
              (revoked-good g clock k r dated (rw ir (each-used k l)))
          pick (no n) = ap (record_good g i) (get_or-set_other (records_of t g.used) k i (revoked clock r) no_record n) ∙ each-used i h

-- a payment that was read without a fault is well formed
read-formed : (params : List ℕ) → fault_number (request_read params) ≡ 0 → (instruction_in params).action ≡ Payment → Formed (instruction_in params).details
read-formed params z e =
    let good = read-good params z in
    record { receipt = good.receipt (ap has_receipt e); amount = good.amount (ap has_account e); date = good.date (ap has_date e) }

-- ---- a delivery keeps every clause of row 68 but the balance bound, and the accounts' names
module _ (g : Gate) (t : Rows) (ready : Ready g t) (good : table_good g t ≡ true) (clock params out : List ℕ) where
  -- row 68 but the balance bound holds again, and the accounts' numbers and types and the closed day are as they were
  pub delivered-again : Again g (deliver g t clock params out).gate (deliver g t clock params out).rows
  delivered-again =
      let facts : Good g t = good-table g t ready.funds.places good in
      delivered-by g t clock params out (λ (d : Delivery). Again g d.gate d.rows)
      (λ code left size. record { good = facts; names = names_same g g refl; whole = ready.whole })
      (λ _ dated. again-outcome g t facts clock dated (instruction_in params) (respond g t clock (fault_number (request_read params)) (instruction_in params) out)
      (λ z e. read-formed params (respond-zero g t clock (fault_number (request_read params)) (instruction_in params) out z) e) (outcome g t clock (fault_number (request_read params)) (instruction_in params) out))

  -- with balances in their bound the table is good and ready for the next call
  pub delivered-good : Near (deliver g t clock params out).gate → table_good (deliver g t clock params out).gate (deliver g t clock params out).rows ≡ true
  delivered-good bound = table-again _ _ (delivered-again.names.places ∙ ready.funds.places) delivered-again.good bound

  -- and its rows have their lengths
  pub delivered-ready : Near (deliver g t clock params out).gate → Ready (deliver g t clock params out).gate (deliver g t clock params out).rows
  delivered-ready bound = ready-again _ _ (delivered-again.names.places ∙ ready.funds.places) delivered-again.good bound delivered-again.whole
