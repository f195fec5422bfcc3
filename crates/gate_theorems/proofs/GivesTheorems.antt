-- What moves, exactly, where a call's premises hold: an opening, a draw, a payment and a cancel; and what any delivery moves.
use Rattle.std.specs.Prelude.{Option, Some, None}
use Prim.Native.Nat.{ℕ, ◌+◌, ◌<◌, ◌≤◌}
use native.Mathlib.Decide.{ℕ_discrete}
use native.Mathlib.Omega.{arith}
use mathlib.Core.Path.{◌≡◌, refl, sym, ap, ◌∙◌, subst}
use mathlib.Core.Bool.{Bool, true, false, cond, ◌&&◌}
use mathlib.Core.List.{List, [], ◌∷◌, ◌++◌}
use lib.Dec.{eqb, ltb}
use lib.IntN.{ℤ, pos, neg_ℤ, ◌+ℤ◌, ◌-ℤ◌, +ℤ_idr}
use lib.Signed.{lt_z}
use lib.ListN.{length, get_or, set, length-take, length-set, length-append}
use lib.Seq.{get_or-set_same, get_or-set_other}
use borrow.Author.Tests.{lt-leb, le-leb, lt-ltb, le-ltb, eq-eqb, ne_eqb, eqb-true}
use Rattle.fields.specs.declared.number.Number.{Number}
use Rattle.fields.specs.Amount.{is_amount}
use Rattle.fields.specs.Codes.{is_kind}
use Rattle.dates.specs.Date.{is_written}
use Rattle.fields.specs.Number.{is_number}
use Rattle.payments.specs.declared.Action.TheVariants.{Payment, Cancel}
use Rattle.payments.specs.declared.Instruction.{Instruction}
use Rattle.message.specs.Request.{request_read, asked_of, fault_number}
use Rattle.lists.proofs.ListLaws.{search-within, found_at}
use Rattle.table.specs.declared.Account.{Account}
use Rattle.table.specs.declared.Gate.{Gate}
use Rattle.table.specs.declared.Record.{Record}
use Rattle.table.specs.Table.{Rows, record_at, records_of, rows_from, find_record}
use Rattle.table.specs.Accounts.{is_account, accounts_of, find_account, no_account, balance_at, with_balance, gate_balance, credited, debited, opened, with_used}
use Rattle.validity.specs.Valid.{table_good}
use Rattle.table.proofs.TableLaws.{length-records, get_d-records, receipt-within, from_at, rows_as}
use Rattle.rules.specs.declared.decision.Change.TheVariants.{Append, Revoke}
use Rattle.planning.specs.declared.plan.Plan.{Plan}
use Rattle.rules.specs.Decision.{payment_new, cancel_done, decision_on, decision}
use Rattle.table.specs.Table.{no_record}
use Rattle.planning.specs.Plan.{date_closed, account_of, date_of, is_full, view_of, plan_with, plan_of}
use Rattle.rules.specs.Answering.{is_cancel}
use Rattle.ledger.specs.Change.{make_record, revoked, debited_at, changed}
use Rattle.gate.specs.Deliver.{instruction_in, respond_by, respond, deliver}
use Rattle.admission.specs.Delivery.{Delivery}
use Rattle.opening.specs.Opening.{replies, open_to, open_account, draw_on, draw_from, draw_funds}
use Rattle.gate_theorems.proofs.CallLaws.{new_account, opened-other, opened-new}
use Rattle.gate_theorems.proofs.OutcomeLaws.{Outcome, stays, appends, revokes, outcome}
use Rattle.gate_theorems.proofs.KeepsLaws.{delivered-by}
use Rattle.ledger.proofs.ChangeLaws.{debit-used}
use Rattle.validity.proofs.GoodLaws.{record-good}
use Rattle.gate_theorems.proofs.KeptLaws.{known_of}

-- ---- one balance moves
-- the balance of account a becomes z, and every other stays
pub record Moved (g g' : Gate) (a : ℕ) (z : ℤ) : Type 0 where
  pub here : balance_at g' a ≡ z
  pub others : (j : ℕ) → (j ≡ a → ⊥) → balance_at g' j ≡ balance_at g j

-- what a lookup finds is an account
found-there : (g : Gate) (n : Number) (k a : ℕ) → find_account n k (accounts_of g) ≡ Some a → a < length g.accounts
unfolding find_account
found-there g n k a e = omega (arith, search-within (is_account n k) 0 (accounts_of g) a e, length-take g.count g.accounts)

moved : (g : Gate) (a : ℕ) (z : ℤ) → a < length g.accounts → Moved g (gate_balance g a z) a z
moved g a z h =
    let x : Account = with_balance (get_or g.accounts a no_account) z in
    record {
      here = ap (λ (y : Account). y.balance) (get_or-set_same g.accounts a x no_account h);
      others = λ j d. ap (λ (y : Account). y.balance) (get_or-set_other g.accounts a j x no_account d);
    }

credit-moves : (g : Gate) (a n u : ℕ) → a < length g.accounts → Moved g (with_used (credited g a n) u) a (balance_at g a +ℤ pos n)
unfolding credited
credit-moves g a n u h = let m = moved g a (balance_at g a +ℤ pos n) h in record { here = m.here; others = m.others }

debit-moves : (g : Gate) (a n : ℕ) → a < length g.accounts → Moved g (debited g a n) a (balance_at g a -ℤ pos n)
unfolding debited
debit-moves g a n h = moved g a (balance_at g a -ℤ pos n) h

-- ---- an opening and a draw
module _ (g : Gate) (t : Rows) (n : Number) (k : ℕ) (good : table_good g t ≡ true) (number : is_number n ≡ true) (kind : is_kind k ≡ true) where
  -- an account that is not known is opened with nothing on it, where there is a place, and every other account stays
  pub open_gives : length g.accounts ≡ 256 → find_account n k (accounts_of g) ≡ None → g.count < 256
      → (open_account g t n k ≡ replies 0 (opened g n k)) × (get_or (opened g n k).accounts g.count no_account ≡ new_account g n k)
      × ((i : ℕ) → i < g.count → get_or (opened g n k).accounts i no_account ≡ get_or g.accounts i no_account)
  unfolding open_account open_to
  open_gives places new few =
      let room : g.count < length g.accounts = omega arith in
      (rw (good, number, kind, new, lt-leb 256 g.count few) refl, opened-new g n k room, opened-other g n k room)

  -- an amount that the balance covers is drawn from the account, and nothing else moves
  pub draw-gives : (a kopecks : ℕ) → find_account n k (accounts_of g) ≡ Some a → is_amount kopecks ≡ true → lt_z (balance_at g a) (pos kopecks) ≡ false
      → (draw_funds g t n k kopecks ≡ replies 0 (debited g a kopecks)) × Moved g (debited g a kopecks) a (balance_at g a -ℤ pos kopecks)
  unfolding draw_funds draw_from draw_on
  draw-gives a kopecks found amount funds = (rw (good, number, kind, found, amount, funds) refl, debit-moves g a kopecks (found-there g n k a found))

-- ---- a request without a fault
-- the payment asked is recorded, and credited to account a
pub record Paid (g : Gate) (t : Rows) (clock : List ℕ) (q : Instruction) (a : ℕ) (d : Delivery) : Type 0 where
  pub code : d.code ≡ 0
  pub gate : d.gate ≡ with_used (credited g a q.details.amount) (g.used + 1)
  pub rows : d.rows ≡ rows_from t (records_of t g.used ++ (make_record g clock q.details ∷ []))
  pub balances : Moved g d.gate a (balance_at g a +ℤ pos q.details.amount)

-- record i is cancelled at the clock, and its amount taken from account a
pub record Revoked (g : Gate) (t : Rows) (clock : List ℕ) (i a : ℕ) (d : Delivery) : Type 0 where
  pub code : d.code ≡ 0
  pub gate : d.gate ≡ debited g a (record_at t i).amount
  pub rows : d.rows ≡ rows_from t (set (records_of t g.used) i (revoked clock (record_at t i)))
  pub record-now : record_at d.rows i ≡ revoked clock (record_at t i)
  pub balances : Moved g d.gate a (balance_at g a -ℤ pos (record_at t i).amount)

module _ (g : Gate) (t : Rows) (clock : List ℕ) (q : Instruction) (out : List ℕ) where
  abbrev rs : List Record
  rs = records_of t g.used

  abbrev planned : Plan
  planned = plan_of g rs (length t.nums) 0 q

  plan-pays : (a : ℕ) → q.action ≡ Payment → find_record q.details.receipt rs ≡ None → date_closed g q.details.date ≡ false
      → find_account q.details.number q.details.kind (accounts_of g) ≡ Some a → g.used < length t.nums
      → planned ≡ record { decided = record { code = 0; change = Append }; found = None; payment = no_record; account = Some a }
  unfolding plan_of plan_with decision decision_on payment_new view_of account_of date_of is_cancel is_full
  plan-pays a ea new day found room = rw (ea, new, day, found, lt-leb (length t.nums) g.used room) refl

  respond-pays : (a : ℕ) → q.action ≡ Payment → find_record q.details.receipt rs ≡ None → date_closed g q.details.date ≡ false
      → find_account q.details.number q.details.kind (accounts_of g) ≡ Some a → g.used < length t.nums → Paid g t clock q a (respond g t clock 0 q out)
  unfolding respond changed
  respond-pays a ea new day found room =
      subst (λ (p : Plan). Paid g t clock q a (respond_by g t clock q out p)) (sym (plan-pays a ea new day found room))
      (record { code = refl; gate = refl; rows = refl; balances = credit-moves g a q.details.amount (g.used + 1) (found-there g q.details.number q.details.kind a found) })

  module _ (i a : ℕ) (ea : q.action ≡ Cancel) (there : find_record q.details.receipt rs ≡ Some i) (done : (record_at t i).state ≡ 1) (day : date_closed g (record_at t i).date ≡ false)
      (found : find_account (record_at t i).number (record_at t i).kind (accounts_of g) ≡ Some a) (funds : lt_z (balance_at g a) (pos (record_at t i).amount) ≡ false) where
    within : i < g.used
    within = receipt-within t g.used q.details.receipt i (find_record q.details.receipt rs) refl there

    plan-cancels : planned ≡ record { decided = record { code = 0; change = Revoke }; found = Some i; payment = record_at t i; account = Some a }
    unfolding plan_of plan_with decision decision_on cancel_done view_of account_of date_of is_cancel
    plan-cancels = rw (ea, there, get_d-records t g.used i no_record within, eq-eqb (record_at t i).state 1 done, day, found, funds) refl

    respond-cancels : Revoked g t clock i a (respond g t clock 0 q out)
    unfolding respond changed
    respond-cancels =
        let gone : Record = revoked clock (record_at t i) in
        let l : i < length rs = omega (arith, within, length-records t g.used) in
        let s : i < length (set rs i gone) = omega (arith, l, length-set rs i gone) in
        subst (λ (p : Plan). Revoked g t clock i a (respond_by g t clock q out p)) (sym plan-cancels)
        (record {
          code = refl;
          gate = refl;
          rows = refl;
          record-now = from_at t (set rs i gone) i no_record s ∙ get_or-set_same rs i gone no_record l;
          balances = debit-moves g a (record_at t i).amount (found-there g (record_at t i).number (record_at t i).kind a found);
        })

-- ---- a delivery that passes the call's tests
module _ (g : Gate) (t : Rows) (clock params out : List ℕ) (good : table_good g t ≡ true) (size : 512 ≤ length out) (dated : is_written clock ≡ true) (none : fault_number (request_read params) ≡ 0) where
  abbrev pub asked : Instruction
  asked = instruction_in params

  responds : deliver g t clock params out ≡ respond g t clock 0 asked out
  unfolding deliver
  responds = rw (good, le-leb 512 (length out) size, dated, none) refl

  -- a payment that is not recorded, of an open day, to a known account, with a place left, is recorded and credited
  pub pays : (a : ℕ) → asked.action ≡ Payment → find_record asked.details.receipt (records_of t g.used) ≡ None → date_closed g asked.details.date ≡ false
      → find_account asked.details.number asked.details.kind (accounts_of g) ≡ Some a → g.used < length t.nums → Paid g t clock asked a (deliver g t clock params out)
  pays a ea new day found room = subst (Paid g t clock asked a) (sym responds) (respond-pays g t clock asked out a ea new day found room)

  -- a cancel of a payment that is done, of an open day, with the amount on its account, cancels it and takes the amount
  pub cancels : (i a : ℕ) → asked.action ≡ Cancel → find_record asked.details.receipt (records_of t g.used) ≡ Some i → (record_at t i).state ≡ 1 → date_closed g (record_at t i).date ≡ false
      → find_account (record_at t i).number (record_at t i).kind (accounts_of g) ≡ Some a → lt_z (balance_at g a) (pos (record_at t i).amount) ≡ false
      → Revoked g t clock i a (deliver g t clock params out)
  cancels i a ea there done day found funds = subst (Revoked g t clock i a) (sym responds) (respond-cancels g t clock asked out i a ea there done day found funds)

-- ---- any delivery
-- no record and no balance moves; or one record more, its amount on the first account that fits; or one record cancelled, its amount off its account
pub data Moves (g : Gate) (t : Rows) (clock : List ℕ) (q : Instruction) (d : Delivery) : Type 0 where
  none_moves : records_of d.rows d.gate.used ≡ records_of t g.used → ((j : ℕ) → balance_at d.gate j ≡ balance_at g j) → Moves g t clock q d
  one-paid : (a : ℕ) → find_record q.details.receipt (records_of t g.used) ≡ None → find_account q.details.number q.details.kind (accounts_of g) ≡ Some a
      → records_of d.rows d.gate.used ≡ records_of t g.used ++ (make_record g clock q.details ∷ []) → Moved g d.gate a (balance_at g a +ℤ pos q.details.amount) → Moves g t clock q d
  one-revoked : (i a : ℕ) → find_record q.details.receipt (records_of t g.used) ≡ Some i → (record_at t i).state ≡ 1
      → find_account (record_at t i).number (record_at t i).kind (accounts_of g) ≡ Some a
      → records_of d.rows d.gate.used ≡ set (records_of t g.used) i (revoked clock (record_at t i))
      → Moved g d.gate a (balance_at g a -ℤ pos (record_at t i).amount) → Moves g t clock q d

module _ (g : Gate) (t : Rows) (clock : List ℕ) (q : Instruction) (d : Delivery) where
  -- the records that the rows hold
  left-records : (xs : List Record) (g' : Gate) → d.rows ≡ rows_from t xs → d.gate ≡ g' → length xs ≡ g'.used → records_of d.rows d.gate.used ≡ xs
  left-records xs g' er eg l =
      ap (λ (x : Rows). records_of x d.gate.used) er ∙ ap (λ (x : Gate). records_of (rows_from t xs) x.used) eg ∙ rows_as t xs no_record g'.used l

  outcome-moves : table_good g t ≡ true → Outcome g t clock q d → Moves g t clock q d
  outcome-moves good (stays eg er) =
      none_moves (left-records (records_of t g.used) g er eg (length-records t g.used)) (λ j. ap (λ (x : Gate). balance_at x j) eg)
  outcome-moves good (appends a ea en ef room day ec eg er) =
      let l : length (records_of t g.used ++ (make_record g clock q.details ∷ [])) ≡ g.used + 1
      = length-append (records_of t g.used) (make_record g clock q.details ∷ []) ∙ ap (λ (m : ℕ). m + 1) (length-records t g.used) in
      one-paid a en ef (left-records _ (with_used (credited g a q.details.amount) (g.used + 1)) er eg l)
      (subst (λ (x : Gate). Moved g x a (balance_at g a +ℤ pos q.details.amount)) (sym eg) (credit-moves g a q.details.amount (g.used + 1) (found-there g q.details.number q.details.kind a ef)))
  outcome-moves good (revokes i r f ea ei er ef es day fu ec eg el) =
      let within : i < g.used = receipt-within t g.used q.details.receipt i (find_record q.details.receipt (records_of t g.used)) refl ei in
      let is : r ≡ record_at t i = er ∙ get_d-records t g.used i no_record within in
      let h = found_at _ (known_of g i (record_at t i) (record-good g t good i within)) in
      let fa : f ≡ Some h.0 = ef ∙ ap (λ (x : Record). find_account x.number x.kind (accounts_of g)) is ∙ h.1 in
      let now : d.gate ≡ debited g h.0 (record_at t i).amount = eg ∙ ap (λ (x : Option ℕ). debited_at g x r.amount) fa ∙ ap (λ (x : Record). debited g h.0 x.amount) is in
      let rows : d.rows ≡ rows_from t (set (records_of t g.used) i (revoked clock (record_at t i))) = el ∙ ap (λ (x : Record). rows_from t (set (records_of t g.used) i (revoked clock x))) is in
      let l : length (set (records_of t g.used) i (revoked clock (record_at t i))) ≡ (debited g h.0 (record_at t i).amount).used
      = length-set (records_of t g.used) i _ ∙ length-records t g.used ∙ sym (debit-used g (Some h.0) (record_at t i).amount) in
      one-revoked i h.0 ei (ap (λ (x : Record). x.state) (sym is) ∙ es) h.1
      (left-records _ (debited g h.0 (record_at t i).amount) rows now l)
      (subst (λ (x : Gate). Moved g x h.0 (balance_at g h.0 -ℤ pos (record_at t i).amount)) (sym now)
      (debit-moves g h.0 (record_at t i).amount (found-there g (record_at t i).number (record_at t i).kind h.0 h.1)))

-- every delivery is one of these
pub deliver-moves : (g : Gate) (t : Rows) (clock params out : List ℕ) → Moves g t clock (instruction_in params) (deliver g t clock params out)
deliver-moves g t clock params out =
    delivered-by g t clock params out (Moves g t clock (instruction_in params)) (λ code left size. none_moves refl (λ j. refl))
    (λ good _. outcome-moves g t clock (instruction_in params) (respond g t clock (fault_number (request_read params)) (instruction_in params) out) good (outcome g t clock (fault_number (request_read params)) (instruction_in params) out))

-- ---- the same as one equation
-- an amount, where it goes to account j
abbrev pub amount_at : ℕ → Option ℕ → ℕ → ℕ
amount_at j None n = 0
amount_at j (Some a) n = cond (eqb a j) n 0

-- what a delivery that added a record adds to the balance at j
abbrev pub raised : Gate → Instruction → Delivery → ℕ → ℕ
raised g q d j = cond (ltb g.used d.gate.used) (amount_at j (find_account q.details.number q.details.kind (accounts_of g)) q.details.amount) 0

-- what a delivery that turned record i from done to cancelled takes from it
abbrev pub lowered : Gate → Rows → Delivery → Option ℕ → ℕ → ℕ
lowered g t d None j = 0
lowered g t d (Some i) j =
    cond (eqb (record_at t i).state 1 && eqb (record_at d.rows i).state 2) (amount_at j (find_account (record_at t i).number (record_at t i).kind (accounts_of g)) (record_at t i).amount) 0

revoked-state : (clock : List ℕ) (r : Record) → (revoked clock r).state ≡ 2
unfolding revoked
revoked-state clock r = refl

-- every balance after one has moved by an amount, up or down
moved_by : (amount : ℕ → ℤ) → amount 0 ≡ pos 0 → (g g' : Gate) (a n j : ℕ) → Moved g g' a (balance_at g a +ℤ amount n) → balance_at g' j ≡ balance_at g j +ℤ amount (cond (eqb a j) n 0)
moved_by amount none g g' a n j m = go (ℕ_discrete j a)
  where
    go : Dec (j ≡ a) → balance_at g' j ≡ balance_at g j +ℤ amount (cond (eqb a j) n 0)
    go (yes e) = rw (eq-eqb a j (sym e), e) m.here
    go (no d) = rw (ne_eqb a j (λ q. d (sym q)), none) (m.others j d ∙ sym (+ℤ_idr (balance_at g j)))

module _ (g : Gate) (t : Rows) (clock : List ℕ) (q : Instruction) (d : Delivery) (j : ℕ) where
  -- the records of d tell how many there are, and what is at i
  used-now : (xs : List Record) → records_of d.rows d.gate.used ≡ xs → d.gate.used ≡ length xs
  used-now xs e = sym (length-records d.rows d.gate.used) ∙ ap length e

  record-now : (xs : List Record) → records_of d.rows d.gate.used ≡ xs → (i : ℕ) → i < length xs → record_at d.rows i ≡ get_or xs i no_record
  record-now xs e i l =
      let h : i < d.gate.used = omega (arith, l, used-now xs e) in
      sym (get_d-records d.rows d.gate.used i no_record h) ∙ ap (λ (x : List Record). get_or x i no_record) e

  none-raised : d.gate.used ≡ g.used → raised g q d j ≡ 0
  none-raised e = rw (le-ltb g.used d.gate.used (omega (arith, e)))

  none-lowered : records_of d.rows d.gate.used ≡ records_of t g.used → (f : Option ℕ) → find_record q.details.receipt (records_of t g.used) ≡ f → lowered g t d f j ≡ 0
  none-lowered e None ef = refl
  none-lowered e (Some i) ef = go (eqb (record_at t i).state 1) refl
    where
      within : i < g.used
      within = receipt-within t g.used q.details.receipt i (find_record q.details.receipt (records_of t g.used)) refl ef

      same : record_at d.rows i ≡ record_at t i
      same = let l : i < length (records_of t g.used) = omega (arith, within, length-records t g.used) in record-now (records_of t g.used) e i l ∙ get_d-records t g.used i no_record within

      go : (z : Bool) → eqb (record_at t i).state 1 ≡ z
          → cond (z && eqb (record_at d.rows i).state 2) (amount_at j (find_account (record_at t i).number (record_at t i).kind (accounts_of g)) (record_at t i).amount) 0 ≡ 0
      go true h = let z : (record_at d.rows i).state ≡ 1 = ap (λ (x : Record). x.state) same ∙ eqb-true (record_at t i).state 1 h in rw z refl
      go false h = refl

  moves-balance : Moves g t clock q d → balance_at d.gate j ≡ (balance_at g j +ℤ pos (raised g q d j)) -ℤ pos (lowered g t d (find_record q.details.receipt (records_of t g.used)) j)
  moves-balance (none_moves er eb) =
      rw (none-raised (used-now _ er ∙ length-records t g.used), none-lowered er (find_record q.details.receipt (records_of t g.used)) refl)
      (eb j ∙ sym (+ℤ_idr (balance_at g j)) ∙ sym (+ℤ_idr (balance_at g j +ℤ pos 0)))
  moves-balance (one-paid a en ef er m) =
      let u : d.gate.used ≡ g.used + 1 = used-now _ er ∙ length-append (records_of t g.used) (make_record g clock q.details ∷ []) ∙ ap (λ (k : ℕ). k + 1) (length-records t g.used) in
      rw (lt-ltb g.used d.gate.used (omega (arith, u)), en, ef) (moved_by pos refl g d.gate a q.details.amount j m ∙ sym (+ℤ_idr (balance_at g j +ℤ pos (cond (eqb a j) q.details.amount 0))))
  moves-balance (one-revoked i a ei es ef er m) =
      let gone : Record = revoked clock (record_at t i) in
      let within : i < g.used = receipt-within t g.used q.details.receipt i (find_record q.details.receipt (records_of t g.used)) refl ei in
      let l : i < length (records_of t g.used) = omega (arith, within, length-records t g.used) in
      let s : i < length (set (records_of t g.used) i gone) = omega (arith, l, length-set (records_of t g.used) i gone) in
      let now : (record_at d.rows i).state ≡ 2
      = ap (λ (x : Record). x.state) (record-now (set (records_of t g.used) i gone) er i s ∙ get_or-set_same (records_of t g.used) i gone no_record l) ∙ revoked-state clock (record_at t i) in
      rw (none-raised (used-now _ er ∙ length-set (records_of t g.used) i gone ∙ length-records t g.used), ei, es, now, ef)
      (moved_by (λ n. neg_ℤ (pos n)) refl g d.gate a (record_at t i).amount j m ∙ ap (λ (z : ℤ). z -ℤ pos (cond (eqb a j) (record_at t i).amount 0)) (sym (+ℤ_idr (balance_at g j))))

-- after every delivery each balance is what it was, plus the amount of a record added for that account, minus that of one cancelled
pub deliver-balance : (g : Gate) (t : Rows) (clock params out : List ℕ) (j : ℕ)
    → balance_at (deliver g t clock params out).gate j
    ≡ (balance_at g j +ℤ pos (raised g (instruction_in params) (deliver g t clock params out) j))
    -ℤ pos (lowered g t (deliver g t clock params out) (find_record (asked_of (request_read params)).receipt (records_of t g.used)) j)
deliver-balance g t clock params out j = moves-balance g t clock (instruction_in params) (deliver g t clock params out) j (deliver-moves g t clock params out)
