-- Opening an account and drawing from one keep row 68, the balance bound too.
use Rattle.std.specs.Prelude.{Option, Some, None}
use Prim.Native.Nat.{ℕ, zero, suc, ◌+◌, ◌-◌, ◌<◌}
use native.Mathlib.Nat.{add-zero}
use native.Mathlib.Numerals.{add-one}
use native.Mathlib.Decide.{ℕ_discrete}
use native.Mathlib.Omega.{arith}
use mathlib.Core.Path.{◌≡◌, refl, sym, ◌∙◌}
use mathlib.Core.Bool.{Bool, true, false, cond, not, ◌&&◌}
use mathlib.Core.List.{List, [], ◌∷◌, ◌++◌}
use lib.Dec.{leb, ltb}
use lib.IntN.{ℤ, pos, negsuc, ◌+ℤ◌, ◌-ℤ◌}
use lib.Signed.{lt_z}
use lib.ListN.{length, get_or, set, length-set}
use lib.Seq.{get_or-set_same, get_or-set_other, take-suc-set}
use borrow.Author.Tests.{leb-true, leb-false, le-leb, not-true}
use Rattle.fields.specs.declared.number.Number.{Number}
use Rattle.fields.specs.Amount.{is_amount}
use Rattle.fields.specs.Codes.{is_kind}
use Rattle.fields.specs.Number.{is_number}
use Rattle.texts.proofs.Tests.{and_left, and_right, cond-elim, no-claim, and_both}
use Rattle.table.specs.declared.Account.{Account}
use Rattle.table.specs.declared.Gate.{Gate}
use Rattle.table.specs.declared.Record.{Record}
use Rattle.lists.specs.Lists.{first_from, is_found}
use Rattle.table.specs.Table.{Rows, record_at, records_of, find_record}
use Rattle.table.specs.Accounts.{is_account, accounts_of, find_account, no_account, with_balance, balance_at, credited, debited, with_used, opened}
use Rattle.validity.specs.Valid.{near, ranges_good, account_known, authcode_good, record_good, table_good, Ready}
use Rattle.table.proofs.AccountLaws.{holder-within}
use Rattle.ledger.specs.declared.Reply.{Reply}
use Rattle.payments.specs.declared.Action.TheVariants.{Payment}
use Rattle.payments.specs.declared.Instruction.{Instruction}
use Rattle.message.specs.Request.{request_read, fault_number}
use Rattle.planning.specs.Plan.{is_short}
use Rattle.ledger.specs.Change.{debited_at}
use Rattle.gate.specs.Deliver.{instruction_in, respond, deliver}
use Rattle.admission.specs.Delivery.{Delivery}
use Rattle.opening.specs.Opening.{replies, open_to, open_account, draw_on, draw_from, draw_funds}
use Rattle.gate_theorems.proofs.OutcomeLaws.{Outcome, stays, appends, revokes, outcome}
use Rattle.gate_theorems.proofs.KeepsLaws.{delivered-by}
use Rattle.validity.proofs.GoodLaws.{Good, Near, good-table, near-table, table-again, ready-again}
use Rattle.gate_theorems.proofs.RowsLaws.{SameNames, names_same, names-debited, good-there, delivered-good, delivered-ready}

-- ---- a balance that is drawn on stays in its bound
near-minus : (z : ℤ) (n : ℕ) → near z ≡ true → lt_z z (pos n) ≡ false → near (z -ℤ pos n) ≡ true
unfolding near
near-minus (pos m) zero h e = rw add-zero h
near-minus (pos m) (suc n) h e = pick (ltb m (suc n)) e
  where
    pick : (b : Bool) → b ≡ false → near (cond b (negsuc (suc n - suc m)) (pos (m - suc n))) ≡ true
    pick true q = no-claim (sym q)
    pick false q = le-leb (m - suc n) 10000000000000 (omega (arith, leb-true m 10000000000000 h))
near-minus (negsuc m) n h e = no-claim (sym e)

near-set : (l : List Account) (i j : ℕ) (x : Account) → near x.balance ≡ true → near (get_or l j no_account).balance ≡ true
    → near (get_or (set l i x) j no_account).balance ≡ true
near-set [] i j x new old = old
near-set (y ∷ l) zero zero x new old = new
near-set (y ∷ l) zero (suc j) x new old = old
near-set (y ∷ l) (suc i) zero x new old = old
near-set (y ∷ l) (suc i) (suc j) x new old = near-set l i j x new old

-- balances in their bound stay there where a covered amount is taken
pub near-debited : (g : Gate) (a n : ℕ) → Near g → a < g.count → lt_z (balance_at g a) (pos n) ≡ false → Near (debited g a n)
unfolding debited
near-debited g a n bound h funds =
    record {
      balances = λ i l.
          near-set g.accounts a i (with_balance (get_or g.accounts a no_account) (balance_at g a -ℤ pos n)) (near-minus (balance_at g a) n (bound.balances a h) funds) (bound.balances i l);
    }

near-credited : (g : Gate) (a n : ℕ) → Near g → near (balance_at g a +ℤ pos n) ≡ true → Near (credited g a n)
unfolding credited
near-credited g a n bound room =
    record { balances = λ i l. near-set g.accounts a i (with_balance (get_or g.accounts a no_account) (balance_at g a +ℤ pos n)) room (bound.balances i l) }

near-used : (g : Gate) (n : ℕ) → Near g → Near (with_used g n)
near-used g n bound = record { balances = bound.balances }

-- a payment that is not recorded leaves its account within the balance bound
abbrev pub Roomy : Gate → Rows → Instruction → Type 0
Roomy g t q =
    (a : ℕ) → q.action ≡ Payment → find_record q.details.receipt (records_of t g.used) ≡ None → find_account q.details.number q.details.kind (accounts_of g) ≡ Some a
    → near (balance_at g a +ℤ pos q.details.amount) ≡ true

-- ---- a gate with the same names keeps the clauses
good-names : (g g' : Gate) (t : Rows) → SameNames g g' → g'.used ≡ g.used → Good g t → Good g' t
good-names g g' t same used good =
    let few = same.count in
    record {
      some = good.some;
      most = good.most;
      numbers = good.numbers;
      dates = good.dates;
      room = omega (arith, good.room);
      count = omega (arith, good.count);
      closed = rw same.closed good.closed;
      number = λ i h. rw (same.number i) (good.number i (omega arith));
      kind = λ i h. rw (same.kind i) (good.kind i (omega arith));
      records = λ i h. good-there g g' same i (record_at t i) (good.records i (omega arith));
    }

-- ---- an account more
found-more : (p : Account → Bool) (i : ℕ) (l m : List Account) → is_found (first_from p i l) ≡ true → is_found (first_from p i (l ++ m)) ≡ true
unfolding first_from
found-more p i [] m h = no-claim h
found-more p i (y ∷ l) m h = go (p y) (λ q. found-more p (i + 1) l m q) h
  where
    go : (b : Bool) → (is_found (first_from p (i + 1) l) ≡ true → is_found (first_from p (i + 1) (l ++ m)) ≡ true)
        → is_found (cond b (Some i) (first_from p (i + 1) l)) ≡ true → is_found (cond b (Some i) (first_from p (i + 1) (l ++ m))) ≡ true
    go true up q = refl
    go false up q = up q

module _ (g : Gate) (n : Number) (k : ℕ) where
  abbrev pub new_account : Account
  new_account = record { number = n; kind = k; balance = pos 0 }

  module _ (room : g.count < length g.accounts) where
    pub accounts-more : accounts_of (opened g n k) ≡ accounts_of g ++ (new_account ∷ [])
    unfolding opened
    accounts-more = rw add-one (take-suc-set g.accounts g.count new_account room)

    -- an opening adds one account and leaves each other as it was
    pub opened-other : (i : ℕ) → i < g.count → get_or (opened g n k).accounts i no_account ≡ get_or g.accounts i no_account
    unfolding opened
    opened-other i h = get_or-set_other g.accounts g.count i new_account no_account (omega arith)

    -- the new account has the number and type asked for, and nothing on it
    pub opened-new : get_or (opened g n k).accounts g.count no_account ≡ new_account
    unfolding opened
    opened-new = get_or-set_same g.accounts g.count new_account no_account room

    opened-each : (P : Account → Type 0) → P new_account → ((i : ℕ) → i < g.count → P (get_or g.accounts i no_account))
        → (i : ℕ) → i < g.count + 1 → P (get_or (opened g n k).accounts i no_account)
    opened-each P new old i h = pick (ℕ_discrete i g.count)
      where
        pick : Dec (i ≡ g.count) → P (get_or (opened g n k).accounts i no_account)
        pick (yes e) = rw (e, opened-new) new
        pick (no d) = let l : i < g.count = omega arith in rw (opened-other i l) (old i l)

    opened-record : (i : ℕ) (r : Record) → record_good g i r ≡ true → record_good (opened g n k) i r ≡ true
    unfolding record_good account_known find_account
    opened-record i r h =
        let rest = and_right (authcode_good i r) _ h in
        and_both (authcode_good i r) _ (and_left (authcode_good i r) _ h)
        (and_both (ranges_good r) _ (and_left (ranges_good r) _ rest)
        (rw accounts-more (found-more (is_account r.number r.kind) 0 (accounts_of g) (new_account ∷ []) (and_right (ranges_good r) _ rest))))

    opened-good : (t : Rows) → is_number n ≡ true → is_kind k ≡ true → g.count < 256 → Good g t → Good (opened g n k) t
    unfolding opened
    opened-good t en ek few good =
        record {
          some = good.some;
          most = good.most;
          numbers = good.numbers;
          dates = good.dates;
          room = good.room;
          count = omega arith;
          closed = good.closed;
          number = opened-each (λ (a : Account). is_number a.number ≡ true) en good.number;
          kind = opened-each (λ (a : Account). is_kind a.kind ≡ true) ek good.kind;
          records = λ i h. opened-record i (record_at t i) (good.records i h);
        }

    opened-near : Near g → Near (opened g n k)
    unfolding opened near
    opened-near bound = record { balances = opened-each (λ (a : Account). near a.balance ≡ true) refl bound.balances }

-- ---- the calls
-- a property of what a call gives, which a fault has and a success has
module _ (g : Gate) (t : Rows) (n : Number) (k : ℕ) (P : Reply → Type 0) (fault : (c : ℕ) → (c ≡ 0 → ⊥) → P (replies c g)) where
  pub open-elim : (is_number n && is_kind k ≡ true → is_found (find_account n k (accounts_of g)) ≡ false → g.count < 256 → P (replies 0 (opened g n k))) → P (open_account g t n k)
  unfolding open_account open_to
  open-elim s =
      cond-elim P (table_good g t) _ _
      (λ _. cond-elim P (is_number n && is_kind k) _ _
      (λ v. cond-elim P (is_found (find_account n k (accounts_of g))) _ _ (λ _. fault 56 (λ z. omega arith))
      (λ u. cond-elim P (leb 256 g.count) _ _ (λ _. fault 57 (λ z. omega arith)) (λ l. s v u (leb-false _ _ l))))
      (λ _. fault 59 (λ z. omega arith)))
      (λ _. fault 68 (λ z. omega arith))

  pub draw-elim : (m : ℕ) → ((a : ℕ) → is_number n && is_kind k ≡ true → find_account n k (accounts_of g) ≡ Some a → lt_z (balance_at g a) (pos m) ≡ false → P (replies 0 (debited g a m))) → P (draw_funds g t n k m)
  unfolding draw_funds draw_from draw_on
  draw-elim m s =
      cond-elim P (table_good g t) _ _
      (λ _. cond-elim P (is_number n && is_kind k) _ _ (λ v. on v (find_account n k (accounts_of g)) refl) (λ _. fault 59 (λ z. omega arith)))
      (λ _. fault 68 (λ z. omega arith))
    where
      on : is_number n && is_kind k ≡ true → (f : Option ℕ) → find_account n k (accounts_of g) ≡ f → P (draw_on g f m)
      on v None e = fault 59 (λ z. omega arith)
      on v (Some a) e =
          cond-elim P (is_amount m && not (lt_z (balance_at g a) (pos m))) _ _ (λ h. s a v e (not-true _ (and_right (is_amount m) (not (lt_z (balance_at g a) (pos m))) h))) (λ _. fault 58 (λ z. omega arith))

-- row 68 holds again, and the number of records and the closed day are as they were
pub record Stands (g : Gate) (t : Rows) (g' : Gate) : Type 0 where
  pub table : table_good g' t ≡ true
  pub ready : Ready g' t
  pub used : g'.used ≡ g.used
  pub closed : g'.closed ≡ g.closed

module _ (g : Gate) (t : Rows) (ready : Ready g t) (good : table_good g t ≡ true) where
  stands : (g' : Gate) → length g'.accounts ≡ 256 → Good g' t → Near g' → g'.used ≡ g.used → g'.closed ≡ g.closed → Stands g t g'
  stands g' places facts bound used closed =
      record { table = table-again g' t places facts bound; ready = ready-again g' t places facts bound (rw used ready.whole); used = used; closed = closed }

  same : (code : ℕ) → Stands g t (replies code g).gate
  same code = record { table = good; ready = ready; used = refl; closed = refl }

  facts : Good g t
  facts = good-table g t ready.funds.places good

  bound : Near g
  bound = near-table g t ready.funds.places good

  abbrev StandsReply : Reply → Type 0
  StandsReply r = Stands g t r.gate

  opened-stands : (n : Number) (k : ℕ) → is_number n && is_kind k ≡ true → g.count < 256 → Stands g t (opened g n k)
  unfolding opened
  opened-stands n k named l =
      let room : g.count < length g.accounts = omega (arith, ready.funds.places) in
      stands (opened g n k) (length-set g.accounts g.count _ ∙ ready.funds.places)
      (opened-good g n k room t (and_left (is_number n) (is_kind k) named) (and_right (is_number n) (is_kind k) named) l facts)
      (opened-near g n k room bound) refl refl

  -- ---- 5: an opening keeps row 68
  pub open-good : (n : Number) (k : ℕ) → Stands g t (open_account g t n k).gate
  open-good n k = open-elim g t n k StandsReply (λ c _. same c) (λ named _ few. opened-stands n k named few)

  debited-stands : (a m : ℕ) → a < g.count → lt_z (balance_at g a) (pos m) ≡ false → Stands g t (debited g a m)
  unfolding debited
  debited-stands a m h funds =
      let names : SameNames g (debited g a m) = names-debited g (Some a) m in
      stands (debited g a m) (names.places ∙ ready.funds.places) (good-names g (debited g a m) t names refl facts) (near-debited g a m bound h funds) refl names.closed

  -- a draw keeps row 68
  pub draw-good : (n : Number) (k m : ℕ) → Stands g t (draw_funds g t n k m).gate
  draw-good n k m =
      draw-elim g t n k StandsReply (λ c _. same c) m
      (λ a _ found funds. debited-stands a m (holder-within g n k a (find_account n k (accounts_of g)) refl found) funds)

  -- and the accounts' names
  pub draw-names : (n : Number) (k m : ℕ) → SameNames g (draw_funds g t n k m).gate
  draw-names n k m = draw-elim g t n k (λ (r : Reply). SameNames g r.gate) (λ _ _. names_same g g refl) m (λ a _ _ _. names-debited g (Some a) m)

  -- ---- only a payment that is credited may take a balance past its bound
  short-near : (f : Option ℕ) (n : Number) (k m : ℕ) → f ≡ find_account n k (accounts_of g) → is_short g f m ≡ false → Near (debited_at g f m)
  short-near None n k m is funds = bound
  short-near (Some a) n k m is funds = near-debited g a m bound (holder-within g n k a (Some a) is refl) funds

  outcome-near : (clock : List ℕ) (q : Instruction) (d : Delivery) → Outcome g t clock q d → Roomy g t q → Near d.gate
  outcome-near clock q d (stays eg er) room = rw eg bound
  outcome-near clock q d (appends a ea en ef _ day ec eg er) room = rw eg (near-used (credited g a q.details.amount) (g.used + 1) (near-credited g a q.details.amount bound (room a ea en ef)))
  outcome-near clock q d (revokes i r f ea ei er ef es day fu ec eg el) room = rw eg (short-near f r.number r.kind r.amount ef fu)

  module _ (clock params out : List ℕ) (room : Roomy g t (instruction_in params)) where
    delivered-near : Near (deliver g t clock params out).gate
    delivered-near =
        delivered-by g t clock params out (λ (d : Delivery). Near d.gate) (λ code left size. bound)
        (λ _ _. outcome-near clock (instruction_in params) (respond g t clock (fault_number (request_read params)) (instruction_in params) out) (outcome g t clock (fault_number (request_read params)) (instruction_in params) out) room)

    -- 5: a delivery keeps row 68 where its account has room for a payment
    pub call-good : table_good (deliver g t clock params out).gate (deliver g t clock params out).rows ≡ true
    call-good = delivered-good g t ready good clock params out delivered-near

    -- and the gate and the rows are ready for the next call
    pub call-ready : Ready (deliver g t clock params out).gate (deliver g t clock params out).rows
    call-ready = delivered-ready g t ready good clock params out delivered-near
