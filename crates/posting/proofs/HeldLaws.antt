-- What one line leaves: whole rows, and balances within a bound that is higher by an amount.
use Rattle.std.specs.Prelude.{Option, Some, None}
use Prim.Native.Nat.{ℕ, ◌+◌, ◌≤◌, ◌<◌}
use native.Mathlib.Decide.{dec_lt, ℕ_discrete}
use native.Mathlib.Omega.{arith}
use mathlib.Core.Path.{◌≡◌, refl, ap, ◌∙◌}
use mathlib.Core.Bool.{Bool, true, false, cond}
use mathlib.Core.List.{List, [], ◌∷◌, ◌++◌}
use lib.Dec.{leb}
use lib.IntN.{ℤ, pos, ◌+ℤ◌}
use lib.Signed.{mag}
use lib.ListN.{length, get_or, set, length-set, length-append, get_or-append}
use lib.Seq.{get_or_at, get_or-set_same, get_or-set_other}
use borrow.Author.Tests.{leb-false}
use Rattle.lines.specs.declared.line.Line.{Line}
use Rattle.table.specs.declared.Account.{Account}
use Rattle.table.specs.declared.Gate.{Gate}
use Rattle.table.specs.declared.Record.{Record}
use Rattle.lists.specs.Lists.{first_from}
use Rattle.table.specs.Table.{Rows, record_at, records_of, find_record}
use Rattle.table.specs.Accounts.{accounts_of, find_account, no_account, with_balance, balance_at, gate_balance, credited}
use Rattle.table.proofs.SignedLaws.{mag_up}
use Rattle.table.proofs.AccountLaws.{holder-within}
use Rattle.table.proofs.TableLaws.{length-records, get_d-records, from_at, from-whole, whole_from, records-from}
use Rattle.table.specs.Accounts.{Funds}
use Rattle.table.specs.Table.{no_record}
use Rattle.planning.specs.Plan.{is_full}
use Rattle.ledger.specs.Change.{make_record, credited_at}
use Rattle.table.specs.Daily.{is_done}
use Rattle.posting.specs.Posting.{matches, post_verdict, match_verdict, verdict_of, restored, posted_record, Ledger, Verdict, Keeps, Restores, Posts, Unposted, applied, settle_line, ledger_of}
use Rattle.posting.specs.Steps.{Held, Left}

-- ---- balances
pub funds-more : (g : Gate) (b c : ℕ) → Funds g b → b ≤ c → Funds g c
funds-more g b c f h = record { places = f.places; count = f.count; balances = λ i l. omega (arith, f.balances i l) }

pub held_more : (g : Gate) (t : Rows) (b c : ℕ) → Held g t b → b ≤ c → Held g t c
held_more g t b c h l =
    let k = h.backed in
    record { backed = record { whole = k.whole; same = k.same; size = k.size; funds = funds-more g b c k.funds l }; small = h.small }

pub funds-moved : (g : Gate) (b c : ℕ) → Funds g b → b ≤ c → (a : ℕ) (z : ℤ) → mag z ≤ c → Funds (gate_balance g a z) c
funds-moved g b c f h a z m =
    record { places = length-set g.accounts a _ ∙ f.places; count = f.count; balances = λ i l. one i l (ℕ_discrete i a) }
  where
    one : (i : ℕ) → i < g.count → Dec (i ≡ a) → mag (balance_at (gate_balance g a z) i) ≤ c
    one i l (yes e) =
        let k : a < length g.accounts = omega (arith, f.places, f.count) in
        let q : balance_at (gate_balance g a z) i ≡ z =
        ap (λ (j : ℕ). balance_at (gate_balance g a z) j) e ∙ ap (λ (y : Account). y.balance) (get_or-set_same g.accounts a (with_balance (get_or g.accounts a no_account) z) no_account k) in
        rw q m
    one i l (no d) =
        let q : balance_at (gate_balance g a z) i ≡ balance_at g i =
        ap (λ (y : Account). y.balance) (get_or-set_other g.accounts a i (with_balance (get_or g.accounts a no_account) z) no_account d) in
        rw q (omega (arith, f.balances i l))

module _ (g : Gate) (b n : ℕ) (f : Funds g b) (few : n < 1000000000) where
  funds-credited : (a : ℕ) → a < g.count → Funds (credited g a n) (b + 1000000000)
  unfolding credited
  funds-credited a h = funds-moved g b (b + 1000000000) f (omega arith) a (balance_at g a +ℤ pos n) (omega (arith, mag_up (balance_at g a) n, f.balances a h))

  funds-credited-at : (k : Option ℕ) → ((a : ℕ) → k ≡ Some a → a < g.count) → Funds (credited_at g k n) (b + 1000000000)
  funds-credited-at None w = funds-more g b (b + 1000000000) f (omega arith)
  funds-credited-at (Some a) w = funds-credited a (w a refl)

-- ---- what a verdict of posting says
other : {A : Type 0} {v : Verdict} {a : ℕ} → v ≡ Posts a → v ≡ Unposted → A
other e u = let z : ◌≡◌ {A = ℕ} 0 1 = cc in absurd (omega arith)

pub post-room : (f k : Option ℕ) (full : Bool) (a : ℕ) → post_verdict f k full ≡ Posts a → (full ≡ false) × (k ≡ Some a)
post-room (Some i) k full a e = other e refl
post-room None None full a e = other e refl
post-room None (Some c) true a e = other e refl
post-room None (Some c) false a e = let q : c ≡ a = cc in (refl, ap Some q)

pub post-new : (f k : Option ℕ) (full : Bool) (a : ℕ) → post_verdict f k full ≡ Posts a → f ≡ None
post-new (Some i) k full a e = other e refl
post-new None k full a e = refl

pub verdict-post : (rs : List Record) (f : Option ℕ) (v : Verdict) (a : ℕ) → match_verdict rs f v ≡ Posts a → v ≡ Posts a
verdict-post rs None v a e = e
verdict-post rs (Some i) v a e = go (is_done (get_or rs i no_record)) e
  where
    go : (d : Bool) → cond d Keeps (Restores i) ≡ Posts a → v ≡ Posts a
    go true q = let z : ◌≡◌ {A = ℕ} 0 1 = cc in absurd (omega arith)
    go false q = let z : ◌≡◌ {A = ℕ} 0 1 = cc in absurd (omega arith)

-- and of restoring: the line matches the record there
pub verdict-restore : (rs : List Record) (f q k : Option ℕ) (full : Bool) (i : ℕ) → match_verdict rs f (post_verdict q k full) ≡ Restores i → f ≡ Some i
verdict-restore rs None (Some j) k full i e = let z : ◌≡◌ {A = ℕ} 0 1 = cc in absurd (omega arith)
verdict-restore rs None None None full i e = let z : ◌≡◌ {A = ℕ} 0 1 = cc in absurd (omega arith)
verdict-restore rs None None (Some a) true i e = let z : ◌≡◌ {A = ℕ} 0 1 = cc in absurd (omega arith)
verdict-restore rs None None (Some a) false i e = let z : ◌≡◌ {A = ℕ} 0 1 = cc in absurd (omega arith)
verdict-restore rs (Some j) q k full i e = go (is_done (get_or rs j no_record)) e
  where
    go : (d : Bool) → cond d Keeps (Restores j) ≡ Restores i → Some j ≡ Some i
    go true r = let z : ◌≡◌ {A = ℕ} 0 1 = cc in absurd (omega arith)
    go false r = let y : j ≡ i = cc in ap Some y

pub credit-used : (g : Gate) (k : Option ℕ) (n : ℕ) → (credited_at g k n).used ≡ g.used
unfolding credited
credit-used g None n = refl
credit-used g (Some a) n = refl

-- ---- amounts in their range
abbrev pub Small : List Record → Type 0
Small rs = (j : ℕ) → j < length rs → (get_or rs j no_record).amount < 1000000000

pub small-set : (rs : List Record) (i : ℕ) (q : Record) → Small rs → (i < length rs → q.amount < 1000000000) → Small (set rs i q)
small-set rs i q s h j l = one (ℕ_discrete j i)
  where
    one : Dec (j ≡ i) → (get_or (set rs i q) j no_record).amount < 1000000000
    one (yes e) =
        let k : i < length rs = omega (arith, length-set rs i q) in
        rw (e, get_or-set_same rs i q no_record k) (h k)
    one (no d) = rw (get_or-set_other rs i j q no_record d) (s j (omega (arith, length-set rs i q)))

small-more : (rs : List Record) (q : Record) → Small rs → q.amount < 1000000000 → Small (rs ++ (q ∷ []))
small-more rs q s h j l = one (dec_lt j (length rs))
  where
    one : Dec (j < length rs) → (get_or (rs ++ (q ∷ [])) j no_record).amount < 1000000000
    one (yes k) = rw (get_or-append rs (q ∷ []) no_record j k) (s j k)
    one (no d) =
        let e : j ≡ length rs = omega (arith, length-append rs (q ∷ [])) in
        rw (e, get_or_at rs q [] no_record (length rs) refl) h

pub held_small : (g : Gate) (t : Rows) (b : ℕ) → Held g t b → Small (records_of t g.used)
held_small g t b held j l =
    let k : j < g.used = omega (arith, length-records t g.used) in
    rw (get_d-records t g.used j no_record k) (held.small j k)

-- ---- what a line leaves of a ledger
pub record Step (t : Rows) (n b : ℕ) (l : Ledger) : Type 0 where
  pub used : l.gate.used ≡ length l.records
  pub longer : n ≤ length l.records
  pub room : length l.records ≤ length t.nums
  pub funds : Funds l.gate b
  pub small : Small l.records

module _ (g : Gate) (t : Rows) (b : ℕ) (held : Held g t b) (clock : List ℕ) (x : Line) (few : x.amount < 1000000000) where
  stay-step : Step t g.used (b + 1000000000) (ledger_of g t)
  stay-step =
      let size = length-records t g.used in
      let room = held.backed.whole.nums in
      record { used = omega arith; longer = omega arith; room = omega arith; funds = funds-more g b (b + 1000000000) held.backed.funds (omega arith); small = held_small g t b held }

  applied-step : (v : Verdict) → verdict_of g (records_of t g.used) (length t.nums) x ≡ v → Step t g.used (b + 1000000000) (applied clock x v (ledger_of g t))
  unfolding applied verdict_of is_full restored posted_record make_record
  applied-step Keeps e = stay-step
  applied-step Unposted e = stay-step
  applied-step (Restores i) e =
      let rs : List Record = records_of t g.used in
      let size : length rs ≡ g.used = length-records t g.used in
      let as_long : length (set rs i (restored (get_or rs i no_record))) ≡ length rs = length-set rs i (restored (get_or rs i no_record)) in
      let k : Option ℕ = find_account x.number x.kind (accounts_of g) in
      let used : (credited_at g k x.amount).used ≡ g.used = credit-used g k x.amount in
      let room = held.backed.whole.nums in
      record {
        used = omega arith;
        longer = omega arith;
        room = omega arith;
        funds = funds-credited-at g b x.amount held.backed.funds few k (λ a q. holder-within g x.number x.kind a k refl q);
        small = small-set rs i (restored (get_or rs i no_record)) (held_small g t b held) (held_small g t b held i);
      }
  applied-step (Posts a) e =
      let rs : List Record = records_of t g.used in
      let size : length rs ≡ g.used = length-records t g.used in
      let longer : length (rs ++ (posted_record g clock x ∷ [])) ≡ length rs + 1 = length-append rs (posted_record g clock x ∷ []) in
      let k : Option ℕ = find_account x.number x.kind (accounts_of g) in
      let p = post-room (find_record x.receipt rs) k (leb (length t.nums) g.used) a (verdict-post rs (first_from (matches x) 0 rs) _ a e) in
      let room : g.used < length t.nums = leb-false (length t.nums) g.used p.0 in
      let f = funds-credited g b x.amount held.backed.funds few a (holder-within g x.number x.kind a k refl p.1) in
      record {
        used = omega arith;
        longer = omega arith;
        room = omega arith;
        funds = record { places = f.places; count = f.count; balances = f.balances };
        small = small-more rs (posted_record g clock x) (held_small g t b held) few;
      }

  pub line_step : Step t g.used (b + 1000000000) (settle_line clock (length t.nums) x (ledger_of g t))
  unfolding settle_line
  line_step = applied-step (verdict_of g (records_of t g.used) (length t.nums) x) refl

module _ (t : Rows) (n b : ℕ) (l : Ledger) (step : Step t n b l) (g' : Gate) (t' : Rows) (left : Left t l g' t') where
  pub left-size : length t'.nums ≡ length t.nums
  left-size = rw left.left (omega (arith, (from-whole t l.records).0, step.room))

  pub left-records : records_of t' g'.used ≡ l.records
  left-records = rw (left.left, left.gates, step.used) (records-from t l.records no_record)

  pub left-held : (g : Gate) (c : ℕ) → Held g t c → Held g' t' b
  left-held g c held =
      let size = from-whole t l.records in
      let room = step.room in
      let a : length t'.nums ≡ length t.nums = left-size in
      let nums : length t'.numbers ≡ length t.numbers = rw left.left (omega (arith, size.1, held.backed.same.numbers)) in
      let dates : length t'.dates ≡ length t.dates = rw left.left (omega (arith, size.2, held.backed.same.dates)) in
      record {
        backed = record {
          whole = rw (left.left, left.gates, step.used) (whole_from t l.records);
          same = record { numbers = omega (arith, held.backed.same.numbers); dates = omega (arith, held.backed.same.dates) };
          size = omega (arith, held.backed.size);
          funds = rw left.gates step.funds;
        };
        small = λ i h. one i (rw (left.gates, step.used) at h);
      }
    where
      one : (i : ℕ) → i < length l.records → (record_at t' i).amount < 1000000000
      one i h =
          let e : record_at t' i ≡ get_or l.records i no_record = ap (λ (y : Rows). record_at y i) left.left ∙ from_at t l.records i no_record h in
          let a : (record_at t' i).amount ≡ (get_or l.records i no_record).amount = ap (λ (r : Record). r.amount) e in
          omega (arith, step.small i h)
