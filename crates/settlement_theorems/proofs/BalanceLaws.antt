-- After a settlement each balance has changed by the amounts restored and posted to its account, less those swept from it.
use Rattle.std.specs.Prelude.{Option, Some, None}
use Prim.Native.Nat.{ℕ, ◌+◌, ◌<◌}
use native.Mathlib.Decide.{ℕ_discrete}
use native.Mathlib.Omega.{arith}
use mathlib.Core.Path.{◌≡◌, refl, sym, ap, ◌∙◌}
use mathlib.Core.Bool.{Bool, true, false, cond, ◌&&◌}
use mathlib.Core.List.{List, [], ◌∷◌}
use lib.Dec.{eqb}
use lib.IntN.{ℤ, pos, neg_ℤ, ◌+ℤ◌, ◌-ℤ◌, +ℤ_idr, +ℤ_assoc, neg_ℤ-+ℤ}
use lib.ListN.{length, get_or, length-take}
use lib.Seq.{get_or-set_same, get_or-set_other}
use borrow.Author.Tests.{eq-eqb, ne_eqb}
use Rattle.days.specs.declared.calendar.Day.{Day}
use Rattle.fields.specs.declared.number.Number.{Number}
use Rattle.days.specs.Calendar.{next_day, on_day}
use Rattle.texts.proofs.Tests.{cond-elim, no-claim}
use Rattle.lines.specs.declared.line.Line.{Line}
use Rattle.registry.specs.Registry.{registry_lines}
use Rattle.table.specs.declared.Account.{Account}
use Rattle.table.specs.declared.Gate.{Gate}
use Rattle.table.specs.declared.Record.{Record}
use Rattle.lists.specs.Lists.{first_from}
use Rattle.lists.proofs.ListLaws.{search-within}
use Rattle.table.specs.Table.{Rows, find_record}
use Rattle.table.specs.Accounts.{is_account, accounts_of, find_account, no_account, with_balance, balance_at, gate_balance, credited, debited, with_closed}
use Rattle.ledger.specs.Change.{credited_at, debited_at}
use Rattle.planning.specs.Plan.{is_full}
use Rattle.gate_theorems.proofs.RowsLaws.{SameNames, names_same, names-used, names-credited, names-debited}
use Rattle.posting.specs.declared.verdict.Verdict.{Verdict}
use Rattle.posting.specs.declared.verdict.Verdict.TheVariants.{Keeps, Restores, Posts, Unposted}
use Rattle.posting.specs.Posting.{matches, verdict_of, Ledger, applied, settle_line, ledger_of}
use Rattle.clearing.specs.Clearing.{settle_lines, is_stray, swept_gate, sweep_gates, swept}
use Rattle.settlement.specs.Settle.{settle}
use Rattle.closing.specs.Closing.{settle_day}
use Rattle.admission.specs.Delivery.{Delivery}
use Rattle.settlement_theorems.specs.Balances.{is_at, credit_of, credits, debit_of, swept_from, credits_on, swept_on}
use Rattle.posting.proofs.HeldLaws.{post-room, verdict-post}
use Rattle.settlement_theorems.proofs.SettleLaws.{settled-by}

-- ---- the accounts keep their names
names-after : (g h k : Gate) → SameNames g h → SameNames h k → SameNames g k
names-after g h k a b =
    record {
      count = b.count ∙ a.count;
      closed = b.closed ∙ a.closed;
      places = b.places ∙ a.places;
      number = λ j. b.number j ∙ a.number j;
      kind = λ j. b.kind j ∙ a.kind j;
      finds = λ n m. b.finds n m ∙ a.finds n m;
    }

pub names-credited-at : (g : Gate) (f : Option ℕ) (n : ℕ) → SameNames g (credited_at g f n)
names-credited-at g None n = names_same g g refl
names-credited-at g (Some a) n = names-credited g a n

line-names : (clock : List ℕ) (lent : ℕ) (x : Line) (l : Ledger) → SameNames l.gate (settle_line clock lent x l).gate
unfolding settle_line applied
line-names clock lent x l = go (verdict_of l.gate l.records lent x)
  where
    go : (v : Verdict) → SameNames l.gate (applied clock x v l).gate
    go Keeps = names_same l.gate l.gate refl
    go Unposted = names_same l.gate l.gate refl
    go (Restores i) = names-credited-at l.gate (find_account x.number x.kind (accounts_of l.gate)) x.amount
    go (Posts a) = names-used l.gate (credited_at l.gate (Some a) x.amount) (l.gate.used + 1) (names-credited l.gate a x.amount)

lines-names : (clock : List ℕ) (lent : ℕ) (xs : List Line) (l : Ledger) → SameNames l.gate (settle_lines clock lent xs l).gate
unfolding settle_lines
lines-names clock lent [] l = names_same l.gate l.gate refl
lines-names clock lent (x ∷ xs) l =
    names-after l.gate (settle_line clock lent x l).gate (settle_lines clock lent xs (settle_line clock lent x l)).gate (line-names clock lent x l)
    (lines-names clock lent xs (settle_line clock lent x l))

swept-names : (day : Day) (xs : List Line) (r : Record) (g : Gate) → SameNames g (swept_gate day xs r g)
unfolding swept_gate
swept-names day xs r g =
    cond-elim (SameNames g) (is_stray day xs r) (debited_at g (find_account r.number r.kind (accounts_of g)) r.amount) g
    (λ _. names-debited g (find_account r.number r.kind (accounts_of g)) r.amount)
    (λ _. names_same g g refl)

pub sweep-names : (day : Day) (xs : List Line) (rs : List Record) (g : Gate) → SameNames g (sweep_gates day xs rs g)
unfolding sweep_gates
sweep-names day xs [] g = names_same g g refl
sweep-names day xs (r ∷ rs) g =
    names-after g (swept_gate day xs r g) (sweep_gates day xs rs (swept_gate day xs r g)) (swept-names day xs r g) (sweep-names day xs rs (swept_gate day xs r g))

-- ---- the balance of account a: for every a, since a lookup finds no place outside the accounts
abbrev taken : ℕ → ℤ
taken n = neg_ℤ (pos n)

module _ (a : ℕ) where
  moved-at : (amount : ℕ → ℤ) → amount 0 ≡ pos 0 → (g : Gate) (b n : ℕ) → (b ≡ a → a < length g.accounts)
      → balance_at (gate_balance g b (balance_at g b +ℤ amount n)) a ≡ balance_at g a +ℤ amount (cond (eqb b a) n 0)
  moved-at amount none g b n within = go (ℕ_discrete a b)
    where
      there : Account
      there = with_balance (get_or g.accounts b no_account) (balance_at g b +ℤ amount n)

      go : Dec (a ≡ b) → balance_at (gate_balance g b (balance_at g b +ℤ amount n)) a ≡ balance_at g a +ℤ amount (cond (eqb b a) n 0)
      go (yes e) =
          let k : b < length g.accounts = omega (arith, within (sym e)) in
          rw (eq-eqb b a (sym e), e) (ap (λ (y : Account). y.balance) (get_or-set_same g.accounts b there no_account k))
      go (no d) =
          ap (λ (y : Account). y.balance) (get_or-set_other g.accounts b a there no_account d)
          ∙ rw (ne_eqb b a (λ q. d (sym q)), none) (sym (+ℤ_idr (balance_at g a)))

  credited-balance : (g : Gate) (f : Option ℕ) (n : ℕ) → (f ≡ Some a → a < length g.accounts)
      → balance_at (credited_at g f n) a ≡ balance_at g a +ℤ pos (cond (is_at a f) n 0)
  unfolding credited is_at
  credited-balance g None n within = sym (+ℤ_idr (balance_at g a))
  credited-balance g (Some b) n within = moved-at pos refl g b n (λ e. within (ap Some e))

  debited-balance : (g : Gate) (f : Option ℕ) (n : ℕ) → (f ≡ Some a → a < length g.accounts)
      → balance_at (debited_at g f n) a ≡ balance_at g a -ℤ pos (cond (is_at a f) n 0)
  unfolding debited is_at
  debited-balance g None n within = sym (+ℤ_idr (balance_at g a))
  debited-balance g (Some b) n within = moved-at taken refl g b n (λ e. within (ap Some e))

  -- what a lookup finds is an account
  found-there : (g : Gate) (n : Number) (k : ℕ) → find_account n k (accounts_of g) ≡ Some a → a < length g.accounts
  unfolding find_account
  found-there g n k e = omega (arith, search-within (is_account n k) 0 (accounts_of g) a e, length-take g.count g.accounts)

  -- the lines
  line-balance : (clock : List ℕ) (lent : ℕ) (x : Line) (l : Ledger)
      → balance_at (settle_line clock lent x l).gate a ≡ balance_at l.gate a +ℤ pos (credit_of a l.gate x (verdict_of l.gate l.records lent x))
  unfolding settle_line applied credit_of verdict_of
  line-balance clock lent x l = go (verdict_of l.gate l.records lent x) refl
    where
      holder : Option ℕ
      holder = find_account x.number x.kind (accounts_of l.gate)

      there : balance_at (credited_at l.gate holder x.amount) a ≡ balance_at l.gate a +ℤ pos (cond (is_at a holder) x.amount 0)
      there = credited-balance l.gate holder x.amount (found-there l.gate x.number x.kind)

      go : (v : Verdict) → verdict_of l.gate l.records lent x ≡ v → balance_at (applied clock x v l).gate a ≡ balance_at l.gate a +ℤ pos (credit_of a l.gate x v)
      go Keeps e = sym (+ℤ_idr (balance_at l.gate a))
      go Unposted e = sym (+ℤ_idr (balance_at l.gate a))
      go (Restores i) e = there
      go (Posts b) e =
          let p = post-room (find_record x.receipt l.records) holder (is_full l.gate lent) b (verdict-post l.records (first_from (matches x) 0 l.records) _ b e) in
          ap (λ (f : Option ℕ). balance_at (credited_at l.gate f x.amount) a) (sym p.1) ∙ there

  pub lines-balance : (clock : List ℕ) (lent : ℕ) (xs : List Line) (l : Ledger)
      → balance_at (settle_lines clock lent xs l).gate a ≡ balance_at l.gate a +ℤ pos (credits clock lent a xs l)
  unfolding settle_lines credits
  lines-balance clock lent [] l = sym (+ℤ_idr (balance_at l.gate a))
  lines-balance clock lent (x ∷ xs) l =
      let m : Ledger = settle_line clock lent x l in
      let v : Verdict = verdict_of l.gate l.records lent x in
      lines-balance clock lent xs m
      ∙ ap (λ (z : ℤ). z +ℤ pos (credits clock lent a xs m)) (line-balance clock lent x l)
      ∙ +ℤ_assoc (balance_at l.gate a) (pos (credit_of a l.gate x v)) (pos (credits clock lent a xs m))

  -- the sweep
  swept-balance : (day : Day) (xs : List Line) (r : Record) (g : Gate) → balance_at (swept_gate day xs r g) a ≡ balance_at g a -ℤ pos (debit_of a day xs g r)
  unfolding swept_gate debit_of
  swept-balance day xs r g = go (is_stray day xs r)
    where
      holder : Option ℕ
      holder = find_account r.number r.kind (accounts_of g)

      go : (b : Bool) → balance_at (cond b (debited_at g holder r.amount) g) a ≡ balance_at g a -ℤ pos (cond (b && is_at a holder) r.amount 0)
      go true = debited-balance g holder r.amount (found-there g r.number r.kind)
      go false = sym (+ℤ_idr (balance_at g a))

  -- lookups do not change while balances do
  swept_same : (day : Day) (xs : List Line) (g g' : Gate) → SameNames g g' → (rs : List Record) → swept_from a day xs g' rs ≡ swept_from a day xs g rs
  unfolding swept_from debit_of
  swept_same day xs g g' same [] = refl
  swept_same day xs g g' same (r ∷ rs) = rw (same.finds r.number r.kind, swept_same day xs g g' same rs)

  pub sweep-balance : (day : Day) (xs : List Line) (rs : List Record) (g : Gate) → balance_at (sweep_gates day xs rs g) a ≡ balance_at g a -ℤ pos (swept_from a day xs g rs)
  unfolding sweep_gates swept_from
  sweep-balance day xs [] g = sym (+ℤ_idr (balance_at g a))
  sweep-balance day xs (r ∷ rs) g =
      let h : Gate = swept_gate day xs r g in
      let m : ℕ = debit_of a day xs g r in
      let n : ℕ = swept_from a day xs g rs in
      sweep-balance day xs rs h
      ∙ ap (λ (k : ℕ). balance_at h a +ℤ taken k) (swept_same day xs g h (swept-names day xs r g) rs)
      ∙ ap (λ (z : ℤ). z +ℤ taken n) (swept-balance day xs r g)
      ∙ +ℤ_assoc (balance_at g a) (taken m) (taken n)
      ∙ ap (λ (z : ℤ). balance_at g a +ℤ z) (sym (neg_ℤ-+ℤ (pos m) (pos n)))

  -- the day, and the call
  module _ (g : Gate) (t : Rows) (clock : List ℕ) (day : Day) where
    pub day-balance : (xs : List Line) (out : List ℕ)
        → balance_at (settle_day g t clock day xs out).gate a ≡ (balance_at g a +ℤ pos (credits_on g t clock xs a)) -ℤ pos (swept_on g t clock day xs a)
    unfolding settle_day swept
    day-balance xs out =
        let l : Ledger = settle_lines clock (length t.nums) xs (ledger_of g t) in
        sweep-balance day xs l.records l.gate
        ∙ ap (λ (z : ℤ). z -ℤ pos (swept_on g t clock day xs a)) (lines-balance clock (length t.nums) xs (ledger_of g t))

    -- a fault, and a day that is not the one after the closed, leave it; the day that is settled adds what it credits and takes what it sweeps
    pub record Balanced (text : List ℕ) (d : Delivery) : Type 0 where
      pub fault : (d.code ≡ 0 → ⊥) → balance_at d.gate a ≡ balance_at g a
      pub closed : on_day day (next_day g.closed) ≡ false → balance_at d.gate a ≡ balance_at g a
      pub settled : d.code ≡ 0 → on_day day (next_day g.closed) ≡ true
          → balance_at d.gate a ≡ (balance_at g a +ℤ pos (credits_on g t clock (registry_lines text) a)) -ℤ pos (swept_on g t clock day (registry_lines text) a)

    pub settle-balance : (text out : List ℕ) → Balanced text (settle g t clock day text out)
    unfolding settle_day
    settle-balance text out =
        settled-by g t clock day text out (Balanced text)
        (λ code n. record { fault = λ _. refl; closed = λ _. refl; settled = λ e _. absurd (n e) })
        (λ _ off. record { fault = λ _. refl; closed = λ _. refl; settled = λ _ on. no-claim (sym off ∙ on) })
        (λ _ on. record { fault = λ n. absurd (n refl); closed = λ off. no-claim (sym off ∙ on); settled = λ _ _. day-balance (registry_lines text) out })

-- ---- the accounts and the closed day
names-closed : (g h : Gate) (d : Day) → SameNames g h → SameNames (with_closed g d) (with_closed h d)
names-closed g h d s = record { count = s.count; closed = refl; places = s.places; number = s.number; kind = s.kind; finds = s.finds }

module _ (g : Gate) (t : Rows) (clock : List ℕ) (day : Day) (text out : List ℕ) where
  day-names : SameNames (with_closed g day) (settle_day g t clock day (registry_lines text) out).gate
  unfolding settle_day swept
  day-names =
      let xs : List Line = registry_lines text in
      let l : Ledger = settle_lines clock (length t.nums) xs (ledger_of g t) in
      let h : Gate = sweep_gates day xs l.records l.gate in
      names-closed g h day (names-after g l.gate h (lines-names clock (length t.nums) xs (ledger_of g t)) (sweep-names day xs l.records l.gate))

  -- no account appears, vanishes or changes its number, its type or its place; only the closed day may be another
  pub settle-names : SameNames (with_closed g (settle g t clock day text out).gate.closed) (settle g t clock day text out).gate
  unfolding settle_day
  settle-names =
      settled-by g t clock day text out (λ (d : Delivery). SameNames (with_closed g d.gate.closed) d.gate)
      (λ _ _. names-closed g g g.closed (names_same g g refl))
      (λ _ _. names-closed g g g.closed (names_same g g refl))
      (λ _ _. day-names)

  -- the day that is settled is closed
  pub settle-closed : (settle g t clock day text out).code ≡ 0 → on_day day (next_day g.closed) ≡ true → (settle g t clock day text out).gate.closed ≡ day
  unfolding settle_day
  settle-closed =
      settled-by g t clock day text out (λ (d : Delivery). d.code ≡ 0 → on_day day (next_day g.closed) ≡ true → d.gate.closed ≡ day)
      (λ code n e _. absurd (n e))
      (λ _ off _ on. no-claim (sym off ∙ on))
      (λ _ _ _ _. refl)

  -- a day that is not the one after the closed leaves that as it was, and so does a fault (`fault-keeps`)
  pub settle-open : on_day day (next_day g.closed) ≡ false → (settle g t clock day text out).gate.closed ≡ g.closed
  settle-open =
      settled-by g t clock day text out (λ (d : Delivery). on_day day (next_day g.closed) ≡ false → d.gate.closed ≡ g.closed)
      (λ _ _ _. refl)
      (λ _ _ _. refl)
      (λ _ on off. no-claim (sym off ∙ on))
