-- Laws of opening an account and drawing from one.
use Rattle.std.specs.Prelude.{Option, Some, None}
use Prim.Native.Nat.{ℕ, ◌≤◌, ◌<◌}
use native.Mathlib.Nat.{zero-add}
use native.Mathlib.Omega.{arith}
use mathlib.Core.Path.{◌≡◌, refl, sym, ap, ◌∙◌}
use mathlib.Core.Bool.{Bool, true, false, not, ◌&&◌}
use lib.IntN.{ℤ, pos, ◌-ℤ◌}
use lib.Signed.{lt_z, mag}
use lib.Seq.{length-take-le}
use borrow.Author.Tests.{not-true, not-false, le-leb, lt-leb}
use Rattle.fields.specs.declared.number.Number.{Number}
use Rattle.fields.specs.Amount.{is_amount}
use Rattle.fields.specs.Codes.{is_kind}
use Rattle.fields.specs.Number.{is_number}
use Rattle.texts.proofs.DigitLaws.{within-high}
use Rattle.table.specs.declared.Gate.{Gate}
use Rattle.table.specs.Table.{Rows}
use Rattle.table.specs.declared.Head.{Head}
use Rattle.table.specs.declared.accounts.Holding.{Holding}
use Rattle.table.specs.Columns.{Columns, gate_of, head_of}
use Rattle.table.proofs.ColumnLaws.{by-columns}
use Rattle.table.specs.Accounts.{is_account, accounts_of, find_account, balance_at, balance_of, holding_of, gate_balance, debited, opened}
use Rattle.validity.specs.Valid.{Sound, table_good}
use Rattle.lists.proofs.ListLaws.{search-within}
use Rattle.ledger.specs.declared.Reply.{Reply}
use Rattle.planning.specs.Plan.{Within}
use Rattle.ledger.proofs.ChangeLaws.{within-most}
use Rattle.opening.specs.Opening.{replies, open_to, open_account, draw_on, draw_from, draw_funds}

module _ (n : Number) (k : ℕ) where
  pub named-not : (t : Bool) → t ≡ is_number n → not t ≡ true → false ≡ is_number n && is_kind k
  named-not t e h = rw (← e, not-true t h)

  pub named-kind : (t : Bool) → t ≡ is_number n → not t ≡ false → (u : Bool) → u ≡ is_kind k → u ≡ is_number n && is_kind k
  named-kind t e h u q = q ∙ rw (← e, not-false t h)

  module _ (g : Gate) (r : Reply) (t : Bool) (et : t ≡ is_number n && is_kind k) where
    pub open-malformed : not t ≡ true → r ≡ replies 59 g → r ≡ open_to g n k
    unfolding open_to
    open-malformed h q = q ∙ rw (← et, not-true t h)

    pub draw-malformed : (m : ℕ) → not t ≡ true → r ≡ replies 59 g → r ≡ draw_from g n k m
    unfolding draw_from
    draw-malformed m h q = q ∙ rw (← et, not-true t h)

    module _ (h : not t ≡ false) (f : Option ℕ) (ef : f ≡ find_account n k (accounts_of g)) where
      pub open-known : (a : ℕ) → f ≡ Some a → r ≡ replies 56 g → r ≡ open_to g n k
      unfolding open_to
      open-known a e q = q ∙ rw (← et, not-false t h, ← ef, e)

      pub open-many : f ≡ None → 256 ≤ g.count → r ≡ replies 57 g → r ≡ open_to g n k
      unfolding open_to
      open-many e l q = q ∙ rw (← et, not-false t h, ← ef, e, le-leb _ _ l)

      pub open-new : f ≡ None → g.count < 256 → (o : Gate) → o ≡ opened g n k → r ≡ replies 0 o → r ≡ open_to g n k
      unfolding open_to
      open-new e l o eo q = q ∙ rw (eo, ← et, not-false t h, ← ef, e, lt-leb _ _ l)

      pub draw-named : (m : ℕ) → r ≡ draw_on g f m → r ≡ draw_from g n k m
      unfolding draw_from
      draw-named m q = q ∙ rw (← et, not-false t h, ef)

-- ---- drawing from the account that was found
module _ (g : Gate) (f : Option ℕ) (m : ℕ) (r : Reply) where
  pub draw-unknown : f ≡ None → r ≡ replies 59 g → r ≡ draw_on g f m
  unfolding draw_on
  draw-unknown e q = q ∙ rw e

  module _ (a : ℕ) (e : f ≡ Some a) (t : Bool) (et : t ≡ is_amount m) where
    pub draw-amount : not t ≡ true → r ≡ replies 58 g → r ≡ draw_on g f m
    unfolding draw_on
    draw-amount h q = q ∙ rw (e, ← et, not-true t h)

    module _ (h : not t ≡ false) (b : ℤ) (eb : b ≡ balance_of g f) (u : Bool) (eu : u ≡ lt_z b (pos m)) where
      known : b ≡ balance_at g a
      known = eb ∙ ap (balance_of g) e

      less : u ≡ lt_z (balance_at g a) (pos m)
      less = eu ∙ ap (λ (z : ℤ). lt_z z (pos m)) known

      pub draw-short : u ≡ true → r ≡ replies 58 g → r ≡ draw_on g f m
      unfolding draw_on
      draw-short s q = q ∙ rw (e, ← et, not-false t h, ← less, s)

      pub draw-done : u ≡ false → (z : ℤ) → z ≡ b -ℤ pos m → (o : Gate) → o ≡ gate_balance g a z → r ≡ replies 0 o → r ≡ draw_on g f m
      unfolding draw_on debited
      draw-done s z ez o eo q = q ∙ rw (eo, ez, known, e, ← et, not-false t h, ← less, s)

pub kopecks-small : (m : ℕ) (t : Bool) → t ≡ is_amount m → not t ≡ false → m < 1000000000
kopecks-small m t e h = omega (arith, within-high 1 999999999 m (sym e ∙ not-false t h))

-- an account that was looked up is in use, and its balance within its bound
pub named-within : (g : Gate) (n : Number) (k : ℕ) (f : Option ℕ) → Sound g → f ≡ find_account n k (accounts_of g) → Within f g.count
unfolding find_account
named-within g n k f s e =
    record { at = λ i h. rw (zero-add, length-take-le g.count g.accounts (omega (arith, s.count, s.places))) at (search-within (is_account n k) 0 (accounts_of g) i (sym e ∙ h)) }

module _ (g : Gate) (s : Sound g) (f : Option ℕ) (h : Holding) (eh : h ≡ holding_of g f) (w : Within f g.count) where
  pub held-within : Within h.at 256
  held-within = rw eh (within-most f g.count w s.count)

  pub held-near : mag h.balance ≤ 10000000000000000
  held-near = rw eh (go f w)
    where
      go : (f : Option ℕ) → Within f g.count → mag (balance_of g f) ≤ 10000000000000000
      go None w = omega arith
      go (Some a) w = omega (arith, s.balances a (w.at a refl))

  pub held-balance : h.balance ≡ balance_of g h.at
  held-balance = ap (λ (x : Holding). x.balance) eh ∙ ap (λ (x : Holding). balance_of g x.at) (sym eh)

-- ---- the calls
module _ (g : Gate) (t : Rows) (n : Number) (k : ℕ) (r : Reply) (b : Bool) (eb : b ≡ table_good g t) where
  pub open-refused : not b ≡ true → r ≡ replies 68 g → r ≡ open_account g t n k
  unfolding open_account
  open-refused h q = q ∙ rw (← eb, not-true b h)

  pub open-called : not b ≡ false → r ≡ open_to g n k → r ≡ open_account g t n k
  unfolding open_account
  open-called h q = q ∙ rw (← eb, not-false b h)

  pub draw-refused : (m : ℕ) → not b ≡ true → r ≡ replies 68 g → r ≡ draw_funds g t n k m
  unfolding draw_funds
  draw-refused m h q = q ∙ rw (← eb, not-true b h)

  pub draw-called : (m : ℕ) → not b ≡ false → r ≡ draw_from g n k m → r ≡ draw_funds g t n k m
  unfolding draw_funds
  draw-called m h q = q ∙ rw (← eb, not-false b h)

-- the gate by value is the one that was put into columns
module _ (g : Gate) (h h' : Head) (a a' : Columns) (t : Rows) (n : Number) (k code size : ℕ) (gate : Gate) (unpacked : gate_of (head_of g) a ≡ g) (eh : h ≡ head_of g) (packed : gate ≡ gate_of h' a') where
  answer : Gate → Reply
  answer x = record { code = code; gate = x; size = size }

  pub open-packed : ◌≡◌ {A = Reply} (record { code = code; gate = gate_of h' a'; size = size }) (open_account (gate_of h a) t n k)
      → ◌≡◌ {A = Reply} (record { code = code; gate = gate; size = size }) (open_account g t n k)
  unfolding answer
  open-packed = by-columns answer (λ (x : Gate). open_account x t n k) g gate h h' a a' unpacked eh packed

  pub draw-packed : (m : ℕ) → ◌≡◌ {A = Reply} (record { code = code; gate = gate_of h' a'; size = size }) (draw_funds (gate_of h a) t n k m)
      → ◌≡◌ {A = Reply} (record { code = code; gate = gate; size = size }) (draw_funds g t n k m)
  unfolding answer
  draw-packed m = by-columns answer (λ (x : Gate). draw_funds x t n k m) g gate h h' a a' unpacked eh packed

pub ruleset open_to_laws = (open-malformed, open-known, open-many, open-new)
