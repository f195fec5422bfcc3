-- Laws of the accounts: one by number and type, the first that fits, a balance moved.
use Rattle.std.specs.Prelude.{Option, Some, None}
use mathlib.Core.Path.{◌≡◌, refl, sym, ap, ◌∙◌}
use mathlib.Core.Bool.{Bool, true, false}
use mathlib.Core.List.{List, map}
use Prim.Native.Nat.{ℕ, ◌+◌, ◌<◌, ◌≤◌, ◌^◌}
use native.Mathlib.Omega.{arith}
use lib.IntN.{ℤ, pos, ◌+ℤ◌, ◌-ℤ◌}
use lib.Signed.{lt_z, mag}
use lib.ListN.{length, drop, get_or, length-map, length-take}
use lib.Seq.{length-take-le, get_or-take}
use mir.Syntax.{w64}
use mir.Val.{to_z, of_z}
use Rattle.fields.specs.declared.number.Number.{Number}
use Rattle.table.specs.declared.Account.{Account}
use Rattle.table.specs.declared.Gate.{Gate}
use Rattle.table.specs.declared.accounts.Holding.{Holding}
use Rattle.lists.specs.Lists.{first_from}
use Rattle.table.specs.Accounts.{is_account, accounts_of, find_account, no_account, balance_at, holding_of, gate_balance, credited, debited}
use Rattle.lists.proofs.ListLaws.{search-hit, search-miss, search-end, search-within, found-fits}
use Rattle.table.proofs.SignedLaws.{back}

-- ---- the accounts in use
pub accounts-size : {B : Type 0} (f : Account → B) (l : List Account) → length (map f l) ≡ 256 → length l ≡ 256
accounts-size f l h = sym (length-map l f) ∙ h

module _ (g : Gate) (size : length g.accounts ≡ 256) (few : g.count ≤ 256) where
  pub in_use : length (accounts_of g) ≡ g.count
  in_use = length-take-le g.count g.accounts (omega arith)

-- ---- the first that fits: a loop that has passed i accounts
module _ (g : Gate) (n : Number) (k i : ℕ) (size : length g.accounts ≡ 256) (few : g.count ≤ 256)
    (passed : find_account n k (accounts_of g) ≡ first_from (is_account n k) i (drop i (accounts_of g))) where
  pub account-here : (t : Bool) → t ≡ is_account n k (get_or g.accounts i no_account) → t ≡ true → i < g.count → Some i ≡ find_account n k (accounts_of g)
  account-here t e y h =
      sym (passed ∙ search-hit (is_account n k) i (accounts_of g) no_account (omega (arith, in_use g size few))
      (ap (is_account n k) (get_or-take g.count g.accounts i no_account h) ∙ sym e ∙ y))

  pub account-other : (t : Bool) → t ≡ is_account n k (get_or g.accounts i no_account) → t ≡ false → i < g.count
      → find_account n k (accounts_of g) ≡ first_from (is_account n k) (i + 1) (drop (i + 1) (accounts_of g))
  account-other t e y h =
      passed ∙ search-miss (is_account n k) i (accounts_of g) no_account (omega (arith, in_use g size few))
      (ap (is_account n k) (get_or-take g.count g.accounts i no_account h) ∙ sym e ∙ y)

  pub account-none : g.count ≤ i → None ≡ find_account n k (accounts_of g)
  account-none h = sym (passed ∙ search-end (is_account n k) i (accounts_of g) no_account (omega (arith, in_use g size few)))

  -- the same with its balance
  pub held-here : (t : Bool) → t ≡ is_account n k (get_or g.accounts i no_account) → t ≡ true → i < g.count
      → (z : ℤ) → z ≡ balance_at g i → ◌≡◌ {A = Holding} (record { at = Some i; balance = z }) (holding_of g (find_account n k (accounts_of g)))
  held-here t e y h z ez = ap (λ (x : ℤ). record { at = Some i; balance = x }) ez ∙ ap (holding_of g) (account-here t e y h)

  pub held_none : g.count ≤ i → ◌≡◌ {A = Holding} (record { at = None; balance = pos 0 }) (holding_of g (find_account n k (accounts_of g)))
  held_none h = ap (holding_of g) (account-none h)

pub held_place : (g : Gate) (f : Option ℕ) (h : Holding) → h ≡ holding_of g f → h.at ≡ f
held_place g f h e = ap (λ (x : Holding). x.at) e

pub account-start : (n : Number) (k : ℕ) (l : List Account) → find_account n k l ≡ first_from (is_account n k) 0 (drop 0 l)
unfolding find_account
account-start n k l = refl

-- ---- a balance moved
module _ (g : Gate) (i n : ℕ) (z : ℤ) (small : mag (balance_at g i) ≤ 10000000000000000) (fits : mag z < 2 ^ 63)
    (r : Gate) (moved : r ≡ gate_balance g i (to_z w64 (of_z w64 z))) where
  pub credit-is : z ≡ to_z w64 (of_z w64 (balance_at g i)) +ℤ pos n → r ≡ credited g i n
  unfolding credited
  credit-is e = moved ∙ ap (gate_balance g i) (back z fits ∙ e ∙ ap (λ (b : ℤ). b +ℤ pos n) (back (balance_at g i) (omega arith)))

  pub debit-is : z ≡ to_z w64 (of_z w64 (balance_at g i)) -ℤ pos n → r ≡ debited g i n
  unfolding debited
  debit-is e = moved ∙ ap (gate_balance g i) (back z fits ∙ e ∙ ap (λ (b : ℤ). b -ℤ pos n) (back (balance_at g i) (omega arith)))

pub below-is : (z : ℤ) (n : ℕ) (t : Bool) → t ≡ lt_z (to_z w64 (of_z w64 z)) (pos n) → to_z w64 (of_z w64 z) ≡ z → t ≡ lt_z z (pos n)
below-is z n t e b = e ∙ ap (λ (y : ℤ). lt_z y (pos n)) b

-- ---- the account that is found
module _ (g : Gate) (n : Number) (k i : ℕ) (f : Option ℕ) (e : f ≡ find_account n k (accounts_of g)) (h : f ≡ Some i) where
  pub holder-within : i < g.count
  unfolding find_account
  holder-within = omega (arith, search-within (is_account n k) 0 (accounts_of g) i (sym e ∙ h), length-take g.count g.accounts)

  pub holder-fits : is_account n k (get_or g.accounts i no_account) ≡ true
  unfolding find_account
  holder-fits =
      ap (is_account n k) (sym (get_or-take g.count g.accounts i no_account holder-within))
      ∙ found-fits (is_account n k) (accounts_of g) no_account (sym e ∙ h)
