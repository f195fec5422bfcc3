-- Row 68: the ranges of an account, of the gate and of a record, test by test.
use mathlib.Core.Path.{◌≡◌, refl, sym, ap, ◌∙◌}
use mathlib.Core.Bool.{Bool, true, false, ◌&&◌}
use mathlib.Core.List.{List}
use Prim.Native.Nat.{ℕ, ◌+◌, ◌<◌, ◌≤◌}
use native.Mathlib.Omega.{arith}
use lib.IntN.{ℤ, pos, negsuc}
use lib.Signed.{le_z, mag}
use lib.ListN.{length, drop, get_or}
use lib.Seq.{get_or-take}
use mir.Syntax.{w64}
use mir.Val.{SFits, to_z, of_z}
use borrow.Author.Tests.{lt-ltb, le-ltb, ltb-true, leb-true, leb-false}
use Rattle.fields.specs.Codes.{is_kind}
use Rattle.fields.specs.Number.{is_number}
use Rattle.texts.proofs.Tests.{and_right, no-claim}
use Rattle.table.specs.declared.Account.{Account}
use Rattle.table.specs.declared.Gate.{Gate}
use Rattle.table.specs.declared.Head.{Head}
use Rattle.table.specs.Columns.{Columns, accounts_in, gate_of}
use Rattle.lists.specs.Lists.{all_from}
use Rattle.table.specs.Accounts.{accounts_of, no_account, balance_at}
use Rattle.validity.specs.Valid.{near, account_good, Sound}
use Rattle.lists.proofs.ListLaws.{all_more, all-not, all_end, all-at}
use Rattle.table.proofs.SignedLaws.{back}
use Rattle.table.proofs.AccountLaws.{in_use}
use Rattle.table.proofs.ColumnLaws.{size_in}

-- ---- the range of a balance
near-above : (z : ℤ) → le_z (negsuc 9999999999999) z ≡ true → le_z z (pos 10000000000000) ≡ near z
unfolding near
near-above (pos n) e = refl
near-above (negsuc n) e = sym (lt-ltb n 10000000000000 (omega (arith, leb-true n 9999999999999 e)))

near-below : (z : ℤ) → le_z (negsuc 9999999999999) z ≡ false → false ≡ near z
unfolding near
near-below (pos n) e = no-claim (sym e)
near-below (negsuc n) e = sym (le-ltb n 10000000000000 (omega (arith, leb-false n 9999999999999 e)))

pub near-mag : (z : ℤ) → near z ≡ true → mag z ≤ 10000000000000
unfolding near
near-mag (pos n) e = leb-true n 10000000000000 e
near-mag (negsuc n) e = omega (arith, ltb-true n 10000000000000 e)

module _ (z : ℤ) (fits : SFits w64 z) where
  pub balance-above : le_z (negsuc 9999999999999) (to_z w64 (of_z w64 z)) ≡ true → le_z (to_z w64 (of_z w64 z)) (pos 10000000000000) ≡ near z
  balance-above h = rw (back z fits.sfits) (near-above z (rw (back z fits.sfits) at h))

  pub balance-below : le_z (negsuc 9999999999999) (to_z w64 (of_z w64 z)) ≡ false → le_z (negsuc 9999999999999) (to_z w64 (of_z w64 z)) ≡ near z
  balance-below h = h ∙ near-below z (rw (back z fits.sfits) at h)

near_of : (a : Account) → account_good a ≡ true → near a.balance ≡ true
unfolding account_good
near_of a h =
    and_right (is_kind a.kind) (near a.balance)
    (and_right (is_number a.number) (is_kind a.kind && near a.balance) h)

-- ---- the accounts in use: a loop that has passed i of them
module _ (a : Columns) (h : Head) (i : ℕ) (few : h.count ≤ 256)
    (passed : all_from (λ i a. account_good a) 0 (accounts_of (gate_of h a)) ≡ all_from (λ i a. account_good a) i (drop i (accounts_of (gate_of h a)))) where
  abbrev pub l : List Account
  l = accounts_of (gate_of h a)

  size : length l ≡ h.count
  size = in_use (gate_of h a) (size_in a) few

  module _ (x : Account) (ex : x ≡ get_or (accounts_in a) i no_account) (t : Bool) (et : t ≡ account_good x) (b : i < h.count) where
    good : account_good (get_or l i no_account) ≡ t
    good = ap account_good (get_or-take h.count (accounts_in a) i no_account b ∙ sym ex) ∙ sym et

    pub accounts-step : t ≡ true → all_from (λ i a. account_good a) 0 l ≡ all_from (λ i a. account_good a) (i + 1) (drop (i + 1) l)
    accounts-step y = passed ∙ all_more (λ i a. account_good a) i l no_account (omega (arith, size)) (good ∙ y)

    pub accounts-fail : t ≡ false → false ≡ all_from (λ i a. account_good a) 0 l
    accounts-fail y = sym (passed ∙ all-not (λ i a. account_good a) i l no_account (omega (arith, size)) (good ∙ y))

  pub accounts-end : h.count ≤ i → true ≡ all_from (λ i a. account_good a) 0 l
  accounts-end b = sym (passed ∙ all_end (λ i a. account_good a) i l no_account (omega (arith, size)))

-- ---- the gate
module _ (g : Gate) where
  pub gate-sound : g.count ≤ 256 → length g.accounts ≡ 256 → (v : Bool) → v ≡ all_from (λ i a. account_good a) 0 (accounts_of g) → v ≡ true → Sound g
  gate-sound few size v e y = record { places = size; count = few; balances = λ i h. near-mag (balance_at g i) (one i h) }
    where
      one : (i : ℕ) → i < g.count → near (balance_at g i) ≡ true
      one i h =
          let q : account_good (get_or g.accounts i no_account) ≡ true =
          ap account_good (sym (get_or-take g.count g.accounts i no_account h))
          ∙ all-at (λ i a. account_good a) (accounts_of g) no_account i (sym e ∙ y) (omega (arith, in_use g size few)) in
          near_of (get_or g.accounts i no_account) q
