-- Laws of the sum of a gate's balances.
use Prim.Native.Nat.{ℕ, zero, suc, ◌+◌, ◌-◌, ◌*◌, ◌<◌, ◌≤◌}
use native.Mathlib.Nat.{le_refl}
use native.Mathlib.Omega.{arith}
use mathlib.Core.Path.{◌≡◌, refl, sym, ap, ◌∙◌}
use mathlib.Core.Bool.{cond}
use mathlib.Core.List.{List, [], ◌∷◌, ◌++◌, map}
use lib.Dec.{eqb}
use lib.IntN.{ℤ, pos, negsuc, ◌+ℤ◌}
use lib.Signed.{mag}
use lib.ListN.{length, take, drop, get_or, drop_of_length-le}
use lib.Seq.{drop-cons, get_or-take}
use mir.Syntax.{w64}
use mir.Val.{to_z, of_z}
use Rattle.table.specs.declared.Account.{Account}
use Rattle.table.specs.declared.Gate.{Gate}
use Rattle.table.specs.declared.Head.{Head}
use Rattle.table.specs.Columns.{Columns, account_in, accounts_in, gate_of, columns_of}
use Rattle.table.specs.Accounts.{accounts_of, no_account, balance_at}
use Rattle.table.proofs.ColumnLaws.{size_in}
use Rattle.lists.specs.Lists.{tab}
use Rattle.lists.proofs.ListLaws.{get_d-tab, map-tab}
use Rattle.table.proofs.AccountLaws.{in_use}
use Rattle.table.proofs.SignedLaws.{back, mag_up, mag_down}
use Rattle.texts.specs.Digits.{decimal}
use Rattle.figures.specs.Figures.{sum_balances, signed_text, figures, printed}
use Rattle.figures.specs.Sums.{Summable, nameless}

-- ---- two numbers
mag_sum : (a b : ℤ) → mag (a +ℤ b) ≤ mag a + mag b + 2
mag_sum a (pos n) = omega (arith, mag_up a n)
mag_sum a (negsuc n) = omega (arith, mag_down a (suc n))

-- ---- the balances of a list
pub sum-next : (l : List Account) (i : ℕ) → i < length l → sum_balances (drop i l) ≡ (get_or l i no_account).balance +ℤ sum_balances (drop (suc i) l)
unfolding sum_balances
sum-next l i h = rw (drop-cons l i no_account)

abbrev Small : List Account → Type 0
Small l = (j : ℕ) → j < length l → mag (get_or l j no_account).balance ≤ 20000000000000

sum_near : (l : List Account) → Small l → mag (sum_balances l) ≤ length l * 20000000000002
unfolding sum_balances
sum_near [] f = omega arith
sum_near (a ∷ l) f =
    omega (arith, f 0 (omega arith), mag_sum a.balance (sum_balances l), sum_near l (λ j h. f (suc j) (omega arith)))

rest-near : (l : List Account) (i : ℕ) → Small l → mag (sum_balances (drop i l)) ≤ length l * 20000000000002
rest-near l zero f = sum_near l f
rest-near [] (suc i) f = sum_near [] f
rest-near (a ∷ l) (suc i) f = omega (arith, rest-near l i (λ j h. f (suc j) (omega arith)))

-- ---- the loop from the last account in use
pub balance-in : (h : Head) (a : Columns) (i : ℕ) → i < 256 → balance_at (gate_of h a) i ≡ get_or a.balances i (pos 0)
unfolding accounts_in
balance-in h a i l = ap (λ (x : Account). x.balance) (get_d-tab 256 (account_in a) i no_account l)

module _ (h : Head) (b : List ℤ) (s : Summable (nameless h b)) where
  abbrev pub l : List Account
  l = accounts_of (nameless h b)

  used-size : length l ≡ h.count
  used-size = in_use (nameless h b) s.places s.count

  rests-near : (i : ℕ) → mag (sum_balances (drop i l)) ≤ 6000000000000000
  rests-near i = omega (arith, s.count, used-size, rest-near l i (λ j k. one j (omega (arith, used-size))))
    where
      one : (j : ℕ) → j < h.count → mag (get_or l j no_account).balance ≤ 20000000000000
      one j k = rw (get_or-take h.count (nameless h b).accounts j no_account k) (s.balances j k)

  pub sum-start : pos 0 ≡ sum_balances (drop h.count l)
  unfolding sum_balances
  sum-start = let k : length l ≤ h.count = rw used-size (le_refl _) in rw (drop_of_length-le l k)

  module _ (i sum : ℕ) (summed : to_z w64 sum ≡ sum_balances (drop i l)) where
    pub sum_done : i ≤ 0 → to_z w64 sum ≡ sum_balances l
    sum_done k = let z : i ≡ 0 = omega arith in summed ∙ rw z

    pub sum_bound : mag (to_z w64 sum) ≤ 6000000000000000
    sum_bound = rw summed (rests-near i)

    pub sum_fits : mag (to_z w64 sum) ≤ 10000000000000000
    sum_fits = omega (arith, sum_bound)

    module _ (some : 0 < i) (most : i ≤ h.count) where
      pub sum-place : i - 1 < 256
      sum-place = omega (arith, s.count)

      here : balance_at (nameless h b) (i - 1) ≡ get_or b (i - 1) (pos 0)
      here = balance-in h (columns_of [] [] b) (i - 1) sum-place

      balance-near : mag (get_or b (i - 1) (pos 0)) ≤ 20000000000000
      balance-near = rw (← here) (s.balances (i - 1) (omega arith))

      pub balance-fits : mag (to_z w64 (of_z w64 (get_or b (i - 1) (pos 0)))) ≤ 10000000000000000
      balance-fits = rw (back (get_or b (i - 1) (pos 0)) (omega (arith, balance-near))) (omega (arith, balance-near))

      pub sum_step : (r : ℤ) → r ≡ to_z w64 (of_z w64 (get_or b (i - 1) (pos 0))) +ℤ to_z w64 sum → to_z w64 (of_z w64 r) ≡ sum_balances (drop (i - 1) l)
      sum_step r e =
          let at : i ≡ suc (i - 1) = omega arith in
          let low : i - 1 < h.count = omega arith in
          let is : r ≡ sum_balances (drop (i - 1) l)
          = e ∙ rw (back (get_or b (i - 1) (pos 0)) (omega (arith, balance-near)), summed)
          (ap (λ (z : ℤ). z +ℤ sum_balances (drop i l)) (sym here)
          ∙ ap (λ (a : Account). a.balance +ℤ sum_balances (drop i l)) (sym (get_or-take h.count (nameless h b).accounts (i - 1) no_account low))
          ∙ ap (λ (n : ℕ). (get_or l (i - 1) no_account).balance +ℤ sum_balances (drop n l)) at
          ∙ sym (sum-next l (i - 1) (omega (arith, used-size)))) in
          let near : mag r ≤ 6000000000000000 = rw is (rests-near (i - 1)) in
          back r (omega arith) ∙ is

-- ---- names do not matter to what is printed
total : List ℤ → ℤ
total [] = pos 0
total (z ∷ l) = z +ℤ total l

abbrev balances : List Account → List ℤ
balances l = map (λ (a : Account). a.balance) l

sum-total : (l : List Account) → sum_balances l ≡ total (balances l)
unfolding sum_balances total
sum-total [] = refl
sum-total (a ∷ l) = ap (λ (z : ℤ). a.balance +ℤ z) (sum-total l)

balances-take : (n : ℕ) (l : List Account) → balances (take n l) ≡ take n (balances l)
balances-take zero l = refl
balances-take (suc n) [] = refl
balances-take (suc n) (a ∷ l) = ap (λ (m : List ℤ). a.balance ∷ m) (balances-take n l)

in-total : (h : Head) (a : Columns) → sum_balances (accounts_of (gate_of h a)) ≡ total (take h.count (tab 256 (λ i. get_or a.balances i (pos 0))))
unfolding accounts_in
in-total h a =
    sum-total (accounts_of (gate_of h a)) ∙ ap total (balances-take h.count (tab 256 (account_in a)))
    ∙ ap (λ (m : List ℤ). total (take h.count m)) (map-tab 256 (account_in a) (λ (x : Account). x.balance))

module _ (h : Head) (names keys : List (List ℕ)) (b : List ℤ) where
  abbrev g : Gate
  g = gate_of h (columns_of names keys b)

  pub nameless-sums : Summable g → Summable (nameless h b)
  nameless-sums s =
      record {
        places = size_in (columns_of [] [] b);
        count = s.count;
        balances = λ i l. rw (balance-in h (columns_of [] [] b) i (omega (arith, s.count)), ← balance-in h (columns_of names keys b) i (omega (arith, s.count))) (s.balances i l);
      }

  sums_same : sum_balances (accounts_of g) ≡ sum_balances (accounts_of (nameless h b))
  sums_same = in-total h (columns_of names keys b) ∙ sym (in-total h (columns_of [] [] b))

  pub nameless-printed : (code : ℕ) → printed code (nameless h b) ≡ printed code g
  unfolding printed figures
  nameless-printed code = ap (λ (z : ℤ). cond (eqb code 99) (57 ∷ (57 ∷ (10 ∷ []))) (decimal code ++ ((32 ∷ decimal h.used) ++ ((32 ∷ signed_text z) ++ (10 ∷ []))))) (sym sums_same)
