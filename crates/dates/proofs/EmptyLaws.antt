-- No date: bytes whose sum is 0 are zeros.
use Prim.Native.Nat.{ℕ, zero, suc, ◌+◌, ◌<◌, ◌≤◌}
use native.Mathlib.Omega.{arith}
use native.Mathlib.Nat.{zero-add}
use mathlib.Core.Path.{◌≡◌, refl, sym, ap, ◌∙◌}
use mathlib.Core.Bool.{Bool}
use mathlib.Core.List.{List, [], ◌∷◌}
use lib.Dec.{eqb}
use borrow.Author.Tests.{ne_eqb}
use lib.ListN.{length, drop, get_or, replicate}
use lib.ListN.{drop_of_length-le}
use Rattle.texts.specs.Lists.{eq_list}
use Rattle.texts.proofs.ListLaws.{drop-next}
use Rattle.dates.specs.Date.{empty_date}

unfoldable pub total : List ℕ → ℕ
total [] = 0
total (x ∷ s) = x + total s

zeros : (s : List ℕ) → eq_list s (replicate (length s) 0) ≡ eqb (total s) 0
unfolding eq_list total
zeros [] = refl
zeros (zero ∷ s) = zeros s ∙ ap (λ (n : ℕ). eqb n 0) (sym (zero-add (total s)))
zeros (suc x ∷ s) = rw (ne_eqb (suc x) 0 (λ e. absurd (omega arith)), ne_eqb (suc x + total s) 0 (λ e. absurd (omega arith)))

module _ (d : List ℕ) (i sum : ℕ) (size : length d ≡ 19) (passed : total d ≡ sum + total (drop i d)) where
  pub sum_more : i < 19 → (w : ℕ) → w ≡ get_or d i 0 → total d ≡ sum + w + total (drop (i + 1) d)
  unfolding total
  sum_more h w e =
      let next : total (drop i d) ≡ get_or d i 0 + total (drop (i + 1) d) = ap total (drop-next d i (omega arith)) in
      omega (arith, passed, next, e)

  pub sum-empty : 19 ≤ i → (b : Bool) → b ≡ eqb sum 0 → b ≡ eq_list d empty_date
  unfolding total
  sum-empty h b e =
      let past : length d ≤ i = omega arith in
      let rest : total (drop i d) ≡ 0 = ap total (drop_of_length-le d past) in
      let all : total d ≡ sum = passed ∙ omega (arith, rest) in
      e ∙ ap (λ (n : ℕ). eqb n 0) (sym all) ∙ sym (zeros d) ∙ ap (λ (n : ℕ). eq_list d (replicate n 0)) size

pub ruleset empty_laws = (sum_more, sum-empty)
