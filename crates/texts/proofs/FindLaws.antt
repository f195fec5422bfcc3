-- Laws of the search for a separator in a text that is put together.
use Prim.Native.Nat.{ℕ, suc, ◌+◌}
use native.Mathlib.Omega.{arith}
use mathlib.Core.Path.{◌≡◌, refl, ap}
use mathlib.Core.List.{List, [], ◌∷◌, ◌++◌}
use mathlib.Core.Bool.{Bool, true, false, cond}
use lib.Dec.{eqb}
use lib.ListN.{length, length-append}
use borrow.Author.Tests.{eq-eqb, ne_eqb}
use Rattle.texts.specs.Lists.{every, find}
use Rattle.texts.proofs.Tests.{and_left, and_right}

-- values that a test tells apart are two
pub tests-differ : (t u : Bool) → t ≡ true → u ≡ false → t ≡ u → ⊥
tests-differ t u e f q = let z : ◌≡◌ {A = ℕ} 0 1 = cc in absurd (omega arith)

-- a byte that a test refuses stands in no text that passes it
pub find_absent : (p : ℕ → Bool) (c : ℕ) (s : List ℕ) → p c ≡ false → every p s ≡ true → find c s ≡ length s
unfolding find every
find_absent p c [] n h = refl
find_absent p c (b ∷ s) n h =
    rw (ne_eqb b c (λ e. tests-differ (p b) (p c) (and_left (p b) (every p s) h) n (ap p e)), find_absent p c s n (and_right (p b) (every p s) h))

module _ (c : ℕ) where
  -- a text without the byte is passed over
  pub find-append : (xs ys : List ℕ) → find c xs ≡ length xs → find c (xs ++ ys) ≡ length xs + find c ys
  unfolding find
  find-append [] ys h = omega arith
  find-append (b ∷ xs) ys h = go (eqb b c) (find-append xs ys) h
    where
      go : (t : Bool) → (find c xs ≡ length xs → find c (xs ++ ys) ≡ length xs + find c ys) → cond t 0 (suc (find c xs)) ≡ suc (length xs)
          → cond t 0 (suc (find c (xs ++ ys))) ≡ suc (length xs) + find c ys
      go true ih e = absurd (omega arith)
      go false ih e = let k : find c xs ≡ length xs = omega arith in omega (arith, ih k)

  pub find-both : (xs ys : List ℕ) → find c xs ≡ length xs → find c ys ≡ length ys → find c (xs ++ ys) ≡ length (xs ++ ys)
  find-both xs ys h g = rw length-append (omega (arith, find-append xs ys h, g))

  pub find-other : (b : ℕ) (ys : List ℕ) → (b ≡ c → ⊥) → find c (b ∷ ys) ≡ suc (find c ys)
  unfolding find
  find-other b ys n = rw (ne_eqb b c n)

  -- the byte behind it is found
  pub find-seam : (xs ys : List ℕ) → find c xs ≡ length xs → find c (xs ++ (c ∷ ys)) ≡ length xs
  find-seam xs ys h =
      let z : find c (c ∷ ys) ≡ 0 = unfold find in rw (eq-eqb c c refl) in
      omega (arith, find-append xs (c ∷ ys) h)

-- the first c stands behind a text whose bytes pass a test that refuses it
pub find-behind : (p : ℕ → Bool) (c : ℕ) (xs ys : List ℕ) → p c ≡ false → every p xs ≡ true → find c (xs ++ (c ∷ ys)) ≡ length xs
find-behind p c xs ys n h = find-seam c xs ys (find_absent p c xs n h)
