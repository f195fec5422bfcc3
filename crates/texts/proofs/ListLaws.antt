-- Laws on lists that readers and writers share.
use Prim.Native.Nat.{ℕ, zero, suc, ◌+◌, ◌≤◌, ◌<◌}
use native.Mathlib.Numerals.{add-one}
use native.Mathlib.Nat.{not-suc-le-zero, le_of_suc-le-suc}
use mathlib.Core.Path.{◌≡◌, refl, ◌∙◌}
use mathlib.Core.List.{List, [], ◌∷◌, ◌++◌}
use mathlib.Core.Bool.{Bool, true, false, ◌&&◌, and_assoc}
use lib.ListN.{length, get_or, drop, set, drop_of_length-le}
use lib.Seq.{drop-cons}
use Rattle.texts.specs.Lists.{every}
use Rattle.texts.proofs.Tests.{and_left, and_right}

-- one element more is passed
pub drop-next : (s : List ℕ) (i : ℕ) → i < length s → drop i s ≡ get_or s i 0 ∷ drop (i + 1) s
drop-next s i h = rw (add-one, drop-cons s i 0)

-- what is stored at i stands there
pub drop-stored : (s : List ℕ) (i x : ℕ) → i < length s → drop i (set s i x) ≡ x ∷ drop (suc i) s
drop-stored [] i x h = absurd (not-suc-le-zero h)
drop-stored (y ∷ s) zero x h = refl
drop-stored (y ∷ s) (suc i) x h = drop-stored s i x (le_of_suc-le-suc h)

-- ---- a test of every byte
module _ (p : ℕ → Bool) where
  pub every_append : (s t : List ℕ) → every p (s ++ t) ≡ every p s && every p t
  unfolding every
  every_append [] t = refl
  every_append (b ∷ s) t = rw (every_append s t) (rw and_assoc)

  -- a loop that has passed i bytes: the next passes too, or fails, or there is none
  module _ (s : List ℕ) (i : ℕ) (passed : every p s ≡ every p (drop i s)) where
    pub every-step : i < length s → p (get_or s i 0) ≡ true → every p s ≡ every p (drop (i + 1) s)
    unfolding every
    every-step h e = passed ∙ rw (drop-next s i h, e)

    pub every-fails : i < length s → p (get_or s i 0) ≡ false → every p s ≡ false
    unfolding every
    every-fails h e = passed ∙ rw (drop-next s i h, e)

    pub every-all : length s ≤ i → every p s ≡ true
    unfolding every
    every-all h = passed ∙ rw (drop_of_length-le s h)

-- a test that follows from another
pub every-weaker : (p q : ℕ → Bool) (s : List ℕ) → ((b : ℕ) → p b ≡ true → q b ≡ true) → every p s ≡ true → every q s ≡ true
unfolding every
every-weaker p q [] f h = refl
every-weaker p q (b ∷ s) f h = rw (f b (and_left (p b) (every p s) h), every-weaker p q s f (and_right (p b) (every p s) h))
