-- Laws of the parameters and of a text split at a separator.
use Prim.Native.Nat.{ℕ, suc, ◌≤◌, ◌<◌}
use native.Mathlib.Nat.{not-suc-le-zero, le_of_suc-le-suc}
use native.Mathlib.Omega.{arith}
use mathlib.Core.Path.{◌≡◌, refl, ap, ◌∙◌}
use mathlib.Core.List.{List, [], ◌∷◌, ◌++◌}
use mathlib.Core.Bool.{Bool, true, false, cond}
use lib.Dec.{eqb}
use lib.ListN.{length, take, drop, length-append}
use lib.Seq.{take-append_seam}
use Rattle.coding.specs.declared.params.Method.{Method}
use Rattle.coding.specs.declared.params.Method.TheVariants.{Get, Post}
use Rattle.texts.specs.Lists.{find}
use Rattle.coding.specs.Params.{param_part, longer, split_at}
use Rattle.texts.proofs.FindLaws.{find-seam}

-- ---- where the parameters stand
module _ (m : Method) (t b : List ℕ) where
  pub part_post : m ≡ Post → b ≡ param_part m t b
  unfolding param_part
  part_post e = rw e

  pub part-get : m ≡ Get → (r : List ℕ) → r ≡ drop (suc (find 63 t)) t → r ≡ param_part m t b
  unfolding param_part
  part-get e r q = rw e q

-- ---- a text split at a separator
module _ (c : ℕ) where
  pub split-first : (s : List ℕ) → find c s < length s → split_at c s ≡ take (find c s) s ∷ split_at c (drop (suc (find c s)) s)
  unfolding split_at find
  split-first [] h = absurd (not-suc-le-zero h)
  split-first (b ∷ s) h = go (eqb b c) (split-first s) h
    where
      go : (t : Bool) → (find c s < length s → split_at c s ≡ take (find c s) s ∷ split_at c (drop (suc (find c s)) s)) → cond t 0 (suc (find c s)) < suc (length s)
          → cond t ([] ∷ split_at c s) (longer b (split_at c s))
          ≡ take (cond t 0 (suc (find c s))) (b ∷ s) ∷ split_at c (drop (suc (cond t 0 (suc (find c s)))) (b ∷ s))
      go true ih l = refl
      go false ih l = ap (longer b) (ih (le_of_suc-le-suc l))

  pub split-last : (s : List ℕ) → length s ≤ find c s → split_at c s ≡ s ∷ []
  unfolding split_at find
  split-last [] h = refl
  split-last (b ∷ s) h = go (eqb b c) (split-last s) h
    where
      go : (t : Bool) → (length s ≤ find c s → split_at c s ≡ s ∷ []) → suc (length s) ≤ cond t 0 (suc (find c s))
          → cond t ([] ∷ split_at c s) (longer b (split_at c s)) ≡ (b ∷ s) ∷ []
      go true ih l = absurd (not-suc-le-zero l)
      go false ih l = ap (longer b) (ih (le_of_suc-le-suc l))

  drop-seam : (xs ys : List ℕ) → drop (suc (length xs)) (xs ++ (c ∷ ys)) ≡ ys
  drop-seam [] ys = refl
  drop-seam (b ∷ xs) ys = drop-seam xs ys

  pub split-append : (xs ys : List ℕ) → find c xs ≡ length xs → split_at c (xs ++ (c ∷ ys)) ≡ xs ∷ split_at c ys
  split-append xs ys h =
      let n : find c (xs ++ (c ∷ ys)) ≡ length xs = find-seam c xs ys h in
      let l : find c (xs ++ (c ∷ ys)) < length (xs ++ (c ∷ ys)) = rw (n, length-append) (omega arith) in
      split-first (xs ++ (c ∷ ys)) l ∙ rw (n, take-append_seam, drop-seam)
