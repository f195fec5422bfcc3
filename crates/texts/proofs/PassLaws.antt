-- Laws of the search for a byte by sixteen at a time.
use Prim.Native.Nat.{ℕ, suc, ◌+◌, ◌-◌, ◌≤◌, ◌<◌}
use native.Mathlib.Omega.{arith}
use mathlib.Core.Path.{◌≡◌, refl, sym, ap, ◌∙◌}
use mathlib.Core.List.{List, [], ◌∷◌}
use mathlib.Core.Bool.{Bool, true, false, not, cond, ◌&&◌, and_assoc, and-true}
use lib.Dec.{eqb, eqb-zero-suc, eqb-suc-suc}
use lib.ListN.{length, get_or, take, drop, length-drop, take-append-drop, drop_of_length-le}
use lib.Seq.{length-take-le, get_or-take, get_or-drop, drop-drop}
use borrow.Author.Tests.{eqb-true}
use Rattle.texts.specs.Lists.{every, find}
use Rattle.texts.proofs.ListLaws.{drop-next}
use Rattle.texts.proofs.FindLaws.{find-append}

-- ---- bytes of which none is b
module _ (b : ℕ) where
  abbrev pub is_other : ℕ → Bool
  is_other x = not (eqb x b)

  others-find : (t : List ℕ) → every is_other t ≡ eqb (find b t) (length t)
  unfolding every find
  others-find [] = refl
  others-find (x ∷ t) = go (eqb x b) (others-find t)
    where
      go : (h : Bool) → every is_other t ≡ eqb (find b t) (length t) → not h && every is_other t ≡ eqb (cond h 0 (suc (find b t))) (suc (length t))
      go true ih = rw (eqb-zero-suc (length t))
      go false ih = rw eqb-suc-suc ih

-- ---- sixteen bytes from i on
module _ (b : ℕ) (s : List ℕ) (i : ℕ) (room : i + 16 ≤ length s) where
  near-size : length (take 16 (drop i s)) ≡ 16
  near-size = let h : 16 ≤ length (drop i s) = rw length-drop (omega arith) in length-take-le 16 (drop i s) h

  near-at : (j : ℕ) → j < 16 → get_or (take 16 (drop i s)) j 0 ≡ get_or s (i + j) 0
  near-at j h = get_or-take 16 (drop i s) j 0 h ∙ get_or-drop i s j 0

  module _ (j : ℕ) (none : Bool) (passed : every (is_other b) (take 16 (drop i s)) ≡ none && every (is_other b) (drop j (take 16 (drop i s)))) where
    pub none_more : j < 16
        → every (is_other b) (take 16 (drop i s)) ≡ (none && not (eqb (get_or s (i + j) 0) b)) && every (is_other b) (drop (j + 1) (take 16 (drop i s)))
    unfolding every
    none_more h =
        let t = take 16 (drop i s) in
        let l : j < length t = omega (arith, near-size) in
        passed ∙ rw (drop-next t j l, near-at j h, and_assoc)

    pub none-all : 16 ≤ j → none ≡ eqb (find b (take 16 (drop i s))) 16
    unfolding every
    none-all h =
        let t = take 16 (drop i s) in
        let past : length t ≤ j = omega (arith, near-size) in
        let all : every (is_other b) t ≡ none = passed ∙ rw (drop_of_length-le t past, and-true) in
        sym all ∙ others-find b t ∙ ap (eqb (find b t)) near-size

  -- none of them is b
  find-far : find b (take 16 (drop i s)) ≡ 16 → find b (drop i s) ≡ 16 + find b (drop (i + 16) s)
  find-far e =
      let t = take 16 (drop i s) in
      ap (find b) (sym (take-append-drop 16 (drop i s)))
      ∙ find-append b t (drop 16 (drop i s)) (e ∙ sym near-size)
      ∙ rw (near-size, drop-drop 16 i s)

-- ---- the walk, which begins at `at`
pub others-pass : (b : ℕ) (s : List ℕ) (at i : ℕ) → at + find b (drop at s) ≡ i + find b (drop i s) → 16 ≤ length s → i ≤ length s - 16
    → (r : Bool) → r ≡ eqb (find b (take 16 (drop i s))) 16 → r ≡ true → at + find b (drop at s) ≡ i + 16 + find b (drop (i + 16) s)
others-pass b s at i passed l h r e t = omega (arith, passed, find-far b s i (omega arith) (eqb-true _ _ (sym e ∙ t)))
