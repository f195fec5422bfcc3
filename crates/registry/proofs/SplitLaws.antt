-- Laws of the lines of a text: where the first ends, what it is, and what is left.
use Prim.Native.Nat.{ℕ, zero, suc, ◌+◌, ◌-◌, ◌≤◌, ◌<◌}
use native.Mathlib.Nat.{le_refl, zero-add, suc-add, not-suc-le-zero}
use native.Mathlib.Omega.{arith}
use mathlib.Core.Path.{◌≡◌, refl, sym, ap, ◌∙◌}
use mathlib.Core.List.{List, [], ◌∷◌}
use mathlib.Core.Bool.{Bool, true, false, cond, ◌&&◌}
use lib.Dec.{eqb}
use lib.ListN.{length, get_or, take, drop, length-drop, drop_of_length-le}
use lib.Seq.{drop-drop}
use Rattle.texts.specs.Lists.{find}
use Rattle.texts.proofs.ListLaws.{drop-next}
use Rattle.texts.proofs.ScanLaws.{find-le}
use Rattle.lines.specs.Line.{line_read, line_or_zeros}
use Rattle.registry.specs.Registry.{line_end, onto, split_lines, count_of, line_count, good_line, good_lines, held_lines}
use Rattle.days.specs.declared.calendar.Day.{Day}
use Rattle.texts.proofs.Tests.{cond-elim}

-- ---- the first line
module _ (b c : ℕ) (s : List ℕ) where
  ends : eqb b 13 && eqb c 10 ≡ true → line_end (b ∷ (c ∷ s)) ≡ 0
  unfolding line_end
  ends e = rw e

  goes_on : eqb b 13 && eqb c 10 ≡ false → line_end (b ∷ (c ∷ s)) ≡ suc (line_end (c ∷ s))
  unfolding line_end
  goes_on e = rw e

pub line-end-le : (t : List ℕ) → line_end t ≤ length t
unfolding line_end
line-end-le [] = le_refl 0
line-end-le (b ∷ []) = le_refl 1
line-end-le (b ∷ (c ∷ s)) = go (eqb b 13 && eqb c 10) (line-end-le (c ∷ s))
  where
    go : (t : Bool) → line_end (c ∷ s) ≤ suc (length s) → cond t 0 (suc (line_end (c ∷ s))) ≤ suc (suc (length s))
    go true h = omega arith
    go false h = omega arith

-- a byte alone ends no line
end_short : (t : List ℕ) → length t ≤ 1 → line_end t ≡ length t
unfolding line_end
end_short [] h = refl
end_short (b ∷ []) h = refl
end_short (b ∷ (c ∷ s)) h = absurd (omega arith)

-- bytes of which none is 0D belong to the line
end-other-first : (b : ℕ) (t : List ℕ) → eqb b 13 ≡ false → line_end (b ∷ t) ≡ suc (line_end t)
unfolding line_end
end-other-first b [] e = refl
end-other-first b (c ∷ t) e = rw e

end-far : (k : ℕ) (t : List ℕ) → find 13 t ≡ k + find 13 (drop k t) → line_end t ≡ k + line_end (drop k t)
unfolding find
end-far zero t h = sym (zero-add (line_end t))
end-far (suc k) [] h = absurd (omega arith)
end-far (suc k) (b ∷ t) h = go (eqb b 13) refl (end-far k t) h
  where
    go : (u : Bool) → eqb b 13 ≡ u → (find 13 t ≡ k + find 13 (drop k t) → line_end t ≡ k + line_end (drop k t))
        → cond u 0 (suc (find 13 t)) ≡ suc k + find 13 (drop k t) → line_end (b ∷ t) ≡ suc k + line_end (drop k t)
    go true e ih h = absurd (omega arith)
    go false e ih h =
        let g : find 13 t ≡ k + find 13 (drop k t) = omega arith in
        omega (arith, end-other-first b t e, ih g)

-- an ended line has its two end bytes
pub end-room : (t : List ℕ) → line_end t < length t → line_end t + 2 ≤ length t
unfolding line_end
end-room [] h = absurd (not-suc-le-zero h)
end-room (b ∷ []) h = absurd (omega arith)
end-room (b ∷ (c ∷ s)) h = go (eqb b 13 && eqb c 10) (end-room (c ∷ s)) h
  where
    go : (t : Bool) → (line_end (c ∷ s) < suc (length s) → line_end (c ∷ s) + 2 ≤ suc (length s))
        → cond t 0 (suc (line_end (c ∷ s))) < suc (suc (length s)) → cond t 0 (suc (line_end (c ∷ s))) + 2 ≤ suc (suc (length s))
    go true f g = omega arith
    go false f g = let r : line_end (c ∷ s) + 2 ≤ suc (length s) = f (omega arith) in omega arith

-- the lines are the first one, and the lines of what stands behind its end
pub split-line : (t : List ℕ) → line_end t < length t → split_lines t ≡ take (line_end t) t ∷ split_lines (drop (line_end t + 2) t)
unfolding line_end split_lines
split-line [] h = absurd (not-suc-le-zero h)
split-line (b ∷ []) h = absurd (omega arith)
split-line (b ∷ (c ∷ s)) h = go (eqb b 13 && eqb c 10) (split-line (c ∷ s)) h
  where
    go : (t : Bool) → (line_end (c ∷ s) < suc (length s) → split_lines (c ∷ s) ≡ take (line_end (c ∷ s)) (c ∷ s) ∷ split_lines (drop (line_end (c ∷ s) + 2) (c ∷ s)))
        → cond t 0 (suc (line_end (c ∷ s))) < suc (suc (length s))
        → cond t ([] ∷ split_lines s) (onto b (split_lines (c ∷ s)))
        ≡ take (cond t 0 (suc (line_end (c ∷ s)))) (b ∷ (c ∷ s)) ∷ split_lines (drop (cond t 0 (suc (line_end (c ∷ s))) + 2) (b ∷ (c ∷ s)))
    go true f g = refl
    go false f g =
        let h : line_end (c ∷ s) < suc (length s) = omega arith in
        rw (f h) (rw suc-add)

-- a text without an end is one rest
pub split_rest : (t : List ℕ) → length t ≤ line_end t → split_lines t ≡ t ∷ []
unfolding line_end split_lines
split_rest [] h = refl
split_rest (b ∷ []) h = refl
split_rest (b ∷ (c ∷ s)) h = go (eqb b 13 && eqb c 10) (split_rest (c ∷ s)) h
  where
    go : (t : Bool) → (suc (length s) ≤ line_end (c ∷ s) → split_lines (c ∷ s) ≡ (c ∷ s) ∷ [])
        → suc (suc (length s)) ≤ cond t 0 (suc (line_end (c ∷ s)))
        → cond t ([] ∷ split_lines s) (onto b (split_lines (c ∷ s))) ≡ (b ∷ (c ∷ s)) ∷ []
    go true f g = absurd (omega arith)
    go false f g =
        let h : suc (length s) ≤ line_end (c ∷ s) = omega arith in
        rw (f h)

-- there is always one text at least
onto-some : (P : List (List ℕ) → Type 0) → ((m : List ℕ) (ls : List (List ℕ)) → P (m ∷ ls)) → (b : ℕ) (ls : List (List ℕ)) → P (onto b ls)
onto-some P f b [] = f (b ∷ []) []
onto-some P f b (l ∷ ls) = f (b ∷ l) ls

split-some : (P : List (List ℕ) → Type 0) → ((m : List ℕ) (ls : List (List ℕ)) → P (m ∷ ls)) → (t : List ℕ) → P (split_lines t)
unfolding split_lines
split-some P f [] = f [] []
split-some P f (b ∷ []) = f (b ∷ []) []
split-some P f (b ∷ (c ∷ s)) = cond-elim P (eqb b 13 && eqb c 10) _ _ (λ _. f [] (split_lines s)) (λ _. onto-some P f b (split_lines (c ∷ s)))

-- ---- folds over the lines: a line before others gives its share
fold_line : {A : Type 0} (f : List (List ℕ) → A) (g : List ℕ → A → A) → ((l m : List ℕ) (ls : List (List ℕ)) → f (l ∷ (m ∷ ls)) ≡ g l (f (m ∷ ls)))
    → (t : List ℕ) → line_end t < length t → f (split_lines t) ≡ g (take (line_end t) t) (f (split_lines (drop (line_end t + 2) t)))
fold_line f g e t h =
    let l = take (line_end t) t in
    rw (split-line t h) (split-some (λ r. f (l ∷ r) ≡ g l (f r)) (e l) (drop (line_end t + 2) t))

module _ (t : List ℕ) where
  pub held-line : line_end t < length t → held_lines (split_lines t) ≡ line_or_zeros (line_read (take (line_end t) t)) ∷ held_lines (split_lines (drop (line_end t + 2) t))
  unfolding held_lines
  held-line = fold_line held_lines (λ l xs. line_or_zeros (line_read l) ∷ xs) (λ l m ls. refl) t

  pub held-rest : length t ≤ line_end t → held_lines (split_lines t) ≡ []
  unfolding held_lines
  held-rest h = rw (split_rest t h)

pub count-more : (l m : List ℕ) (ls : List (List ℕ)) → count_of (l ∷ (m ∷ ls)) ≡ suc (count_of (m ∷ ls))
unfolding count_of
count-more [] m ls = refl
count-more (b ∷ l) m ls = refl

pub count-line : (t : List ℕ) → line_end t < length t → line_count t ≡ suc (line_count (drop (line_end t + 2) t))
unfolding line_count
count-line = fold_line count_of (λ l n. suc n) count-more

pub count-rest : (t : List ℕ) → 0 < length t → length t ≤ line_end t → line_count t ≡ 1
unfolding line_count count_of
count-rest [] p h = absurd (not-suc-le-zero p)
count-rest (b ∷ t) p h = rw (split_rest (b ∷ t) h)

module _ (day : Day) where
  pub good_more : (l m : List ℕ) (ls : List (List ℕ)) → good_lines day (l ∷ (m ∷ ls)) ≡ good_line day l && good_lines day (m ∷ ls)
  unfolding good_lines
  good_more [] m ls = refl
  good_more (b ∷ l) m ls = refl

  pub good-line : (t : List ℕ) → line_end t < length t
      → good_lines day (split_lines t) ≡ good_line day (take (line_end t) t) && good_lines day (split_lines (drop (line_end t + 2) t))
  good-line = fold_line (good_lines day) (λ l g. good_line day l && g) good_more

  pub good-rest : (t : List ℕ) → 0 < length t → length t ≤ line_end t → good_lines day (split_lines t) ≡ false
  unfolding good_lines
  good-rest [] p h = absurd (not-suc-le-zero p)
  good-rest (b ∷ t) p h = rw (split_rest (b ∷ t) h)

-- ---- the search for the end, from i on
module _ (s : List ℕ) (at : ℕ) where
  pub end-past : length s ≤ at → at ≡ at + line_end (drop at s)
  unfolding line_end
  end-past h = rw (drop_of_length-le s h) (omega arith)

  -- the first 0D from i on is the first from `at` on
  module _ (i : ℕ) (same : at + find 13 (drop at s) ≡ i + find 13 (drop i s)) where
    pub far-inside : at < length s → i ≤ length s
    far-inside h =
        let l : find 13 (drop at s) ≤ length s - at = rw (← length-drop at s) (find-le 13 (drop at s)) in
        omega arith

    pub far-end : at ≤ i → at + line_end (drop at s) ≡ i + line_end (drop i s)
    far-end h =
        let k = i - at in
        let n : at + k ≡ i = omega arith in
        let d : drop k (drop at s) ≡ drop i s = drop-drop k at s ∙ rw n in
        let f : find 13 (drop at s) ≡ k + find 13 (drop k (drop at s)) = rw d (omega arith) in
        let e : line_end (drop at s) ≡ k + line_end (drop i s) = rw (← d) (end-far k (drop at s) f) in
        omega arith

  module _ (i : ℕ) (passed : at + line_end (drop at s) ≡ i + line_end (drop i s)) where
    module _ (h : i < length s - 1) (t : Bool) (test : t ≡ eqb (get_or s i 0) 13 && eqb (get_or s (i + 1) 0) 10) where
      two-more : drop i s ≡ get_or s i 0 ∷ (get_or s (i + 1) 0 ∷ drop (i + 1 + 1) s)
      two-more = drop-next s i (omega arith) ∙ ap (λ r. get_or s i 0 ∷ r) (drop-next s (i + 1) (omega arith))

      pub end-here : t ≡ true → i ≡ at + line_end (drop at s)
      end-here e =
          let z : line_end (drop i s) ≡ 0 = rw two-more (ends (get_or s i 0) (get_or s (i + 1) 0) (drop (i + 1 + 1) s) (sym test ∙ e)) in
          omega arith

      pub end-pass : t ≡ false → at + line_end (drop at s) ≡ i + 1 + line_end (drop (i + 1) s)
      end-pass e =
          let z : line_end (drop i s) ≡ suc (line_end (drop (i + 1) s)) =
          rw (two-more, drop-next s (i + 1) (omega arith)) (goes_on (get_or s i 0) (get_or s (i + 1) 0) (drop (i + 1 + 1) s) (sym test ∙ e)) in
          omega arith

    pub end-last : i ≤ length s → length s - 1 ≤ i → length s ≡ at + line_end (drop at s)
    end-last h g = omega (arith, passed, end_short (drop i s) (rw length-drop (omega arith)), length-drop i s)
