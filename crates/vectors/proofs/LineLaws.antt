-- Laws of headings, of words by their place, and of a part of a row.
use Prim.Native.Nat.{ℕ, suc, ◌+◌, ◌*◌, ◌≤◌, ◌<◌, ◌^◌}
use native.Mathlib.Omega.{arith}
use native.Mathlib.Numerals.{add-one}
use native.Mathlib.Decide.{ℕ_discrete}
use mathlib.Core.Path.{◌≡◌, refl, sym, ap, ◌∙◌}
use mathlib.Core.List.{List, [], ◌∷◌}
use mathlib.Core.Bool.{Bool, true, false, cond}
use mir.Syntax.{w64}
use mir.Val.{Fits}
use lib.Dec.{leb, eqb}
use lib.ListN.{length, take, drop, get_or, length-drop}
use lib.Seq.{length-take-le, take_all, drop-drop}
use borrow.Author.Tests.{eqb-true, le-leb, lt-leb}
use Rattle.texts.specs.Lists.{find, eq_list}
use Rattle.texts.proofs.Tests.{no-claim}
use Rattle.texts.proofs.ScanLaws.{find-le}
use Rattle.coding.proofs.ParamLaws.{split-first, split-last}
use Rattle.vectors.specs.Lines.{is_heading, place_of, spaced}

-- ---- a part of a row
pub rows-size : {A : Type 0} (d : List A) (n : ℕ) → n ≤ length d → n ≡ length (take n d)
rows-size d n h = sym (length-take-le n d h)

pub part-size : {A : Type 0} (d : List A) (n k : ℕ) → length d ≡ k → n ≤ k → n ≡ length (take n d)
part-size d n k l h = rows-size d n (omega arith)

-- ---- headings
pub heading_none : (s : List ℕ) (t : Bool) → t ≡ eqb (length s) 0 → t ≡ true → t ≡ is_heading s
unfolding is_heading
heading_none [] t e h = h
heading_none (b ∷ s) t e h = absurd (omega (arith, eqb-true _ _ (sym e ∙ h)))

pub heading_first : (s : List ℕ) (t : Bool) → t ≡ eqb (length s) 0 → t ≡ false → eqb (get_or s 0 0) 35 ≡ is_heading s
unfolding is_heading
heading_first [] t e h = no-claim (sym h ∙ e)
heading_first (b ∷ s) t e h = refl

-- ---- words by their place: what is left from a place on gives the rest of the count
abbrev pub words_from : ℕ → List ℕ → List (List ℕ)
words_from at s = cond (leb at (length s)) (spaced (drop at s)) []

module _ (s : List ℕ) (at p : ℕ) (h : at ≤ length s) (rest : List ℕ) (er : rest ≡ drop at s) (ep : p ≡ find 32 rest) where
  at_rest : at + length rest ≡ length s
  at_rest = omega (arith, ap length er ∙ length-drop at s)

  pub word-inside : at + (p + 1) ≤ length s + 1
  word-inside = let l : p ≤ length rest = rw ep (find-le 32 rest) in omega (arith, at_rest)

  pub word_size : length s * 1 < 2 ^ 63 → Fits w64 (p + 1)
  word_size b = omega (arith, word-inside)

  pub word_fits : length s * 1 < 2 ^ 63 → Fits w64 (at + (p + 1))
  word_fits b = omega (arith, word-inside)

  pub place-below : (i : ℕ) → i ≤ at → i + 1 ≤ at + (p + 1)
  place-below i b = omega arith

  words-next : words_from at s ≡ take p rest ∷ words_from (at + (p + 1)) s
  words-next = pick (ℕ_discrete (find 32 rest) (length rest))
    where
      pick : Dec (find 32 rest ≡ length rest) → words_from at s ≡ take p rest ∷ words_from (at + (p + 1)) s
      pick (yes e) =
          let k : length rest ≤ find 32 rest = omega arith in
          let q : length rest ≤ p = omega arith in
          let o : length s < at + (p + 1) = omega (arith, at_rest) in
          rw (le-leb _ _ h, ← er, split-last 32 rest k, take_all p rest q, lt-leb _ _ o)
      pick (no n) =
          let k : find 32 rest < length rest = omega (arith, find-le 32 rest) in
          let o : at + (p + 1) ≤ length s = omega (arith, at_rest) in
          let d : drop (suc (find 32 rest)) rest ≡ drop (at + (p + 1)) s = rw (← ep, er, drop-drop, add-one) in
          rw (le-leb _ _ h, ← er, split-first 32 rest k, le-leb _ _ o, ← d, ep)

  module _ (w : List ℕ) (i : ℕ) (left : place_of w (spaced s) ≡ i + place_of w (words_from at s)) (x : List ℕ) (ex : x ≡ take p rest) where
    pub word-here : (b : Bool) → b ≡ eq_list x w → b ≡ true → i ≡ place_of w (spaced s)
    unfolding place_of
    word-here b eb t = sym (left ∙ rw (words-next, ← ex, ← eb, t) (omega arith))

    pub word-passed : (b : Bool) → b ≡ eq_list x w → b ≡ false → place_of w (spaced s) ≡ i + 1 + place_of w (words_from (at + (p + 1)) s)
    unfolding place_of
    word-passed b eb t = left ∙ rw (words-next, ← ex, ← eb, t) (omega arith)

module _ (s w : List ℕ) where
  pub words-done : (at i : ℕ) → place_of w (spaced s) ≡ i + place_of w (words_from at s) → length s < at → i ≡ place_of w (spaced s)
  unfolding place_of
  words-done at i left h = sym (left ∙ rw (lt-leb _ _ h) (omega arith))
