-- Laws of the search for a byte.
use Rattle.std.specs.Prelude.{Some, None, position}
use Rattle.std.specs.Option.{unwrap_or}
use Rattle.std.specs.List.{position_or_len}
use Rattle.std.proofs.lemmas.List.Recursion.{is_position_or_len}
use Prim.Native.Nat.{ℕ, suc, ◌+◌, ◌-◌, ◌*◌, ◌^◌, ◌≤◌, ◌<◌}
use native.Mathlib.Nat.{le_refl}
use native.Mathlib.Omega.{arith}
use mathlib.Core.Path.{◌≡◌, refl, sym, ap, ◌∙◌}
use mathlib.Core.List.{List, [], ◌∷◌}
use mathlib.Core.Bool.{Bool, true, false, cond, ◌&&◌}
use mir.Syntax.{w64}
use mir.Val.{Fits}
use lib.ListN.{length, get_or, take, drop, length-drop, drop_of_length-le}
use lib.Seq.{take_all}
use lib.Dec.{eqb, ltb}
use lib.Pointwise.{pointwise}
use borrow.Author.Tests.{eq-eqb, ne_eqb, eqb-true, ltb-false}
use mathlib.Core.Bool.{and-false}
use Rattle.texts.specs.Lists.{find, eq_list}
use Rattle.texts.proofs.ListLaws.{drop-next}
use Rattle.texts.proofs.Tests.{and_left, and_right, cond-le}

pub find-le : (b : ℕ) (s : List ℕ) → find b s ≤ length s
unfolding find
find-le b [] = le_refl 0
find-le b (x ∷ s) = let h : find b s ≤ length s = find-le b s in cond-le (eqb x b) (omega arith) (omega arith)

-- ---- the search of the library
find_position : (b : ℕ) (s : List ℕ) → find b s ≡ position_or_len (λ x. eqb x b) s
unfolding find
find_position b s = is_position_or_len (find b) (λ x. eqb x b) refl (λ x xs. ap (cond (eqb x b) 0) (omega arith)) s

found_or_length : (t : Bool) (f n : ℕ) → ltb f n ≡ t → f ≤ n → unwrap_or (cond t (Some f) None) n ≡ f
found_or_length true f n e l = refl
found_or_length false f n e l = omega (arith, ltb-false f n e, l)

pub position_find : (b : ℕ) (s : List ℕ) → find b s ≡ unwrap_or (position (λ x. eqb x b) s) (length s)
position_find b s = sym (rw (← find_position b s) (found_or_length (ltb (find b s) (length s)) (find b s) (length s) refl (find-le b s)))

-- ---- equality of two lists
pub pointwise-list : (a b : List ℕ) → pointwise eqb a b ≡ eq_list a b
unfolding eq_list
pointwise-list [] [] = refl
pointwise-list [] (y ∷ t) = refl
pointwise-list (x ∷ s) [] = refl
pointwise-list (x ∷ s) (y ∷ t) = ap (eqb x y &&◌) (pointwise-list s t)

pub lengths_differ : (a b : List ℕ) → (length a ≡ length b → ⊥) → false ≡ eq_list a b
unfolding eq_list
lengths_differ [] [] n = absurd (n refl)
lengths_differ [] (y ∷ t) n = refl
lengths_differ (x ∷ s) [] n = refl
lengths_differ (x ∷ s) (y ∷ t) n = rw (← lengths_differ s t (λ e. n (ap suc e))) (sym (and-false (eqb x y)))

-- a loop that has passed i bytes: what is left decides t
module _ (t : Bool) (a b : List ℕ) (i : ℕ) (passed : t ≡ eq_list (drop i a) (drop i b)) (same : length a ≡ length b) where
  pub pass_same : i < length a → get_or a i 0 ≡ get_or b i 0 → t ≡ eq_list (drop (i + 1) a) (drop (i + 1) b)
  unfolding eq_list
  pass_same h e = passed ∙ rw (drop-next a i h, drop-next b i (omega arith), eq-eqb _ _ e)

  pub bytes-differ : i < length a → (get_or a i 0 ≡ get_or b i 0 → ⊥) → false ≡ t
  unfolding eq_list
  bytes-differ h n = sym (passed ∙ rw (drop-next a i h, drop-next b i (omega arith), ne_eqb _ _ n))

  pub all_same : length a ≤ i → true ≡ t
  unfolding eq_list
  all_same h = let k : length b ≤ i = omega arith in sym (passed ∙ rw (drop_of_length-le a h, drop_of_length-le b k))

-- the test is the equation
pub eq_list-refl : (a : List ℕ) → eq_list a a ≡ true
unfolding eq_list
eq_list-refl [] = refl
eq_list-refl (x ∷ a) = rw (eq-eqb x x refl, eq_list-refl a)

pub eq_list-true : (a b : List ℕ) → eq_list a b ≡ true → a ≡ b
unfolding eq_list
eq_list-true [] [] e = refl
eq_list-true [] (y ∷ t) e = let z : ◌≡◌ {A = ℕ} 0 1 = cc in absurd (omega arith)
eq_list-true (x ∷ s) [] e = let z : ◌≡◌ {A = ℕ} 0 1 = cc in absurd (omega arith)
eq_list-true (x ∷ s) (y ∷ t) e =
    let p : x ≡ y = eqb-true x y (and_left (eqb x y) (eq_list s t) e) in
    let q : s ≡ t = eq_list-true s t (and_right (eqb x y) (eq_list s t) e) in
    cc

-- ---- parts of a text
pub from_some : (s : List ℕ) (at : ℕ) → take (length s - at) (drop at s) ≡ drop at s
from_some s at = take_all (length s - at) (drop at s) (rw length-drop (le_refl _))

pub after-fits : (b : ℕ) (s : List ℕ) (p : ℕ) → p ≡ find b s → length s * 1 < 2 ^ 63 → Fits w64 (p + 1)
after-fits b s p at h = omega (arith, find-le b s)
