-- Laws of escapes: what one gives, and a loop that has passed i bytes of the text and written j.
use Prim.Native.Nat.{ℕ, zero, suc, ◌+◌, ◌-◌, ◌*◌, ◌≤◌, ◌<◌, ◌^◌}
use native.Mathlib.Omega.{arith}
use mathlib.Core.Path.{◌≡◌, refl, sym, ap, ◌∙◌}
use mathlib.Core.List.{List, [], ◌∷◌}
use mathlib.Core.Bool.{◌&&◌}
use lib.Dec.{eqb}
use lib.ListN.{length, get_or, drop, set, drop_of_length-le}
use lib.Seq.{drop-drop, get_or-drop}
use borrow.Author.Tests.{le-leb, lt-leb}
use mir.Syntax.{w64}
use mir.Val.{Fits}
use Rattle.texts.specs.Lists.{over}
use Rattle.texts.proofs.ListLaws.{drop-next}
use Rattle.texts.proofs.OutLaws.{over-step, over_none}
use Rattle.texts.proofs.Tests.{cond-elim}
use Rattle.coding.specs.Url.{is_hex}
use Rattle.vectors.specs.declared.escape.Unit.{Unit}
use Rattle.vectors.specs.Escapes.{hex_unit, escaped, unit_of, unit_in, unit_at, unescaped_from, unescaped, unescaped_into, unescaped_count}

-- from one byte to four
abbrev Wide : Unit → Type 0
Wide u = (1 ≤ u.width) × (u.width ≤ 4)

unit-wide : (b c h l : ℕ) → Wide (unit_of b c h l)
unfolding unit_of escaped hex_unit
unit-wide b c h l =
    cond-elim Wide (eqb b 92) _ _
    (λ _. cond-elim Wide (eqb c 116) _ _ (λ _. omega arith)
    (λ _. cond-elim Wide (eqb c 114) _ _ (λ _. omega arith)
    (λ _. cond-elim Wide (eqb c 110) _ _ (λ _. omega arith)
    (λ _. cond-elim Wide (eqb c 92) _ _ (λ _. omega arith)
    (λ _. cond-elim Wide (eqb c 120) _ _ (λ _. cond-elim Wide (is_hex h && is_hex l) _ _ (λ _. omega arith) (λ _. omega arith)) (λ _. omega arith))))))
    (λ _. omega arith)

-- ---- a text, some bytes of which are passed
from-drop : (k : ℕ) (s : List ℕ) → unescaped_from k s ≡ unescaped (drop k s)
unfolding unescaped_from
from-drop zero s = refl
from-drop (suc k) [] = refl
from-drop (suc k) (b ∷ s) = from-drop k s

module _ (s : List ℕ) (i : ℕ) (h : i < length s) (u : Unit) (eu : u ≡ unit_in s i) where
  wide : Wide u
  unfolding unit_in
  wide = rw eu (unit-wide (get_or s i 0) (get_or s (i + 1) 0) (get_or s (i + 2) 0) (get_or s (i + 3) 0))

  here : unit_at (get_or s i 0) (drop (i + 1) s) ≡ u
  unfolding unit_in
  here =
      let a : i + 1 + 0 ≡ i + 1 = omega arith in
      let b : i + 1 + 1 ≡ i + 2 = omega arith in
      let d : i + 1 + 2 ≡ i + 3 = omega arith in
      rw (get_or-drop (i + 1) s 0 0, get_or-drop (i + 1) s 1 0, get_or-drop (i + 1) s 2 0, a, b, d) (sym eu)

  unescaped-pass : unescaped (drop i s) ≡ u.byte ∷ unescaped (drop (i + u.width) s)
  unfolding unescaped_from
  unescaped-pass =
      let k : i + 1 + (u.width - 1) ≡ i + u.width = omega (arith, wide.0) in
      rw (drop-next s i h, here) (ap (λ (l : List ℕ). u.byte ∷ l) (from-drop (u.width - 1) (drop (i + 1) s) ∙ rw (drop-drop (u.width - 1) (i + 1) s, k)))

  pub unit-fits : length s * 1 < 2 ^ 63 → Fits w64 (i + u.width)
  unit-fits l = omega (arith, wide.1)

  pub unit-falls : length s - (i + u.width) < length s - i
  unit-falls = omega (arith, wide.0)

  module _ (j : ℕ) where
    pub unit-behind : j ≤ i → j + 1 ≤ i + u.width
    unit-behind l = omega (arith, wide.0)

    pub count-step : length (unescaped s) ≡ j + length (unescaped (drop i s)) → length (unescaped s) ≡ j + 1 + length (unescaped (drop (i + u.width) s))
    count-step e = let k : length (unescaped (drop i s)) ≡ suc (length (unescaped (drop (i + u.width) s))) = ap length unescaped-pass in omega arith

    pub bytes-step : (d₀ d : List ℕ) → over d₀ 0 (unescaped s) ≡ over d j (unescaped (drop i s)) → j ≤ i → length d ≡ length d₀ → length s ≤ length d₀
        → over d₀ 0 (unescaped s) ≡ over (set d j u.byte) (j + 1) (unescaped (drop (i + u.width) s))
    bytes-step d₀ d e a b r = e ∙ ap (over d j) unescaped-pass ∙ over-step d j u.byte (unescaped (drop (i + u.width) s)) (omega arith)

-- ---- the ways out
none_left : (s : List ℕ) (i : ℕ) → length s ≤ i → unescaped (drop i s) ≡ []
unfolding unescaped_from
none_left s i h = rw (drop_of_length-le s h)

module _ (d₀ s : List ℕ) where
  pub short-count : length d₀ < length s → 0 ≡ unescaped_count d₀ s
  unfolding unescaped_count
  short-count h = rw (lt-leb _ _ h)

  pub short-kept : (x : List ℕ) → x ≡ d₀ → length d₀ < length s → x ≡ unescaped_into d₀ s
  unfolding unescaped_into
  short-kept x e h = e ∙ rw (lt-leb _ _ h)

  module _ (i j : ℕ) (end : length s ≤ i) (room : length s ≤ length d₀) where
    pub all-count : length (unescaped s) ≡ j + length (unescaped (drop i s)) → j ≡ unescaped_count d₀ s
    unfolding unescaped_count
    all-count e = let k : length (unescaped (drop i s)) ≡ 0 = ap length (none_left s i end) in rw (le-leb _ _ room) (omega arith)

    pub all-into : (d x : List ℕ) → x ≡ d → over d₀ 0 (unescaped s) ≡ over d j (unescaped (drop i s)) → x ≡ unescaped_into d₀ s
    unfolding unescaped_into
    all-into d x ex e = rw (le-leb _ _ room) (ex ∙ sym (e ∙ ap (over d j) (none_left s i end) ∙ over_none d j))
