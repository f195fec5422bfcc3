-- Laws of the units of coded text.
use Prim.Native.Nat.{ℕ, suc, ◌+◌, ◌-◌, ◌*◌, ◌^◌, ◌≤◌, ◌<◌}
use native.Mathlib.Omega.{arith}
use mathlib.Core.Path.{◌≡◌, refl, sym, ap, ◌∙◌}
use mathlib.Core.List.{List, [], ◌∷◌}
use mathlib.Core.Bool.{Bool, true, false, cond, not, ◌&&◌, ◌||◌, and-true, and_assoc}
use lib.Dec.{eqb, leb}
use lib.ListN.{length, get_or, take, drop, set, length-append, length-drop, drop_of_length-le}
use lib.Seq.{drop-drop, take-append_seam}
use borrow.Author.Tests.{le-leb, lt-leb, eq-eqb, ne_eqb, leb-true}
use mir.Syntax.{w64}
use mir.Val.{Fits}
use Rattle.std.specs.List.{list_any}
use Rattle.texts.specs.Digits.{within}
use Rattle.texts.specs.Lists.{over}
use Rattle.texts.proofs.ListLaws.{drop-next}
use Rattle.texts.proofs.OutLaws.{over-step, over_none}
use Rattle.texts.proofs.Tests.{cond-elim, no-claim}
use Rattle.texts.proofs.DigitLaws.{within-high}
use Rattle.coding.specs.declared.url.Unit.{Unit}
use Rattle.coding.specs.Url.{is_hex, hex_value, well_coded, decoded, decoded_into, decoded_count, decoded_within}
use Rattle.coding.specs.Units.{single, escape, unit_of}

-- ---- hexadecimal digits
pub hex-most : (b : ℕ) → hex_value b ≤ 15
unfolding hex_value
hex-most b =
    cond-elim P (within 48 57 b) (b - 48) capital (λ e. omega (arith, within-high 48 57 b e))
    (λ _. cond-elim P (within 65 70 b) (b - 55) small (λ e. omega (arith, within-high 65 70 b e))
    (λ _. cond-elim P (within 97 102 b) (b - 87) 0 (λ e. omega (arith, within-high 97 102 b e)) (λ _. omega arith)))
  where
    P : ℕ → Type 0
    P v = v ≤ 15

    small : ℕ
    small = cond (within 97 102 b) (b - 87) 0

    capital : ℕ
    capital = cond (within 65 70 b) (b - 55) small

module _ (x y h l : ℕ) (ex : x ≡ hex_value h) (ey : y ≡ hex_value l) where
  pub high_fits : x * 16 < 2 ^ 8
  high_fits = omega (arith, ex, hex-most h)

  pub pair_fits : x * 16 + y < 2 ^ 8
  pair_fits = omega (arith, ex, ey, hex-most h, hex-most l)

pub hex-first : (h l : ℕ) (t u : Bool) → t ≡ is_hex h → t ≡ true → u ≡ is_hex l → u ≡ is_hex h && is_hex l
hex-first h l t u e y q = q ∙ rw (← e, y)

pub hex-not : (h l : ℕ) (t : Bool) → t ≡ is_hex h → t ≡ false → false ≡ is_hex h && is_hex l
hex-not h l t e n = rw (← e, n)

-- ---- text is its first unit and the rest
pub decoded-unit : (t : List ℕ) → 0 < length t → decoded t ≡ (unit_of t).byte ∷ decoded (drop (unit_of t).len t)
unfolding decoded unit_of
decoded-unit [] h = absurd (omega arith)
decoded-unit (b ∷ []) h = refl
decoded-unit (b ∷ (x ∷ [])) h = refl
decoded-unit (b ∷ (x ∷ (y ∷ t))) h = go (eqb b 37)
  where
    go : (c : Bool) → cond c ((hex_value x * 16 + hex_value y) ∷ decoded t) (b ∷ decoded (x ∷ (y ∷ t)))
        ≡ (cond c (escape x y) (single b)).byte ∷ decoded (drop (cond c (escape x y) (single b)).len (b ∷ (x ∷ (y ∷ t))))
    go true = refl
    go false = refl

pub well-unit : (t : List ℕ) → 0 < length t → well_coded t ≡ (unit_of t).good && well_coded (drop (unit_of t).len t)
unfolding well_coded unit_of
well-unit [] h = absurd (omega arith)
well-unit (b ∷ []) h = sym (and-true (not (eqb b 37)))
well-unit (b ∷ (x ∷ [])) h = refl
well-unit (b ∷ (x ∷ (y ∷ t))) h = go (eqb b 37)
  where
    go : (c : Bool) → cond c (is_hex x && (is_hex y && well_coded t)) (well_coded (x ∷ (y ∷ t)))
        ≡ (cond c (escape x y) (record { byte = b; len = 1; good = not c })).good && well_coded (drop (cond c (escape x y) (record { byte = b; len = 1; good = not c })).len (b ∷ (x ∷ (y ∷ t))))
    go true = sym (and_assoc (is_hex x) (is_hex y) (well_coded t))
    go false = refl

-- a unit takes at least one byte, and no more than there are
unit_size : (t : List ℕ) → 0 < length t → (1 ≤ (unit_of t).len) × ((unit_of t).len ≤ length t)
unfolding unit_of
unit_size [] h = absurd (omega arith)
unit_size (b ∷ []) h = omega arith
unit_size (b ∷ (x ∷ [])) h = omega arith
unit_size (b ∷ (x ∷ (y ∷ t))) h =
    cond-elim (λ (u : Unit). (1 ≤ u.len) × (u.len ≤ suc (suc (suc (length t))))) (eqb b 37) (escape x y) (single b) (λ _. omega arith) (λ _. omega arith)

-- ---- the unit at i
pub unit-other : (b : ℕ) (t : List ℕ) → (b ≡ 37 → ⊥) → unit_of (b ∷ t) ≡ single b
unfolding unit_of
unit-other b [] n = refl
unit-other b (x ∷ []) n = refl
unit-other b (x ∷ (y ∷ t)) n = rw (ne_eqb _ _ n)

unit-last : (b : ℕ) (t : List ℕ) → length t < 2 → unit_of (b ∷ t) ≡ single b
unfolding unit_of
unit-last b [] h = refl
unit-last b (x ∷ []) h = refl
unit-last b (x ∷ (y ∷ t)) h = absurd (omega arith)

module _ (s : List ℕ) (i : ℕ) (h : i < length s) where
  pub unit_plain : (get_or s i 0 ≡ 37 → ⊥) → unit_of (drop i s) ≡ record { byte = get_or s i 0; len = 1; good = true }
  unit_plain n = rw (drop-next s i h) (unit-other (get_or s i 0) (drop (i + 1) s) n ∙ rw (ne_eqb _ _ n))

  module _ (e : get_or s i 0 ≡ 37) where
    pub unit-short : length s - i < 3 → record { byte = get_or s i 0; len = 1; good = false } ≡ unit_of (drop i s)
    unit-short l =
        let q : length (drop (i + 1) s) < 2 = rw length-drop (omega arith) in
        sym (rw (drop-next s i h) (unit-last (get_or s i 0) (drop (i + 1) s) q ∙ rw (eq-eqb _ _ e)))

    pub unit-escape : 3 ≤ length s - i → (x y : ℕ) (t : Bool) → x ≡ hex_value (get_or s (i + 1) 0) → y ≡ hex_value (get_or s (i + 2) 0)
        → t ≡ is_hex (get_or s (i + 1) 0) && is_hex (get_or s (i + 2) 0) → record { byte = x * 16 + y; len = 3; good = t } ≡ unit_of (drop i s)
    unfolding unit_of
    unit-escape l x y t ex ey et =
        let k : i + 1 + 1 ≡ i + 2 = omega arith in
        sym (rw (drop-next s i h, drop-next s (i + 1) (omega arith), k, drop-next s (i + 2) (omega arith), eq-eqb _ _ e, ← ex, ← ey, ← et))

-- ---- a turn of a loop: the unit at i is passed
module _ (s : List ℕ) (i : ℕ) (h : i < length s) (u : Unit) (eu : u ≡ unit_of (drop i s)) where
  left : 0 < length (drop i s)
  left = rw length-drop (omega arith)

  some : 1 ≤ u.len
  some = rw eu (unit_size (drop i s) left).0

  pub unit-inside : i + u.len ≤ length s
  unit-inside = let z : u.len ≤ length (drop i s) = rw eu (unit_size (drop i s) left).1 in omega (arith, simp length-drop at z)

  pub unit-fits : length s < 2 ^ 64 → Fits w64 (i + u.len)
  unit-fits l = omega (arith, unit-inside)

  pub unit-falls : length s - (i + u.len) < length s - i
  unit-falls = omega (arith, some)

  well-pass : well_coded (drop i s) ≡ u.good && well_coded (drop (i + u.len) s)
  well-pass = well-unit (drop i s) left ∙ rw (← eu, drop-drop u.len i s)

  decoded-pass : decoded (drop i s) ≡ u.byte ∷ decoded (drop (i + u.len) s)
  decoded-pass = decoded-unit (drop i s) left ∙ rw (← eu, drop-drop u.len i s)

  module _ (passed : well_coded s ≡ well_coded (drop i s)) where
    pub well-step : u.good ≡ true → well_coded s ≡ well_coded (drop (i + u.len) s)
    well-step g = passed ∙ well-pass ∙ rw g

    pub well-fails : u.good ≡ false → false ≡ well_coded s
    well-fails g = sym (passed ∙ well-pass ∙ rw g)

  module _ (j : ℕ) where
    pub unit-behind : j ≤ i → j + 1 ≤ i + u.len
    unit-behind l = omega (arith, some)

    pub count-step : length (decoded s) ≡ j + length (decoded (drop i s)) → length (decoded s) ≡ j + 1 + length (decoded (drop (i + u.len) s))
    count-step e = omega (arith, e, ap length decoded-pass)

    pub bytes-step : (d₀ d : List ℕ) → over d₀ 0 (decoded s) ≡ over d j (decoded (drop i s)) → j ≤ i → length d ≡ length d₀ → length s ≤ length d₀
        → over d₀ 0 (decoded s) ≡ over (set d j u.byte) (j + 1) (decoded (drop (i + u.len) s))
    bytes-step d₀ d e p q r = e ∙ rw decoded-pass (over-step d j u.byte (decoded (drop (i + u.len) s)) (omega arith))

-- ---- the ends
pub well-done : (s : List ℕ) (i : ℕ) → length s ≤ i → well_coded s ≡ well_coded (drop i s) → true ≡ well_coded s
unfolding well_coded
well-done s i l e = sym (e ∙ rw (drop_of_length-le s l))

module _ (d₀ s : List ℕ) where
  pub short-count : length d₀ < length s → 0 ≡ decoded_count d₀ s
  unfolding decoded_count
  short-count h = simp (lt-leb _ _ h)

  pub short-kept : (x : List ℕ) → x ≡ d₀ → length d₀ < length s → x ≡ decoded_into d₀ s
  unfolding decoded_into
  short-kept x q h = q ∙ simp (lt-leb _ _ h)

  module _ (i : ℕ) (done : length s ≤ i) (fit : length s ≤ length d₀) (j : ℕ) where
    pub all-count : length (decoded s) ≡ j + length (decoded (drop i s)) → j ≡ decoded_count d₀ s
    unfolding decoded_count decoded
    all-count l = let k : length (decoded s) ≡ j = l ∙ rw (drop_of_length-le s done) (omega arith) in simp (le-leb _ _ fit, k)

    pub all-into : (d x : List ℕ) → x ≡ d → over d₀ 0 (decoded s) ≡ over d j (decoded (drop i s)) → x ≡ decoded_into d₀ s
    unfolding decoded_into decoded
    all-into d x q e = let w : over d₀ 0 (decoded s) ≡ d = e ∙ rw (drop_of_length-le s done) (over_none d j) in q ∙ rw (le-leb _ _ fit) (sym w)

-- ---- decoded where it is only read
pub within-short : (room : ℕ) (s r : List ℕ) → room < length s → r ≡ [] → r ≡ decoded_within room s
unfolding decoded_within
within-short room s r h q = q ∙ simp (lt-leb _ _ h)

-- a text without % stands for itself
decoded-plain : (s : List ℕ) → list_any (λ y. eqb y 37) s ≡ false → decoded s ≡ s
unfolding decoded
decoded-plain [] h = refl
decoded-plain (b ∷ []) h = refl
decoded-plain (b ∷ (x ∷ [])) h = refl
decoded-plain (b ∷ (x ∷ (y ∷ s))) h = go (eqb b 37) (decoded-plain (x ∷ (y ∷ s))) h
  where
    rest : Bool
    rest = list_any (λ y. eqb y 37) (x ∷ (y ∷ s))

    go : (c : Bool) → (rest ≡ false → decoded (x ∷ (y ∷ s)) ≡ x ∷ (y ∷ s)) → c || rest ≡ false
        → cond c ((hex_value x * 16 + hex_value y) ∷ decoded s) (b ∷ decoded (x ∷ (y ∷ s))) ≡ b ∷ (x ∷ (y ∷ s))
    go true ih e = no-claim (sym e)
    go false ih e = ap (b ∷◌) (ih e)

pub within-room : (d s : List ℕ) → length s ≤ length d → (n : ℕ) → n ≡ decoded_count d s → (b : List ℕ) → b ≡ decoded_into d s → (r : List ℕ) → r ≡ take n b → r ≡ decoded_within (length d) s
unfolding decoded_within decoded_count decoded_into
within-room d s l n en b eb r q = q ∙ rw (en, eb, le-leb _ _ l) (take-append_seam (decoded s) (drop (0 + length (decoded s)) d))

pub within-plain : (room : ℕ) (s r : List ℕ) → length s ≤ room → (t : Bool) → t ≡ list_any (λ y. eqb y 37) s → t ≡ false → r ≡ s → r ≡ decoded_within room s
unfolding decoded_within
within-plain room s r l t any h e = e ∙ rw (le-leb _ _ l) (sym (decoded-plain s (sym any ∙ h)))

-- ---- what a caller reads: the bytes that came stand at the buffer's start
pub decoded-length : (s : List ℕ) → length (decoded s) ≤ length s
unfolding decoded
decoded-length [] = omega arith
decoded-length (b ∷ []) = omega arith
decoded-length (b ∷ (h ∷ [])) = omega arith
decoded-length (b ∷ (h ∷ (l ∷ s))) =
    cond-elim (λ (xs : List ℕ). length xs ≤ suc (suc (suc (length s)))) (eqb b 37) ((hex_value h * 16 + hex_value l) ∷ decoded s) (b ∷ decoded (h ∷ (l ∷ s)))
    (λ _. omega (arith, decoded-length s)) (λ _. omega (arith, decoded-length (h ∷ (l ∷ s))))

module _ (d s : List ℕ) where
  pub count_most : decoded_count d s ≤ length d
  unfolding decoded_count
  count_most =
      cond-elim (λ (n : ℕ). n ≤ length d) (leb (length s) (length d)) (length (decoded s)) 0
      (λ e. omega (arith, decoded-length s, leb-true (length s) (length d) e)) (λ _. omega arith)

  pub decoded-here : length s ≤ length d → take (decoded_count d s) (decoded_into d s) ≡ decoded s
  unfolding decoded_count decoded_into
  decoded-here h = rw (le-leb _ _ h) (take-append_seam (decoded s) (drop (0 + length (decoded s)) d))

  pub into-length : length (decoded_into d s) ≡ length d
  unfolding decoded_into
  into-length =
      cond-elim (λ (xs : List ℕ). length xs ≡ length d) (leb (length s) (length d)) (over d 0 (decoded s)) d
      (λ e. let l : length (decoded s) ≤ length d = omega (arith, decoded-length s, leb-true (length s) (length d) e) in simp (length-append, length-drop) (omega arith))
      (λ _. refl)
