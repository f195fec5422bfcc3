-- What is coded decodes to itself, and holds no separator.
use Prim.Native.Nat.{ℕ, zero, suc, ◌+◌, ◌*◌, ◌/◌, ◌%◌, ◌≤◌, ◌<◌}
use native.Mathlib.Nat.{not-suc-le-zero}
use native.Mathlib.Omega.{arith}
use mathlib.Core.Path.{◌≡◌, refl, sym, ap, ◌∙◌}
use mathlib.Core.List.{List, [], ◌∷◌, ◌++◌, append_assoc}
use mathlib.Core.Bool.{Bool, true, false, ◌&&◌, or-true}
use lib.Dec.{eqb, leb}
use lib.ListN.{length, length-append}
use borrow.Author.Tests.{ne_eqb, eqb-true, ltb-true, leb-true, leb-false}
use Rattle.texts.specs.Digits.{is_digit, within}
use Rattle.texts.specs.Lists.{every, find}
use Rattle.texts.proofs.Tests.{and_left, and_right, cond-elim, cond-le}
use Rattle.texts.proofs.ListLaws.{every_append}
use Rattle.texts.proofs.DigitLaws.{within_low, within-high}
use Rattle.coding.specs.Url.{is_hex, hex_value, well_coded, decoded, is_plain, hex_digit, coded_byte, coded, is_byte}
use Rattle.coding.specs.Units.{is_code, code_size}
use Rattle.texts.proofs.RangeLaws.{inside}
use Rattle.texts.proofs.FindLaws.{tests-differ, find_absent, find-append}
use Rattle.coding.proofs.UnitLaws.{decoded-unit, well-unit, unit-other}
use Rattle.coding.proofs.WriteLaws.{code-length}

-- ---- plain bytes
-- `-`, `.`, `:` and T stand for themselves
pub plain-marks : (is_plain 45 ≡ true) × (is_plain 46 ≡ true) × (is_plain 58 ≡ true) × (is_plain 84 ≡ true)
unfolding is_plain
plain-marks = (refl, refl, refl, refl)

-- `&`, `=` and `%` do not
pub coded-marks : (is_plain 38 ≡ false) × (is_plain 61 ≡ false) × (is_plain 37 ≡ false)
unfolding is_plain
coded-marks = (refl, refl, refl)

module _ (b : ℕ) where
  pub capital-plain : within 65 90 b ≡ true → is_plain b ≡ true
  unfolding is_plain
  capital-plain h = rw h

  pub small_plain : within 97 122 b ≡ true → is_plain b ≡ true
  unfolding is_plain
  small_plain h = simp (h, or-true)

  pub digit-plain : is_digit b ≡ true → is_plain b ≡ true
  unfolding is_plain
  digit-plain h = simp (sym (inside 48 58 b (within_low 48 57 b h) (omega (arith, within-high 48 57 b h))), or-true)

  -- so a byte that is not plain differs from every plain one
  pub plain-differs : (c : ℕ) → is_plain b ≡ true → is_plain c ≡ false → b ≡ c → ⊥
  plain-differs c p q e = tests-differ (is_plain b) (is_plain c) p q (ap is_plain e)

-- ---- the sixteen digits: a test that computes over all of them, and the rule at each
all_below : (ℕ → Bool) → ℕ → Bool
all_below p zero = true
all_below p (suc n) = p n && all_below p n

at_each : (p : ℕ → Bool) (n v : ℕ) → all_below p n ≡ true → v < n → p v ≡ true
unfolding all_below
at_each p zero v h l = absurd (not-suc-le-zero l)
at_each p (suc n) v h l = go (leb n v) refl (at_each p n v (and_right (p n) (all_below p n) h))
  where
    go : (t : Bool) → leb n v ≡ t → (v < n → p v ≡ true) → p v ≡ true
    go true e below = let q : v ≡ n = omega (arith, leb-true n v e) in rw q (and_left (p n) (all_below p n) h)
    go false e below = below (leb-false n v e)

digit_right : ℕ → Bool
digit_right v = is_plain (hex_digit v) && (is_hex (hex_digit v) && eqb (hex_value (hex_digit v)) v)

digits-right : all_below digit_right 16 ≡ true
unfolding all_below digit_right is_plain is_hex hex_value
digits-right = refl

module _ (v : ℕ) (h : v < 16) where
  right : is_plain (hex_digit v) && (is_hex (hex_digit v) && eqb (hex_value (hex_digit v)) v) ≡ true
  unfolding digit_right
  right = at_each digit_right 16 v digits-right h

  digit-is-plain : is_plain (hex_digit v) ≡ true
  digit-is-plain = and_left (is_plain (hex_digit v)) (is_hex (hex_digit v) && eqb (hex_value (hex_digit v)) v) right

  hex-right : is_hex (hex_digit v) && eqb (hex_value (hex_digit v)) v ≡ true
  hex-right = and_right (is_plain (hex_digit v)) (is_hex (hex_digit v) && eqb (hex_value (hex_digit v)) v) right

  digit-is-hex : is_hex (hex_digit v) ≡ true
  digit-is-hex = and_left (is_hex (hex_digit v)) (eqb (hex_value (hex_digit v)) v) hex-right

  digit_value : hex_value (hex_digit v) ≡ v
  digit_value = eqb-true (hex_value (hex_digit v)) v (and_right (is_hex (hex_digit v)) (eqb (hex_value (hex_digit v)) v) hex-right)

-- ---- the code of one byte
pub decoded-other : (b : ℕ) (t : List ℕ) → (b ≡ 37 → ⊥) → decoded (b ∷ t) ≡ b ∷ decoded t
decoded-other b t n = decoded-unit (b ∷ t) (omega arith) ∙ rw (unit-other b t n)

pub well-other : (b : ℕ) (t : List ℕ) → (b ≡ 37 → ⊥) → well_coded (b ∷ t) ≡ well_coded t
well-other b t n = well-unit (b ∷ t) (omega arith) ∙ rw (unit-other b t n, ne_eqb _ _ n)

module _ (b : ℕ) (byte : is_byte b ≡ true) where
  high : b / 16 < 16
  high = let k : b < 256 = ltb-true b 256 byte in omega arith

  low : b % 16 < 16
  low = omega arith

  halves : b / 16 * 16 + b % 16 ≡ b
  halves = omega arith

  -- what holds of a plain byte and of an escape holds of the code
  code-elim : (P : List ℕ → Type 0) → (is_plain b ≡ true → P (b ∷ [])) → P (37 ∷ (hex_digit (b / 16) ∷ (hex_digit (b % 16) ∷ []))) → P (coded_byte b)
  unfolding coded_byte
  code-elim P f x = cond-elim P (is_plain b) (b ∷ []) (37 ∷ (hex_digit (b / 16) ∷ (hex_digit (b % 16) ∷ []))) f (λ _. x)

  pub decoded-code : (t : List ℕ) → decoded (coded_byte b ++ t) ≡ b ∷ decoded t
  decoded-code t =
      code-elim (λ (xs : List ℕ). decoded (xs ++ t) ≡ b ∷ decoded t) (λ p. decoded-other b t (plain-differs b 37 p coded-marks.2))
      (unfold decoded in rw (digit_value (b / 16) high, digit_value (b % 16) low, halves))

  pub well-code : (t : List ℕ) → well_coded (coded_byte b ++ t) ≡ well_coded t
  well-code t =
      code-elim (λ (xs : List ℕ). well_coded (xs ++ t) ≡ well_coded t) (λ p. well-other b t (plain-differs b 37 p coded-marks.2))
      (unfold well_coded in rw (digit-is-hex (b / 16) high, digit-is-hex (b % 16) low))

  pub code-codes : every is_code (coded_byte b) ≡ true
  code-codes =
      code-elim (λ (xs : List ℕ). every is_code xs ≡ true) (λ p. unfold every in unfold is_code in rw p)
      (unfold every in unfold is_code in rw (digit-is-plain (b / 16) high, digit-is-plain (b % 16) low, coded-marks.2))

-- ---- coded text
pub decode-coded : (s : List ℕ) → every is_byte s ≡ true → decoded (coded s) ≡ s
unfolding coded every
decode-coded [] h = unfold decoded in refl
decode-coded (b ∷ s) h =
    decoded-code b (and_left (is_byte b) (every is_byte s) h) (coded s) ∙ ap (λ (t : List ℕ). b ∷ t) (decode-coded s (and_right (is_byte b) (every is_byte s) h))

pub coded-well : (s : List ℕ) → every is_byte s ≡ true → well_coded (coded s) ≡ true
unfolding coded every
coded-well [] h = unfold well_coded in refl
coded-well (b ∷ s) h = well-code b (and_left (is_byte b) (every is_byte s) h) (coded s) ∙ coded-well s (and_right (is_byte b) (every is_byte s) h)

pub coded-codes : (s : List ℕ) → every is_byte s ≡ true → every is_code (coded s) ≡ true
unfolding coded every
coded-codes [] h = refl
coded-codes (b ∷ s) h =
    every_append is_code (coded_byte b) (coded s)
    ∙ rw (code-codes b (and_left (is_byte b) (every is_byte s) h), coded-codes s (and_right (is_byte b) (every is_byte s) h))

pub coded-plain : (s : List ℕ) → every is_plain s ≡ true → coded s ≡ s
unfolding coded every coded_byte
coded-plain [] h = refl
coded-plain (b ∷ s) h = rw (and_left (is_plain b) (every is_plain s) h, coded-plain s (and_right (is_plain b) (every is_plain s) h))

pub coded-append : (s t : List ℕ) → coded (s ++ t) ≡ coded s ++ coded t
unfolding coded
coded-append [] t = refl
coded-append (b ∷ s) t = rw (coded-append s t) (sym (append_assoc (coded_byte b) (coded s) (coded t)))

pub coded-length : (s : List ℕ) → length (coded s) ≤ 3 * length s
unfolding coded
coded-length [] = omega arith
coded-length (b ∷ s) =
    let one : code_size b ≤ 3 = cond-le (is_plain b) (omega arith) (omega arith) in
    rw (length-append, code-length) (omega (arith, coded-length s))

-- ---- no separator stands in coded text
pub coded-find : (c : ℕ) (s : List ℕ) → is_plain c ≡ false → (c ≡ 37 → ⊥) → every is_byte s ≡ true → find c (coded s) ≡ length (coded s)
coded-find c s p n h = find_absent is_code c (coded s) (unfold is_code in rw (p, ne_eqb _ _ n)) (coded-codes s h)

pub coded-find-then : (c : ℕ) (s ys : List ℕ) → is_plain c ≡ false → (c ≡ 37 → ⊥) → every is_byte s ≡ true → find c (coded s ++ ys) ≡ length (coded s) + find c ys
coded-find-then c s ys p n h = find-append c (coded s) ys (coded-find c s p n h)
