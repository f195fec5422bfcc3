-- Laws of digit fields, over every width.
use Rattle.std.specs.Prelude.{Option, Some, None}
use Prim.Native.Nat.{ℕ, zero, suc, ◌+◌, ◌-◌, ◌*◌, ◌^◌, ◌/◌, ◌%◌, ◌≤◌, ◌<◌}
use native.Mathlib.Nat.{le_refl, le_trans, not-suc-le-zero, le_of_suc-le-suc, pow-suc, pow-le-pow_right, mul-le-mul_right}
use native.Mathlib.Numerals.{sub-one}
use native.Mathlib.Omega.{arith}
use mathlib.Core.Path.{◌≡◌, refl, sym, ap, ◌∙◌}
use mathlib.Core.List.{List, [], ◌∷◌, ◌++◌, append_assoc}
use mathlib.Core.Bool.{Bool, true, false, cond, ◌&&◌, and-false}
use lib.ListN.{length, get_or, set, drop, drop_of_length-le, length-drop}
use lib.Dec.{leb, ltb, lit<}
use borrow.Author.Tests.{le-leb, lt-leb, lt-ltb, le-ltb, eq-eqb, ne_eqb, leb-true, ltb-true, ltb-false}
use Rattle.texts.specs.Lists.{every}
use Rattle.texts.specs.Digits.{is_digit, value_after, digits_read, within, bounded, range_read, lead_zeros, fixed}
use Rattle.texts.proofs.Tests.{and_left, and_right}
use Rattle.texts.proofs.ListLaws.{drop-next, drop-stored, every-step, every-fails, every-all}

-- the value only grows
pub value_grows : (a : ℕ) (s : List ℕ) → a ≤ value_after a s
value_grows a [] = le_refl a
value_grows a (b ∷ s) = le_trans (omega arith) (value_grows (a * 10 + (b - 48)) s)

-- ---- one digit more
module _ (v d : ℕ) where
  pub more-below : (t : Bool) → t ≡ ltb (v * 10 + d) (2 ^ 64) → t ≡ true → v * 10 + d < 2 ^ 64
  more-below t e h = ltb-true _ _ (sym e ∙ h)

-- ---- digits_read, at each way out of a reader. A reader at i with `every is_digit s ≡ every is_digit (drop i s)` has passed digits only.
module _ (most : ℕ) (s : List ℕ) where
  pub read-empty : length s ≡ 0 → None ≡ digits_read most s
  unfolding digits_read
  read-empty e = rw e

  pub read-long : most < length s → None ≡ digits_read most s
  unfolding digits_read
  read-long h = simp (lt-leb _ _ h, and-false)

  read-bad : every is_digit s ≡ false → None ≡ digits_read most s
  unfolding digits_read
  read-bad e = simp (e, and-false)

  pub read-big : 2 ^ 64 ≤ value_after 0 s → None ≡ digits_read most s
  unfolding digits_read
  read-big h = simp (le-ltb _ _ h, and-false)

  module _ (i : ℕ) (passed : every is_digit s ≡ every is_digit (drop i s)) (h : i < length s) (t : Bool) (e : t ≡ is_digit (get_or s i 0)) where
    pub read-other : t ≡ false → None ≡ digits_read most s
    read-other n = read-bad (every-fails is_digit s i passed h (sym e ∙ n))

    pub pass-digit : t ≡ true → every is_digit s ≡ every is_digit (drop (i + 1) s)
    pass-digit y = every-step is_digit s i passed h (sym e ∙ y)

  module _ (i v : ℕ) (passed : value_after 0 s ≡ value_after v (drop i s)) (h : i < length s) (d : ℕ) (ed : d ≡ get_or s i 0 - 48) where
    pub pass-value : value_after 0 s ≡ value_after (v * 10 + d) (drop (i + 1) s)
    pass-value = passed ∙ simp (drop-next s i h, ed)

    pub read-over : (t : Bool) → t ≡ ltb (v * 10 + d) (2 ^ 64) → t ≡ false → None ≡ digits_read most s
    read-over t e n =
        let g : v * 10 + d ≤ value_after 0 s = rw pass-value (value_grows (v * 10 + d) (drop (i + 1) s)) in
        let l : 2 ^ 64 ≤ v * 10 + d = ltb-false _ _ (sym e ∙ n) in
        read-big (omega arith)

  pub read-value : (i v : ℕ) → every is_digit s ≡ every is_digit (drop i s) → value_after 0 s ≡ value_after v (drop i s)
      → length s ≤ i → v < 2 ^ 64 → (length s ≡ 0 → ⊥) → length s ≤ most → Some v ≡ digits_read most s
  unfolding digits_read
  read-value i v d e l f n m =
      let w : value_after 0 s ≡ v = e ∙ simp (drop_of_length-le s l) in
      let a : every is_digit s ≡ true = every-all is_digit s i d l in
      let g : 1 ≤ length s = omega arith in
      simp (w, a, le-leb _ _ g, le-leb _ _ m, lt-ltb _ _ f)

-- ---- leading zeros
lead-short : (t : List ℕ) → length t ≤ 1 → lead_zeros t ≡ 0
lead-short [] h = refl
lead-short (x ∷ []) h = refl
lead-short (x ∷ (y ∷ t)) h = absurd (not-suc-le-zero (le_of_suc-le-suc h))

lead_zero : (x : ℕ) (t : List ℕ) → x ≡ 48 → 0 < length t → lead_zeros (x ∷ t) ≡ suc (lead_zeros t)
lead_zero x [] e h = absurd (not-suc-le-zero h)
lead_zero x (y ∷ t) e h = simp (eq-eqb _ _ e)

lead-other : (x : ℕ) (t : List ℕ) → (x ≡ 48 → ⊥) → lead_zeros (x ∷ t) ≡ 0
lead-other x [] n = refl
lead-other x (y ∷ t) n = simp (ne_eqb _ _ n)

lead-behind : (k : ℕ) (t : List ℕ) → 0 < length t → lead_zeros (fixed k 0 ++ t) ≡ k + lead_zeros t
unfolding fixed
lead-behind zero t h = omega arith
lead-behind (suc k) t h =
    ap lead_zeros (append_assoc (fixed k 0) (48 ∷ []) t) ∙ lead-behind k (48 ∷ t) (omega arith) ∙ ap (λ (z : ℕ). k + z) (lead_zero 48 t refl h) ∙ omega arith

-- the digits from i on are made, the first of them no zero, or the last of all
pub made-zeros : (w i m : ℕ) (a : List ℕ) → length a ≡ w → i < w → a ≡ fixed i 0 ++ drop i a → m ≡ 0 → (i + 1 < w → 0 < m * 10 + (get_or a i 0 - 48)) → i ≡ lead_zeros a
made-zeros w i m a size h e z some =
    let l : 0 < length (drop i a) = simp length-drop (omega arith) in
    let p : lead_zeros a ≡ i + lead_zeros (drop i a) = ap lead_zeros e ∙ lead-behind i (drop i a) l in
    let q : lead_zeros (drop i a) ≡ 0 = go (ltb (i + 1) w) refl in
    omega arith
  where
    go : (b : Bool) → ltb (i + 1) w ≡ b → lead_zeros (drop i a) ≡ 0
    go true b =
        let n : (get_or a i 0 ≡ 48 → ⊥) = λ y. omega (arith, some (ltb-true (i + 1) w b)) in
        rw (drop-next a i (omega arith)) (lead-other (get_or a i 0) (drop (i + 1) a) n)
    go false b = lead-short (drop i a) (simp length-drop (omega (arith, ltb-false (i + 1) w b)))

-- ---- the digits of a number, over the width w
module _ (w n m : ℕ) (a : List ℕ) (size : length a ≡ w) where
  pub fixed-step : (i : ℕ) → 0 < i → i ≤ w → fixed w n ≡ fixed i m ++ drop i a
      → fixed w n ≡ fixed (i - 1) (m / 10) ++ drop (i - 1) (set a (i - 1) (48 + m % 10))
  unfolding fixed
  fixed-step zero p h e = absurd (not-suc-le-zero p)
  fixed-step (suc j) p h e = e ∙ simp (sub-one, drop-stored a j (48 + m % 10) (omega arith), append_assoc)

  pub fixed-done : (i : ℕ) → i ≤ 0 → fixed w n ≡ fixed i m ++ drop i a → a ≡ fixed w n
  unfolding fixed
  fixed-done zero p e = sym e
  fixed-done (suc j) p e = absurd (not-suc-le-zero p)

-- ---- what a field of k digits can hold
value-most : (v : ℕ) (s : List ℕ) → every is_digit s ≡ true → value_after v s < (v + 1) * 10 ^ length s
unfolding every
value-most v [] h = omega arith
value-most v (b ∷ s) h =
    let d : b ≤ 57 = leb-true b 57 (and_right (leb 48 b) (leb b 57) (and_left (is_digit b) (every is_digit s) h)) in
    let m : (v * 10 + (b - 48) + 1) * 10 ^ length s ≤ ((v + 1) * 10) * 10 ^ length s = mul-le-mul_right (10 ^ length s) (omega arith) in
    rw pow-suc (omega (arith, m, value-most (v * 10 + (b - 48)) s (and_right (is_digit b) (every is_digit s) h)))

cond_value : (t : Bool) (x v : ℕ) → cond t (Some x) None ≡ Some v → (t ≡ true) × (x ≡ v)
cond_value true x v e = (refl, cc)
cond_value false x v e = let z : ◌≡◌ {A = ℕ} 0 1 = cc in absurd (omega arith)

-- what is known of a field that was read
pub record Held (k : ℕ) (s : List ℕ) (v : ℕ) : Type 0 where
  pub some : 1 ≤ length s
  pub most : length s ≤ k
  pub digits : every is_digit s ≡ true
  pub value : value_after 0 s ≡ v
  pub below : v < 10 ^ length s

pub digits-held : (k : ℕ) (s : List ℕ) (v : ℕ) → Some v ≡ digits_read k s → Held k s v
unfolding digits_read
digits-held k s v e =
    let fit : Bool = every is_digit s && ltb (value_after 0 s) (2 ^ 64) in
    let p = cond_value (leb 1 (length s) && (leb (length s) k && fit)) (value_after 0 s) v (sym e) in
    let q = and_right (leb 1 (length s)) (leb (length s) k && fit) p.0 in
    let d : every is_digit s ≡ true = and_left (every is_digit s) (ltb (value_after 0 s) (2 ^ 64)) (and_right (leb (length s) k) fit q) in
    record {
      some = leb-true 1 (length s) (and_left (leb 1 (length s)) (leb (length s) k && fit) p.0);
      most = leb-true (length s) k (and_left (leb (length s) k) fit q);
      digits = d;
      value = p.1;
      below = omega (arith, value-most 0 s d, p.1);
    }

-- a field of k digits holds less than 10 ^ k
pub digits-below : (k : ℕ) (s : List ℕ) (v : ℕ) → Some v ≡ digits_read k s → v < 10 ^ k
digits-below k s v e =
    let h : Held k s v = digits-held k s v e in
    let w : 10 ^ length s ≤ 10 ^ k = pow-le-pow_right (lit< tt) h.most in
    omega (arith, h.below, w)

-- ---- a field with a range
bounded-value : (low high v : ℕ) (d : Option ℕ) → Some v ≡ bounded low high d → (d ≡ Some v) × (within low high v ≡ true)
bounded-value low high v None e = let z : ◌≡◌ {A = ℕ} 0 1 = cc in absurd (omega arith)
bounded-value low high v (Some w) e =
    let p = cond_value (within low high w) w v (sym e) in
    let q : w ≡ v = p.1 in
    (ap Some q, rw (← q) p.0)

-- a value that was read lies in the range
pub range-within : (most low high : ℕ) (s : List ℕ) (v : ℕ) → Some v ≡ range_read most low high s → within low high v ≡ true
unfolding range_read
range-within most low high s v e = (bounded-value low high v (digits_read most s) e).1

pub within_low : (low high v : ℕ) → within low high v ≡ true → low ≤ v
within_low low high v h = leb-true low v (and_left (leb low v) (leb v high) h)

pub within-high : (low high v : ℕ) → within low high v ≡ true → v ≤ high
within-high low high v h = leb-true v high (and_right (leb low v) (leb v high) h)
