-- Laws of amounts, at each way out of their readers and writers.
use Rattle.std.specs.Prelude.{Option, Some, None}
use Prim.Native.Nat.{ℕ, ◌+◌, ◌-◌, ◌*◌, ◌/◌, ◌%◌, ◌^◌, ◌≤◌, ◌<◌}
use native.Mathlib.Omega.{arith}
use native.Mathlib.Nat.{le_refl}
use mathlib.Core.Path.{◌≡◌, refl, sym, ◌∙◌}
use mathlib.Core.List.{List, [], ◌∷◌, ◌++◌}
use mathlib.Core.Bool.{Bool, true, false, cond}
use mir.Syntax.{w64}
use mir.Val.{Fits}
use lib.Dec.{eqb}
use lib.ListN.{length, take, drop, length-drop, length-append, drop_of_length-le}
use lib.Seq.{take_all, length-take-le, take-append_seam, drop-append_seam}
use borrow.Author.Tests.{eq-eqb, ne_eqb, eqb-true, eqb-false, le-leb}
use Rattle.texts.specs.Lists.{every, find, written, cursor_after}
use Rattle.texts.specs.Digits.{is_digit, digits_read, fixed, lead_zeros, decimal}
use Rattle.fields.specs.Amount.{is_amount, tenfold, kopecks_after, kopecks_from, amount_of, amount_read, amount_bytes}
use Rattle.texts.proofs.ListLaws.{drop-next, every_append, every-weaker}
use Rattle.texts.proofs.OutLaws.{cursor-stays, buffer-stays, cursor-then, written_then}
use Rattle.texts.proofs.ScanLaws.{find-le}
use Rattle.texts.proofs.DigitLaws.{digits-held, digits-below, within-high}
use Rattle.texts.proofs.DecimalLaws.{size-le, skip-le, part-decimal, decimal-size, digits-again, fixed-again, fixed-length, fixed-digits, decimal-digits, decimal-most, find-point}

module _ (f : List ℕ) (r : Option ℕ) (read : r ≡ digits_read 2 f) where
  pub one-digit : (v : ℕ) → r ≡ Some v → length f ≡ 1 → Some (v * 10) ≡ kopecks_after f
  unfolding kopecks_after
  one-digit v e l = rw (eq-eqb _ _ l, ← read, e)

  pub two-digits : (v : ℕ) → r ≡ Some v → (length f ≡ 1 → ⊥) → Some v ≡ kopecks_after f
  unfolding kopecks_after
  two-digits v e l = rw (ne_eqb _ _ l, ← read, e)

  pub no-digits : r ≡ None → None ≡ kopecks_after f
  unfolding kopecks_after
  no-digits e = rw (← read, e)

  pub ten-fits : (v : ℕ) → r ≡ Some v → Fits w64 (v * 10)
  ten-fits v e = let b : v < 10 ^ 2 = digits-below 2 f v (sym e ∙ read) in omega arith

-- ---- what stands from the point on
tenfold-below : (d : Option ℕ) (t : Bool) (v : ℕ) → ((x : ℕ) → Some x ≡ d → x < 10 ^ 2) → ((x : ℕ) → Some x ≡ d → t ≡ true → x < 10) → Some v ≡ tenfold d t → v < 100
tenfold-below None t v h g e = let z : ◌≡◌ {A = ℕ} 0 1 = cc in absurd (omega arith)
tenfold-below (Some x) true v h g e = let q : v ≡ x * 10 = cc in omega (arith, g x refl refl)
tenfold-below (Some x) false v h g e = let q : v ≡ x = cc in omega (arith, h x refl)

one_below : (f : List ℕ) (x : ℕ) → Some x ≡ digits_read 2 f → eqb (length f) 1 ≡ true → x < 10
one_below f x e t =
    let l : length f ≡ 1 = eqb-true (length f) 1 t in
    let h : x < 10 ^ length f = (digits-held 2 f x e).below in
    rw l at h

from-below : (t : List ℕ) (v : ℕ) → Some v ≡ kopecks_from t → v < 100
unfolding kopecks_after
from-below [] v e = let q : v ≡ 0 = cc in omega arith
from-below (p ∷ f) v e = tenfold-below (digits_read 2 f) (eqb (length f) 1) v (λ x. digits-below 2 f x) (λ x. one_below f x) e

module _ (s : List ℕ) (p : ℕ) where
  pub from_end : length s ≤ p → Some 0 ≡ kopecks_from (drop p s)
  from_end h = rw (drop_of_length-le s h)

  pub from-point : p < length s → (r : Option ℕ) → r ≡ kopecks_after (take (length s - (p + 1)) (drop (p + 1) s)) → r ≡ kopecks_from (drop p s)
  from-point h r e = e ∙ rw (drop-next s p h, take_all (length s - (p + 1)) (drop (p + 1) s) (rw length-drop (le_refl _)))

-- ---- an amount, from the place p of its point
module _ (s : List ℕ) (p : ℕ) (at : p ≡ find 46 s) where
  pub before-size : p ≡ length (take p s)
  before-size = sym (length-take-le p s (rw at (find-le 46 s)))

  module _ (w : Option ℕ) (whole : w ≡ digits_read 7 (take p s)) where
    pub amount-none : w ≡ None → None ≡ amount_read s
    unfolding amount_read
    amount-none e = rw (← at, ← whole, e)

    module _ (a : ℕ) (we : w ≡ Some a) where
      pub whole-fits : Fits w64 (a * 100)
      whole-fits = let h : a < 10 ^ 7 = digits-below 7 (take p s) a (sym we ∙ whole) in omega arith

      module _ (k : Option ℕ) (part : k ≡ kopecks_from (drop p s)) where
        pub amount-part : k ≡ None → None ≡ amount_read s
        unfolding amount_read
        amount-part e = rw (← at, ← whole, we, ← part, e)

        module _ (b : ℕ) (ke : k ≡ Some b) where
          pub sum_fits : Fits w64 (a * 100 + b)
          sum_fits =
              let h : a < 10 ^ 7 = digits-below 7 (take p s) a (sym we ∙ whole) in
              let g : b < 100 = from-below (drop p s) b (sym ke ∙ part) in
              omega arith

          pub amount-zero : a * 100 + b ≡ 0 → None ≡ amount_read s
          unfolding amount_read
          amount-zero z = rw (← at, ← whole, we, ← part, ke, eq-eqb _ _ z)

          pub amount-good : (a * 100 + b ≡ 0 → ⊥) → Some (a * 100 + b) ≡ amount_read s
          unfolding amount_read
          amount-good z = rw (← at, ← whole, we, ← part, ke, ne_eqb _ _ z)

-- ---- an amount written after the part of the twenty digits from z on
abbrev pub low_of : ℕ → List ℕ
low_of c = 46 ∷ ((48 + c / 10 % 10) ∷ ((48 + c % 10) ∷ []))

module _ (k z : ℕ) (a : List ℕ) (ea : a ≡ fixed 20 (k / 100)) (ez : z ≡ lead_zeros a) where
  bytes-are : amount_bytes k ≡ decimal (k / 100) ++ low_of (k % 100)
  unfolding amount_bytes fixed
  bytes-are = refl

  size : length (amount_bytes k) ≡ 23 - z
  size = rw (bytes-are, length-append) (omega (arith, skip-le (k / 100) z a ea ez, decimal-size (k / 100) z a ea ez))

  pub skip-low : z ≤ 23
  skip-low = omega (arith, skip-le (k / 100) z a ea ez)

  pub whole-size : 20 ≤ length a
  whole-size = size-le (k / 100) z a ea ez

  pub skip_all : z ≤ 20
  skip_all = skip-le (k / 100) z a ea ez

  module _ (d : List ℕ) (at : ℕ) where
    pub amount-past : length d < at → at ≡ cursor_after d at (amount_bytes k)
    amount-past h = cursor-stays d at (amount_bytes k) (omega arith)

    pub amount-past-kept : (e : List ℕ) → e ≡ d → length d < at → e ≡ written d at (amount_bytes k)
    amount-past-kept e q h = q ∙ buffer-stays d at (amount_bytes k) (omega arith)

    module _ (fit : at ≤ length d) where
      pub amount-no-room : length d - at < 23 - z → at ≡ cursor_after d at (amount_bytes k)
      amount-no-room h = cursor-stays d at (amount_bytes k) (omega (arith, size))

      pub amount-none-kept : (e : List ℕ) → e ≡ d → length d - at < 23 - z → e ≡ written d at (amount_bytes k)
      amount-none-kept e q h = q ∙ buffer-stays d at (amount_bytes k) (omega (arith, size))

      module _ (h : 23 - z ≤ length d - at) (p : ℕ) (pe : p ≡ cursor_after d at (take (20 - z) (drop z a))) (e₁ : List ℕ) (q₁ : e₁ ≡ written d at (take (20 - z) (drop z a))) where
        both-fit : at + (length (decimal (k / 100)) + length (low_of (k % 100))) ≤ length d
        both-fit = omega (arith, decimal-size (k / 100) z a ea ez, skip_all)

        pub amount-to : (r : ℕ) → r ≡ cursor_after e₁ p (low_of (k % 100)) → r ≡ cursor_after d at (amount_bytes k)
        amount-to r q = q ∙ rw (pe, q₁, part-decimal (k / 100) z a ea ez, bytes-are) (cursor-then d at (decimal (k / 100)) (low_of (k % 100)) both-fit)

        pub amount-kept : (e : List ℕ) → e ≡ written e₁ p (low_of (k % 100)) → e ≡ written d at (amount_bytes k)
        amount-kept e q = q ∙ rw (pe, q₁, part-decimal (k / 100) z a ea ez, bytes-are) (written_then d at (decimal (k / 100)) (low_of (k % 100)) both-fit)

-- every amount is read back from what is written
pub amount-again : (k : ℕ) → 0 < k → k < 10 ^ 9 → amount_read (amount_bytes k) ≡ Some k
unfolding amount_read amount_bytes kopecks_after
amount-again k p h =
    let w : List ℕ = decimal (k / 100) in
    let f : List ℕ = fixed 2 (k % 100) in
    let i : find 46 (w ++ (46 ∷ f)) ≡ length w = find-point w f (decimal-digits (k / 100)) in
    let a : digits_read 7 w ≡ Some (k / 100) = digits-again 7 (k / 100) (omega arith) (omega arith) (omega arith) in
    let b : digits_read 2 f ≡ Some (k % 100) = fixed-again 2 (k % 100) (omega arith) (omega arith) (omega arith) in
    let s : k / 100 * 100 + k % 100 ≡ k = omega arith in
    simp (i, take-append_seam, drop-append_seam, a, b, fixed-length 2 (k % 100), s, ne_eqb k 0 (omega arith))

-- what is read is an amount
amount-parts : (w f : Option ℕ) (k : ℕ) → ((a : ℕ) → Some a ≡ w → a < 10 ^ 7) → ((b : ℕ) → Some b ≡ f → b < 100) → Some k ≡ amount_of w f → is_amount k ≡ true
amount-parts None f k h g e = let z : ◌≡◌ {A = ℕ} 0 1 = cc in absurd (omega arith)
amount-parts (Some w) None k h g e = let z : ◌≡◌ {A = ℕ} 0 1 = cc in absurd (omega arith)
amount-parts (Some w) (Some v) k h g e = go (eqb (w * 100 + v) 0) refl e
  where
    go : (t : Bool) → eqb (w * 100 + v) 0 ≡ t → Some k ≡ cond t None (Some (w * 100 + v)) → is_amount k ≡ true
    go true n q = let z : ◌≡◌ {A = ℕ} 0 1 = cc in absurd (omega arith)
    go false n q =
        let i : k ≡ w * 100 + v = cc in
        let p : (w * 100 + v ≡ 0 → ⊥) = eqb-false (w * 100 + v) 0 n in
        let low : 1 ≤ k = omega arith in
        let high : k ≤ 999999999 = omega (arith, h w refl, g v refl) in
        simp (le-leb 1 k low, le-leb k 999999999 high)

pub amount-within : (s : List ℕ) (k : ℕ) → Some k ≡ amount_read s → is_amount k ≡ true
unfolding amount_read
amount-within s k e =
    amount-parts (digits_read 7 (take (find 46 s) s)) (kopecks_from (drop (find 46 s) s)) k
    (λ a. digits-below 7 (take (find 46 s) s) a)
    (λ b. from-below (drop (find 46 s) s) b)
    e

-- at most ten bytes
pub amount-length : (k : ℕ) → is_amount k ≡ true → length (amount_bytes k) ≤ 10
unfolding amount_bytes
amount-length k w =
    let h : k ≤ 999999999 = within-high 1 999999999 k w in
    let l : length (decimal (k / 100)) ≤ 7 = decimal-most 7 (k / 100) (omega arith) (omega arith) (omega arith) in
    rw length-append (omega (arith, fixed-length 2 (k % 100)))

-- digits, and the point among them
pub amount-bytes : (p : ℕ → Bool) (k : ℕ) → ((b : ℕ) → is_digit b ≡ true → p b ≡ true) → p 46 ≡ true → every p (amount_bytes k) ≡ true
unfolding amount_bytes every
amount-bytes p k f m =
    rw every_append
    (simp (every-weaker is_digit p (decimal (k / 100)) f (decimal-digits (k / 100)), m, every-weaker is_digit p (fixed 2 (k % 100)) f (fixed-digits 2 (k % 100))))

pub ruleset kopecks_laws = (ten-fits, one-digit, two-digits, no-digits)

pub ruleset point_laws = (from-point, from_end)

pub ruleset read_laws = (before-size, amount-none, amount-part, whole-fits, sum_fits, amount-zero, amount-good)

pub ruleset write_laws = (whole-size, skip-low, skip_all, amount-past, amount-past-kept, amount-no-room, amount-none-kept, amount-to, amount-kept)
