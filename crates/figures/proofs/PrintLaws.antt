-- Laws of what a line prints.
use Prim.Native.Nat.{ℕ, suc, ◌+◌, ◌≤◌}
use native.Mathlib.Nat.{not-suc-le-zero, add_assoc}
use native.Mathlib.Omega.{arith}
use mathlib.Core.Path.{◌≡◌, refl, sym, ap, ◌∙◌, subst}
use mathlib.Core.List.{List, [], ◌∷◌, ◌++◌, append_assoc}
use mathlib.Core.Bool.{true, false}
use lib.Dec.{eqb, ltb}
use lib.IntN.{ℤ, pos, negsuc, nat_abs}
use lib.Signed.{mag, lt_z}
use lib.ListN.{length, take, drop, replicate, length-append}
use lib.Seq.{take_at, length-take-le}
use mir.Syntax.{w64}
use mir.Val.{SFits, to_z, of_z}
use borrow.Author.Tests.{eq-eqb, ne_eqb, ltb-true}
use Rattle.texts.specs.Digits.{fixed, lead_zeros, decimal}
use Rattle.texts.specs.Lists.{over, written, cursor_after}
use Rattle.texts.proofs.Tests.{cond-elim, no-claim}
use Rattle.texts.proofs.OutLaws.{over-length, over-over, cursor-moves, written_over}
use Rattle.texts.proofs.DecimalLaws.{decimal-size}
use Rattle.table.specs.declared.Gate.{Gate}
use Rattle.table.specs.Accounts.{accounts_of}
use Rattle.table.proofs.SignedLaws.{back}
use Rattle.figures.specs.Figures.{sum_balances, signed_text, figures, printed}
use Rattle.figures.specs.Sums.{counts_text}
use Rattle.figures.specs.Daily.{sum_text}
use Rattle.figures.specs.Listing.{Put}

-- ---- the sign of a number
before-zero : (a : ℕ) → ltb a 0 ≡ true → ⊥
before-zero a h = not-suc-le-zero (ltb-true a 0 h)

module _ (z : ℤ) (f : SFits w64 z) where
  self : to_z w64 (of_z w64 z) ≡ z
  self = back z f.sfits

  module _ (h : lt_z (to_z w64 (of_z w64 z)) (pos 0) ≡ true) where
    under : lt_z z (pos 0) ≡ true
    under = rw self at h

  module _ (h : lt_z (to_z w64 (of_z w64 z)) (pos 0) ≡ false) where
    over_zero : lt_z z (pos 0) ≡ false
    over_zero = rw self at h

-- ---- a text written as another that it is
module _ (d : List ℕ) (at : ℕ) (xs ys : List ℕ) where
  pub text-cursor : (r : ℕ) → r ≡ cursor_after d at xs → xs ≡ ys → r ≡ cursor_after d at ys
  text-cursor r e q = rw (← q) e

  pub text-written : (e : List ℕ) → e ≡ written d at xs → xs ≡ ys → e ≡ written d at ys
  text-written e p q = rw (← q) p

-- the text that stands before the cursor
first-over : (d : List ℕ) (at : ℕ) (xs : List ℕ) → at + length xs ≤ length d → take (at + length xs) (over d at xs) ≡ take at d ++ xs
first-over d at xs fit =
    let l : length (take at d) ≡ at = length-take-le at d (omega arith) in
    let h : length (take at d ++ xs) ≡ at + length xs = rw (length-append, l) in
    rw (← append_assoc (take at d) xs (drop (at + length xs) d)) (take_at (take at d ++ xs) (drop (at + length xs) d) (at + length xs) h)

first-written : (d : List ℕ) (at : ℕ) (xs : List ℕ) → at + length xs ≤ length d → take (cursor_after d at xs) (written d at xs) ≡ take at d ++ xs
first-written d at xs fit = rw (← cursor-moves d at xs fit, ← written_over d at xs fit) (first-over d at xs fit)

-- a number has at most twenty digits
pub decimal-twenty : (n : ℕ) → length (decimal n) ≤ 20
decimal-twenty n = let e = decimal-size n (lead_zeros (fixed 20 n)) (fixed 20 n) refl refl in omega arith

pub led-text : (lead n k : ℕ) (e f : List ℕ) → f ≡ take k e → k ≡ cursor_after (replicate 24 lead) 1 (decimal n) → e ≡ written (replicate 24 lead) 1 (decimal n) → f ≡ lead ∷ decimal n
led-text lead n k e f ef ek ee = ef ∙ rw (ek, ee) (first-written (replicate 24 lead) 1 (decimal n) (omega (arith, decimal-twenty n)))

-- ---- a number with its sign
below-text : (z : ℤ) → lt_z z (pos 0) ≡ true → 45 ∷ decimal (nat_abs z) ≡ signed_text z
unfolding signed_text
below-text (pos a) h = absurd (before-zero a h)
below-text (negsuc n) h = refl

above-text : (z : ℤ) → lt_z z (pos 0) ≡ false → decimal (nat_abs z) ≡ signed_text z
unfolding signed_text
above-text (pos a) h = refl
above-text (negsuc n) h = no-claim (sym h)

signed-length : (z : ℤ) → length (signed_text z) ≤ 21
unfolding signed_text
signed-length (pos n) = omega (arith, decimal-twenty n)
signed-length (negsuc n) = omega (arith, decimal-twenty (suc n))

module _ (z : ℤ) (f : SFits w64 z) (n : ℕ) (en : n ≡ nat_abs (to_z w64 (of_z w64 z))) where
  pub signed_below : lt_z (to_z w64 (of_z w64 z)) (pos 0) ≡ true → 45 ∷ decimal n ≡ signed_text z
  signed_below h = rw (en, self z f) (below-text z (under z f h))

  pub signed_above : lt_z (to_z w64 (of_z w64 z)) (pos 0) ≡ false → decimal n ≡ signed_text z
  signed_above h = rw (en, self z f) (above-text z (over_zero z f h))

-- ---- texts put one behind the other
pub put_first : {d : List ℕ} {at : ℕ} {xs : List ℕ} → at + length xs ≤ length d → (p : ℕ) (e : List ℕ) → p ≡ cursor_after d at xs → e ≡ written d at xs → Put d at xs p e
put_first {d} {at} {xs} fit p e ep ee = record { fits = fit; cursor = ep ∙ sym (cursor-moves d at xs fit); text = ee ∙ sym (written_over d at xs fit) }

module _ {d : List ℕ} {at : ℕ} {xs : List ℕ} {p : ℕ} {e : List ℕ} (a : Put d at xs p e) where
  pub put-length : length e ≡ length d
  put-length = ap length a.text ∙ over-length d at xs a.fits

  pub put_both : {ys : List ℕ} {q : ℕ} {f : List ℕ} → Put e p ys q f → Put d at (xs ++ ys) q f
  put_both {ys} {q} {f} b =
      record {
        fits = rw (length-append xs ys) (omega (arith, b.fits, a.cursor, put-length));
        cursor = b.cursor ∙ rw (length-append xs ys, a.cursor) (add_assoc at (length xs) (length ys));
        text = b.text ∙ rw (a.text, a.cursor) (over-over d at xs a.fits ys);
      }

  put_then : (ys : List ℕ) → at + (length xs + length ys) ≤ length d → (q : ℕ) (f : List ℕ) → q ≡ cursor_after e p ys → f ≡ written e p ys → Put d at (xs ++ ys) q f
  put_then ys fit q f eq ef = put_both (put_first (omega (arith, a.cursor, put-length)) q f eq ef)

-- at most 64 bytes
figures-length : (code : ℕ) (g : Gate) → length (figures code g) ≤ 64
unfolding figures
figures-length code g =
    simp length-append (omega (arith, decimal-twenty code, decimal-twenty g.used, signed-length (sum_balances (accounts_of g))))

pub printed-length : (code : ℕ) (g : Gate) → length (printed code g) ≤ 64
unfolding printed
printed-length code g =
    cond-elim (λ (x : List ℕ). length x ≤ 64) (eqb code 99) (57 ∷ (57 ∷ (10 ∷ []))) (figures code g) (λ _. omega arith) (λ _. figures-length code g)

-- two numbers, a space between them
module _ (d : List ℕ) (at : ℕ) (fit : at + 64 ≤ length d) (m n : ℕ)
    (p₁ : ℕ) (c₁ : p₁ ≡ cursor_after d at (decimal m)) (e₁ : List ℕ) (t₁ : e₁ ≡ written d at (decimal m))
    (p₂ : ℕ) (c₂ : p₂ ≡ cursor_after e₁ p₁ (32 ∷ decimal n)) (e₂ : List ℕ) (t₂ : e₂ ≡ written e₁ p₁ (32 ∷ decimal n)) where
  two-length : length (decimal m ++ (32 ∷ decimal n)) ≤ 41
  two-length = rw (length-append (decimal m)) (omega (arith, decimal-twenty m, decimal-twenty n))

  two-put : Put d at (decimal m ++ (32 ∷ decimal n)) p₂ e₂
  two-put =
      put_then (put_first (omega (arith, decimal-twenty m)) p₁ e₁ c₁ t₁) (32 ∷ decimal n) (omega (arith, decimal-twenty m, decimal-twenty n)) p₂ e₂ c₂ t₂

  pub counts-put : (q : ℕ) (e : List ℕ) → q ≡ cursor_after e₂ p₂ (32 ∷ []) → e ≡ written e₂ p₂ (32 ∷ []) → Put d at (counts_text m n) q e
  counts-put q e eq ee = put_then two-put (32 ∷ []) (omega (arith, two-length)) q e eq ee

  pub sum-put : (q : ℕ) (e : List ℕ) → q ≡ cursor_after e₂ p₂ (10 ∷ []) → e ≡ written e₂ p₂ (10 ∷ []) → Put d at (sum_text m n) q e
  unfolding sum_text
  sum-put q e eq ee =
      subst (λ (x : List ℕ). Put d at x q e) (append_assoc (decimal m) (32 ∷ decimal n) (10 ∷ []))
      (put_then two-put (10 ∷ []) (omega (arith, two-length)) q e eq ee)

  -- and a third
  module _ (k p₃ : ℕ) (c₃ : p₃ ≡ cursor_after e₂ p₂ (32 ∷ decimal k)) (e₃ : List ℕ) (t₃ : e₃ ≡ written e₂ p₂ (32 ∷ decimal k)) where
    pub three-put : (q : ℕ) (e : List ℕ) → q ≡ cursor_after e₃ p₃ (10 ∷ []) → e ≡ written e₃ p₃ (10 ∷ [])
        → Put d at (decimal m ++ ((32 ∷ decimal n) ++ ((32 ∷ decimal k) ++ (10 ∷ [])))) q e
    three-put q e eq ee =
        let three : Put d at ((decimal m ++ (32 ∷ decimal n)) ++ (32 ∷ decimal k)) p₃ e₃
        = put_then two-put (32 ∷ decimal k) (omega (arith, two-length, decimal-twenty k)) p₃ e₃ c₃ t₃ in
        let most : length ((decimal m ++ (32 ∷ decimal n)) ++ (32 ∷ decimal k)) ≤ 62
        = rw (length-append (decimal m ++ (32 ∷ decimal n))) (omega (arith, two-length, decimal-twenty k)) in
        subst (λ (x : List ℕ). Put d at x q e)
        (append_assoc (decimal m ++ (32 ∷ decimal n)) (32 ∷ decimal k) (10 ∷ []) ∙ append_assoc (decimal m) (32 ∷ decimal n) ((32 ∷ decimal k) ++ (10 ∷ [])))
        (put_then three (10 ∷ []) (omega (arith, most)) q e eq ee)

-- the figures of a line
module _ (d : List ℕ) (fit : 64 ≤ length d) (code : ℕ) (g : Gate) (z : ℤ) (ez : z ≡ sum_balances (accounts_of g)) (near : mag z ≤ 6000000000000000)
    (p₁ : ℕ) (e₁ : List ℕ) (put : Put d 0 (counts_text code g.used) p₁ e₁)
    (p₂ : ℕ) (c₂ : p₂ ≡ cursor_after e₁ p₁ (signed_text (to_z w64 (of_z w64 z)))) (e₂ : List ℕ) (t₂ : e₂ ≡ written e₁ p₁ (signed_text (to_z w64 (of_z w64 z)))) where
  sum-now : to_z w64 (of_z w64 z) ≡ sum_balances (accounts_of g)
  sum-now = back z (omega arith) ∙ ez

  figures-are : (counts_text code g.used ++ signed_text (to_z w64 (of_z w64 z))) ++ (10 ∷ []) ≡ figures code g
  unfolding figures
  figures-are = rw sum-now (simp append_assoc)

  counts-length : length (counts_text code g.used) ≤ 42
  counts-length = rw (length-append, length-append) (omega (arith, decimal-twenty code, decimal-twenty g.used))

  pub figures-put : (q : ℕ) (e : List ℕ) → q ≡ cursor_after e₂ p₂ (10 ∷ []) → e ≡ written e₂ p₂ (10 ∷ []) → Put d 0 (figures code g) q e
  figures-put q e eq ee =
      let y = signed-length (to_z w64 (of_z w64 z)) in
      let most : length (counts_text code g.used ++ signed_text (to_z w64 (of_z w64 z))) ≤ 63
      = rw (length-append (counts_text code g.used)) (omega (arith, counts-length)) in
      subst (λ (x : List ℕ). Put d 0 x q e) figures-are
      (put_then (put_then put (signed_text (to_z w64 (of_z w64 z))) (omega (arith, counts-length)) p₂ e₂ c₂ t₂) (10 ∷ []) (omega (arith, most)) q e eq ee)

-- ---- what a line prints
module _ (code : ℕ) (g : Gate) where
  pub prints-99 : code ≡ 99 → 57 ∷ (57 ∷ (10 ∷ [])) ≡ printed code g
  unfolding printed
  prints-99 e = rw (eq-eqb _ _ e)

  pub prints-figures : (code ≡ 99 → ⊥) → (k : ℕ) (e f : List ℕ) → f ≡ take k e → Put (replicate 64 0) 0 (figures code g) k e → f ≡ printed code g
  unfolding printed
  prints-figures n k e f ef put = ef ∙ rw (ne_eqb _ _ n) (ap (λ (x : List ℕ). take k x) put.text ∙ rw put.cursor (first-over (replicate 64 0) 0 (figures code g) put.fits))
