-- Laws of the fields of a line.
use Prim.Native.Nat.{ℕ, zero, suc, ◌+◌, ◌-◌, ◌≤◌, ◌<◌}
use native.Mathlib.Nat.{zero-add}
use native.Mathlib.Decide.{ℕ_discrete}
use native.Mathlib.Omega.{arith}
use mathlib.Core.Path.{◌≡◌, refl, sym, ap, ◌∙◌}
use mathlib.Core.List.{List, [], ◌∷◌}
use mathlib.Core.Bool.{Bool, true, false, cond}
use mir.Val.{bool_byte}
use lib.Dec.{eqb}
use lib.ListN.{length, take, drop, get_or, drop_of_length-le}
use lib.Seq.{take_all}
use Rattle.texts.specs.Lists.{find}
use Rattle.texts.proofs.ListLaws.{drop-next}
use Rattle.texts.proofs.ScanLaws.{find-le}
use Rattle.coding.specs.Params.{split_at, longer}
use Rattle.coding.proofs.ParamLaws.{split-first, split-last}
use Rattle.line_fields.specs.LineFields.{spaced, field_at, field_count, after_space}

-- ---- the first field, and the fields behind it
-- no field of nothing holds a byte
pub field-none : (i : ℕ) → field_at i [] ≡ []
unfolding split_at
field-none zero = refl
field-none (suc i) = refl

module _ (s : List ℕ) where
  -- a text has a space, or is one field
  by-space : (A : Type 0) → (find 32 s < length s → A) → (length s ≤ find 32 s → A) → A
  by-space A some none = pick (ℕ_discrete (find 32 s) (length s))
    where
      pick : Dec (find 32 s ≡ length s) → A
      pick (yes e) = none (omega arith)
      pick (no n) = some (omega (arith, find-le 32 s))

  pub first_part : take (find 32 s) s ≡ field_at 0 s
  first_part =
      by-space (take (find 32 s) s ≡ field_at 0 s) (λ h. rw (split-first 32 s h))
      (λ h. take_all (find 32 s) s h ∙ rw (split-last 32 s h))

  pub field-after : (i : ℕ) → field_at (suc i) s ≡ field_at i (after_space s)
  field-after i =
      by-space (field_at (suc i) s ≡ field_at i (after_space s)) (λ h. rw (split-first 32 s h))
      (λ h. let k : length s ≤ suc (find 32 s) = omega arith in rw (split-last 32 s h, drop_of_length-le s k) (sym (field-none i)))

-- ---- the loop to field i: `left` fields are to be passed in the rest
pub field_past : (i left : ℕ) (s r : List ℕ) → field_at i s ≡ field_at left r → length r ≡ 0 → r ≡ field_at i s
field_past i left s [] passed h = sym (passed ∙ field-none left)
field_past i left s (b ∷ r) passed h = absurd (omega arith)

pub field_step : (i k : ℕ) (s r g : List ℕ) → field_at i s ≡ field_at (i - k) r → k < i → g ≡ after_space r → field_at i s ≡ field_at (i - (k + 1)) g
field_step i k s r g passed h e =
    let n : i - k ≡ suc (i - (k + 1)) = omega arith in
    passed ∙ ap (λ (n : ℕ). field_at n r) n ∙ field-after r (i - (k + 1)) ∙ rw e

pub field-done : (i k : ℕ) (s r f : List ℕ) → field_at i s ≡ field_at (i - k) r → i ≤ k → f ≡ take (find 32 r) r → f ≡ field_at i s
field-done i k s r f passed h e =
    let n : i - k ≡ 0 = omega arith in
    e ∙ first_part r ∙ sym (passed ∙ rw n)

-- ---- how many fields
longer-length : (b : ℕ) (l : List (List ℕ)) → 0 < length l → length (longer b l) ≡ length l
longer-length b [] h = absurd (omega arith)
longer-length b (p ∷ ps) h = refl

some-field : (s : List ℕ) → 0 < field_count s
unfolding split_at
some-field [] = omega arith
some-field (b ∷ s) = go (eqb b 32) (some-field s)
  where
    go : (t : Bool) → 0 < field_count s → 0 < length (cond t ([] ∷ spaced s) (longer b (spaced s)))
    go true h = omega arith
    go false h = rw (longer-length b (spaced s) h) h

count_next : (b : ℕ) (s : List ℕ) → field_count (b ∷ s) ≡ cond (eqb b 32) 1 0 + field_count s
unfolding split_at
count_next b s = go (eqb b 32)
  where
    go : (t : Bool) → length (cond t ([] ∷ spaced s) (longer b (spaced s))) ≡ cond t 1 0 + field_count s
    go true = omega arith
    go false = rw (longer-length b (spaced s) (some-field s)) (sym (zero-add _))

share-one : (b : Bool) → bool_byte b ≤ 1
share-one true = omega arith
share-one false = omega arith

share-is : (b : Bool) → bool_byte b ≡ cond b 1 0
share-is true = refl
share-is false = refl

module _ (s : List ℕ) (i n : ℕ) (k : ℕ) (e : k ≡ bool_byte (eqb (get_or s i 0) 32)) where
  pub count-step : field_count s ≡ n + field_count (drop i s) → i < length s → field_count s ≡ n + k + field_count (drop (i + 1) s)
  count-step counted h =
      let q : field_count (drop i s) ≡ k + field_count (drop (i + 1) s) = rw (drop-next s i h, e, share-is) (count_next (get_or s i 0) (drop (i + 1) s)) in
      omega arith

  pub count_low : n ≤ i → n + k ≤ i + 1
  count_low h = omega (arith, e, share-one (eqb (get_or s i 0) 32))

module _ (s : List ℕ) (i n : ℕ) (counted : field_count s ≡ n + field_count (drop i s)) where
  pub count-done : length s ≤ i → n + 1 ≡ field_count s
  count-done h = sym (counted ∙ rw (drop_of_length-le s h) (unfold split_at in refl))
