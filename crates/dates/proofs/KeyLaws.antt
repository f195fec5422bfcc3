-- An account's number and type, and a date, as one number each: two are the same exactly where their numbers are.
use Prim.Native.Nat.{ℕ, ◌+◌, ◌*◌, ◌≤◌}
use native.Mathlib.Omega.{arith}
use mathlib.Core.Path.{◌≡◌, refl, sym, ap, ◌∙◌}
use mathlib.Core.Bool.{Bool, true, ◌&&◌}
use mathlib.Core.List.{List, [], ◌∷◌}
use lib.Dec.{eqb, leb}
use lib.ListN.{length}
use borrow.Author.Tests.{eq-eqb, eqb-true, leb-true, le-leb}
use Rattle.fields.specs.declared.number.Number.{Number}
use Rattle.texts.specs.Lists.{every, eq_list}
use Rattle.fields.specs.Codes.{is_kind}
use Rattle.dates.specs.Date.{is_written}
use Rattle.texts.specs.Digits.{is_digit}
use Rattle.fields.specs.Number.{number_byte, number_text, number_of, is_number, same_number}
use Rattle.texts.proofs.Tests.{and_left, and_right, same_bool}
use Rattle.texts.proofs.ListLaws.{every-weaker}
use Rattle.texts.proofs.ScanLaws.{eq_list-true, eq_list-refl}
use Rattle.texts.proofs.DigitLaws.{within-high}
use Rattle.fields.proofs.NumberLaws.{byte-above-blank, byte-below-256, text_of, text-length, text-bytes, text_same, same_text, same_length}
use Rattle.dates.proofs.DateLaws.{date-bytes}

-- ---- texts
unfoldable pub text_key : List ℕ → ℕ
text_key [] = 0
text_key (b ∷ s) = b + 256 * text_key s

unfoldable pub nonzero_byte : ℕ → Bool
nonzero_byte b = leb 1 b && leb b 255

byte_low : (b : ℕ) → nonzero_byte b ≡ true → 1 ≤ b
unfolding nonzero_byte
byte_low b h = leb-true 1 b (and_left (leb 1 b) (leb b 255) h)

byte_high : (b : ℕ) → nonzero_byte b ≡ true → b ≤ 255
unfolding nonzero_byte
byte_high b h = leb-true b 255 (and_right (leb 1 b) (leb b 255) h)

-- a text of bytes is known by its key
pub text-key : (s t : List ℕ) → every nonzero_byte s ≡ true → every nonzero_byte t ≡ true → text_key s ≡ text_key t → s ≡ t
unfolding text_key every
text-key [] [] p q e = refl
text-key [] (c ∷ t) p q e = absurd (omega (arith, byte_low c (and_left (nonzero_byte c) (every nonzero_byte t) q)))
text-key (b ∷ s) [] p q e = absurd (omega (arith, byte_low b (and_left (nonzero_byte b) (every nonzero_byte s) p)))
text-key (b ∷ s) (c ∷ t) p q e =
    let hb = byte_high b (and_left (nonzero_byte b) (every nonzero_byte s) p) in
    let hc = byte_high c (and_left (nonzero_byte c) (every nonzero_byte t) q) in
    let z : b ≡ c = omega arith in
    let y : text_key s ≡ text_key t = omega arith in
    let r : s ≡ t = text-key s t (and_right (nonzero_byte b) (every nonzero_byte s) p) (and_right (nonzero_byte c) (every nonzero_byte t) q) y in
    λ i. z i ∷ r i

-- ---- dates
digit-byte : (b : ℕ) → is_digit b ≡ true → nonzero_byte b ≡ true
unfolding nonzero_byte
digit-byte b h =
    let l : 48 ≤ b = leb-true 48 b (and_left (leb 48 b) (leb b 57) h) in
    let m : b ≤ 57 = leb-true b 57 (and_right (leb 48 b) (leb b 57) h) in
    let x : 1 ≤ b = omega arith in
    let y : b ≤ 255 = omega arith in
    rw (le-leb 1 b x, le-leb b 255 y)

written-bytes : (s : List ℕ) → is_written s ≡ true → every nonzero_byte s ≡ true
unfolding nonzero_byte
written-bytes s h = date-bytes nonzero_byte s digit-byte refl refl refl h

-- a written date is known by its key, and the test of two is that of their keys
pub date-key : (s t : List ℕ) → is_written s ≡ true → is_written t ≡ true → text_key s ≡ text_key t → s ≡ t
date-key s t p q e = text-key s t (written-bytes s p) (written-bytes t q) e

pub date-test : (s t : List ℕ) → is_written s ≡ true → is_written t ≡ true → eq_list s t ≡ eqb (text_key s) (text_key t)
date-test s t p q =
    same_bool (eq_list s t) (eqb (text_key s) (text_key t))
    (λ h. eq-eqb _ _ (ap text_key (eq_list-true s t h)))
    (λ h. rw (date-key s t p q (eqb-true _ _ h)) (eq_list-refl t))

-- ---- accounts
unfoldable pub key_of : Number → ℕ → ℕ
key_of n k = text_key (number_text n) * 1000 + k

-- a number that was written and read has its key
pub again-key : (n : Number) (k : ℕ) → key_of (number_of (number_text n)) k ≡ key_of n k
unfolding key_of
again-key n k = rw (text_of (number_text n)) refl

-- a number and a type that their key tells apart: an account's, and whatever is the same as one
pub record Valid (n : Number) (k : ℕ) : Type 0 where
  pub bytes : every number_byte (number_text n) ≡ true
  pub size : length (number_text n) ≡ n.len
  pub kind : is_kind k ≡ true

pub valid-number : (n : Number) (k : ℕ) → is_number n ≡ true → is_kind k ≡ true → Valid n k
valid-number n k h g = record { bytes = text-bytes n h; size = text-length n h; kind = g }

pub valid_same : (n m : Number) (k j : ℕ) → same_number n m ≡ true → k ≡ j → Valid n k → Valid m j
valid_same n m k j h e v =
    record {
      bytes = ap (every number_byte) (sym (same_text n m h)) ∙ v.bytes;
      size = ap length (sym (same_text n m h)) ∙ v.size ∙ same_length n m h;
      kind = ap is_kind (sym e) ∙ v.kind;
    }

number-byte : (b : ℕ) → number_byte b ≡ true → nonzero_byte b ≡ true
unfolding nonzero_byte
number-byte b h =
    let x : 1 ≤ b = omega (arith, byte-above-blank b h) in
    let y : b ≤ 255 = omega (arith, byte-below-256 b h) in
    rw (le-leb 1 b x, le-leb b 255 y)

module _ (n m : Number) (k j : ℕ) (v : Valid n k) (u : Valid m j) where
  key-parts : key_of n k ≡ key_of m j → (number_text n ≡ number_text m) × (k ≡ j)
  unfolding key_of
  key-parts e =
      let hk : k ≤ 999 = within-high 0 999 k v.kind in
      let hj : j ≤ 999 = within-high 0 999 j u.kind in
      let a : text_key (number_text n) ≡ text_key (number_text m) = omega arith in (
        text-key (number_text n) (number_text m) (every-weaker number_byte nonzero_byte (number_text n) number-byte v.bytes)
            (every-weaker number_byte nonzero_byte (number_text m) number-byte u.bytes) a,
        omega arith,
      )

  -- an account is known by its key
  pub key-same : key_of n k ≡ key_of m j → (same_number n m ≡ true) × (k ≡ j)
  key-same e =
      let p = key-parts e in
      (text_same n m (sym v.size ∙ ap length p.0 ∙ u.size) p.0, p.1)

  pub key-text : key_of n k ≡ key_of m j → (number_text n ≡ number_text m) × (k ≡ j)
  key-text = key-parts

  pub same_key : same_number n m ≡ true → k ≡ j → key_of n k ≡ key_of m j
  unfolding key_of
  same_key h e = rw (same_text n m h, e)

  -- the test of document 01 is the test of the keys
  pub key-test : eqb k j && same_number n m ≡ eqb (key_of n k) (key_of m j)
  key-test =
      same_bool (eqb k j && same_number n m) (eqb (key_of n k) (key_of m j))
      (λ h. eq-eqb _ _ (same_key (and_right (eqb k j) (same_number n m) h) (eqb-true _ _ (and_left (eqb k j) (same_number n m) h))))
      (λ h. let p = key-same (eqb-true _ _ h) in rw (eq-eqb k j p.1, p.0))
