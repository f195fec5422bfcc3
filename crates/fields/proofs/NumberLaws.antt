-- Laws of numbers of accounts.
use Rattle.std.specs.Prelude.{Some, None, position}
use Rattle.std.specs.List.{position_or_len, list_all}
use Rattle.std.specs.Option.{unwrap_or}
use Rattle.std.specs.Char.{is_ascii_graphic}
use Prim.Native.Nat.{ℕ, suc, ◌+◌, ◌-◌, ◌≤◌, ◌<◌}
use native.Mathlib.Omega.{arith}
use mathlib.Core.Path.{◌≡◌, refl, sym, ap, ◌∙◌}
use mathlib.Core.List.{List, [], ◌∷◌}
use mathlib.Core.Bool.{Bool, true, false, cond, not, ◌&&◌, and-false}
use lib.Dec.{eqb, leb, ltb}
use lib.ListN.{length, take, drop, replicate, length-append, length-drop, length-replicate}
use lib.Seq.{take_all, take-append_seam, length-take-le}
use borrow.Author.Tests.{lt-leb, eq-eqb, eqb-true, leb-true, ltb-false}
use Rattle.fields.specs.declared.number.Number.{Number}
use Rattle.texts.specs.Lists.{every, eq_list}
use Rattle.fields.specs.Number.{number_byte, number_text, is_number, is_number_text, padded, number_of, number_read, same_number}
use Rattle.texts.specs.Digits.{within}
use Rattle.texts.proofs.Tests.{and_left, and_right, or_elim}
use Rattle.texts.proofs.DigitLaws.{within_low, within-high}
use Rattle.texts.proofs.ScanLaws.{eq_list-refl, eq_list-true}

-- ---- the bytes of a number
module _ (b : ℕ) where
  byte-between : number_byte b ≡ true → (32 < b) × (b < 256)
  unfolding number_byte
  byte-between =
      let one : (n : ℕ) → 32 < n → n < 256 → eqb b n ≡ true → (32 < b) × (b < 256) = λ n l h p. let e : b ≡ n = eqb-true b n p in (omega arith, omega arith) in
      let some : (low high : ℕ) → 32 < low → high < 256 → within low high b ≡ true → (32 < b) × (b < 256) = λ low high l h p. (omega (arith, within_low low high b p), omega (arith, within-high low high b p)) in
      or_elim (within 33 126 b) _ (some 33 126 (omega arith) (omega arith))
      (or_elim (eqb b 168) _ (one 168 (omega arith) (omega arith))
      (or_elim (eqb b 184) _ (one 184 (omega arith) (omega arith)) (some 192 255 (omega arith) (omega arith))))

  -- no control byte and no blank, so that a number never meets a separator of lines or fields
  pub byte-above-blank : number_byte b ≡ true → 32 < b
  byte-above-blank h = (byte-between h).0

  pub byte-below-256 : number_byte b ≡ true → b < 256
  byte-below-256 h = (byte-between h).1

-- the ends of each range, and what stands beside them
pub ends-in : every number_byte (33 ∷ 126 ∷ 168 ∷ 184 ∷ 192 ∷ 255 ∷ []) ≡ true
unfolding every number_byte
ends-in = refl

pub ends-out : every (λ (b : ℕ). not (number_byte b)) (32 ∷ 127 ∷ 167 ∷ 169 ∷ 183 ∷ 185 ∷ 191 ∷ 256 ∷ []) ≡ true
unfolding every number_byte
ends-out = refl

-- ---- the first bytes that are 21 to 7E are passed, and then each of the rest is looked at
abbrev pub unseen : ℕ → Bool
unseen b = not (is_ascii_graphic b)

graphic : (b : ℕ) → is_ascii_graphic b ≡ true → number_byte b ≡ true
unfolding number_byte
graphic b e = rw e

abbrev Seen : List ℕ → ℕ → Type 0
Seen s n = (n ≤ length s) × (every number_byte s ≡ every number_byte (drop n s))

seen-next : (b : ℕ) (s : List ℕ) (n : ℕ) → Seen s n → (t : Bool) → is_ascii_graphic b ≡ t → Seen (b ∷ s) (cond (not (not t)) (1 + n) 0)
unfolding every
seen-next b s n h true e = let z : 1 + n ≡ suc n = omega arith in rw z (omega arith, rw (graphic b e) h.1)
seen-next b s n h false e = (omega arith, refl)

seen : (s : List ℕ) → Seen s (position_or_len unseen s)
seen [] = (omega arith, refl)
seen (b ∷ s) = seen-next b s (position_or_len unseen s) (seen s) (is_ascii_graphic b) refl

found_or_length : (t : Bool) (f n : ℕ) → ltb f n ≡ t → f ≤ n → unwrap_or (cond t (Some f) None) n ≡ f
found_or_length true f n e l = refl
found_or_length false f n e l = omega (arith, ltb-false f n e, l)

pub first-unseen : (s : List ℕ) (r : ℕ) → r ≡ unwrap_or (position unseen s) (length s) → (r ≤ length s) × (every number_byte s ≡ every number_byte (drop r s))
first-unseen s r e =
    let n = position_or_len unseen s in
    let z : r ≡ n = e ∙ found_or_length (ltb n (length s)) n (length s) refl (seen s).0 in
    rw z (seen s)

all-every : (p : ℕ → Bool) (s : List ℕ) → list_all p s ≡ every p s
unfolding every
all-every p [] = refl
all-every p (b ∷ s) = ap (λ (t : Bool). p b && t) (all-every p s)

-- the rest, from a place on
pub rest-every : (p : ℕ → Bool) (s : List ℕ) (n : ℕ) → list_all p (take (length s - n) (drop n s)) ≡ every p (drop n s)
rest-every p s n =
    let l : length (drop n s) ≤ length s - n = simp length-drop (omega arith) in
    rw (take_all (length s - n) (drop n s) l) (all-every p (drop n s))

-- ---- reading one
module _ (s : List ℕ) where
  pub text-empty : length s ≡ 0 → false ≡ is_number_text s
  unfolding is_number_text
  text-empty e = rw e

  pub text-long : 30 < length s → false ≡ is_number_text s
  unfolding is_number_text
  text-long h = simp (lt-leb _ _ h, and-false)

  module _ (t : Bool) (judged : t ≡ is_number_text s) where
    pub number_short : t ≡ true → length s ≤ 30
    unfolding is_number_text
    number_short y =
        leb-true (length s) 30 (and_left (leb (length s) 30) (every number_byte s) (and_right (leb 1 (length s)) _ (sym judged ∙ y)))

    pub number-good : t ≡ true → (x : Number) → x ≡ number_of s → Some x ≡ number_read s
    unfolding number_read
    number-good y x e = rw (← judged, y, e)

    pub number-bad : t ≡ false → None ≡ number_read s
    unfolding number_read
    number-bad n = rw (← judged, n)

pub ruleset read_number_laws = (number_short, number-good, number-bad)

-- ---- equality
module _ (x y : Number) where
  pub same_text : same_number x y ≡ true → number_text x ≡ number_text y
  unfolding same_number
  same_text h = eq_list-true (number_text x) (number_text y) (and_right (eqb x.len y.len) (eq_list (number_text x) (number_text y)) h)

  pub text_same : x.len ≡ y.len → number_text x ≡ number_text y → same_number x y ≡ true
  unfolding same_number
  text_same l e = rw (eq-eqb _ _ l, e) (eq_list-refl (number_text y))

pub same_refl : (x : Number) → same_number x x ≡ true
same_refl x = text_same x x refl refl

pub same_length : (x y : Number) → same_number x y ≡ true → x.len ≡ y.len
unfolding same_number
same_length x y h = eqb-true x.len y.len (and_left (eqb x.len y.len) (eq_list (number_text x) (number_text y)) h)

pub same-sym : (x y : Number) → same_number x y ≡ true → same_number y x ≡ true
same-sym x y h = text_same y x (sym (same_length x y h)) (sym (same_text x y h))

pub same-trans : (x y z : Number) → same_number x y ≡ true → same_number y z ≡ true → same_number x z ≡ true
same-trans x y z h g = text_same x z (same_length x y h ∙ same_length y z g) (same_text x y h ∙ same_text y z g)

-- ---- what is written is read back
pub text_of : (s : List ℕ) → number_text (number_of s) ≡ s
text_of s = take-append_seam s (drop (length s) (replicate 30 0))

padded-thirty : (s : List ℕ) → length s ≤ 30 → length (padded s) ≡ 30
padded-thirty s l = simp (length-append, length-drop, length-replicate) (omega arith)

-- the number of a text that is one
pub text-number : (s : List ℕ) → is_number_text s ≡ true → is_number (number_of s) ≡ true
unfolding is_number is_number_text
text-number s h = rw (padded-thirty s (number_short s true (sym h) refl), text_of s) h

module _ (x : Number) (good : is_number x ≡ true) where
  -- a number is held in thirty bytes
  pub number-thirty : length x.bytes ≡ 30
  unfolding is_number
  number-thirty = eqb-true _ _ (and_left (eqb (length x.bytes) 30) (leb 1 x.len && (leb x.len 30 && every number_byte (number_text x))) good)

  len-good : leb 1 x.len && (leb x.len 30 && every number_byte (number_text x)) ≡ true
  unfolding is_number
  len-good = and_right (eqb (length x.bytes) 30) (leb 1 x.len && (leb x.len 30 && every number_byte (number_text x))) good

  rest-good : leb x.len 30 && every number_byte (number_text x) ≡ true
  rest-good = and_right (leb 1 x.len) (leb x.len 30 && every number_byte (number_text x)) len-good

  pub text-length : length (number_text x) ≡ x.len
  text-length = length-take-le x.len x.bytes (omega (arith, number-thirty, leb-true x.len 30 (and_left (leb x.len 30) (every number_byte (number_text x)) rest-good)))

  pub text-short : length (number_text x) ≤ 30
  text-short = rw text-length (leb-true x.len 30 (and_left (leb x.len 30) (every number_byte (number_text x)) rest-good))

  pub text-bytes : every number_byte (number_text x) ≡ true
  text-bytes = and_right (leb x.len 30) (every number_byte (number_text x)) rest-good

  pub text-good : is_number_text (number_text x) ≡ true
  unfolding is_number_text
  text-good = rw text-length len-good

  pub number-again : number_read (number_text x) ≡ Some (number_of (number_text x))
  unfolding number_read
  number-again = rw text-good

  -- and it is the same number
  pub number_same : same_number (number_of (number_text x)) x ≡ true
  number_same = text_same (number_of (number_text x)) x text-length (text_of (number_text x))
