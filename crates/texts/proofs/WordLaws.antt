-- Laws of bytes compared eight at a time: one word is one list of bytes, and two lists are equal where their whole words and their tails are.
use Prim.Native.Nat.{ℕ, zero, suc, ◌+◌, ◌*◌, ◌^◌, ◌/◌, ◌%◌, ◌≤◌, ◌<◌}
use native.Mathlib.Omega.{arith}
use mathlib.Core.Path.{◌≡◌, refl, sym, ap, ◌∙◌}
use mathlib.Core.List.{List, [], ◌∷◌}
use mathlib.Core.Bool.{Bool, true, false, ◌&&◌, and_assoc}
use mir.Syntax.{w8}
use mir.Val.{Fits}
use lib.ListN.{length, get_or, take, drop, drop_of_length-le}
use lib.Seq.{take-take, drop-drop, length-take-le}
use lib.Dec.{eqb}
use Rattle.texts.specs.Lists.{eq_list}
use Rattle.texts.specs.Words.{word_of, word_at, whole_words}
use Rattle.texts.proofs.ListLaws.{drop-next}
use Rattle.texts.proofs.ScanLaws.{eq_list-refl, eq_list-true}
use Rattle.texts.proofs.Tests.{by-test}

-- ---- a word is its first byte and the word of the others
module _ (s : List ℕ) where
  part-next : (k i : ℕ) → i < length s → take (suc k) (drop i s) ≡ get_or s i 0 ∷ take k (drop (i + 1) s)
  part-next k i h = rw (drop-next s i h)

  word_next : (k i j : ℕ) → j ≡ i + 1 → i < length s → word_of (take (suc k) (drop i s)) ≡ get_or s i 0 + 256 * word_of (take k (drop j s))
  unfolding word_of
  word_next k i j e h = rw (e, part-next k i h)

  -- eight bytes as one number
  pub word-is : (i r : ℕ) → i + 8 ≤ length s
      → r ≡ get_or s i 0 + get_or s (i + 1) 0 * 256 + get_or s (i + 2) 0 * 256 ^ 2 + get_or s (i + 3) 0 * 256 ^ 3
      + get_or s (i + 4) 0 * 256 ^ 4 + get_or s (i + 5) 0 * 256 ^ 5 + get_or s (i + 6) 0 * 256 ^ 6 + get_or s (i + 7) 0 * 256 ^ 7
      → r ≡ word_at s i
  unfolding word_at
  word-is i r fit er =
      let z : word_of (take 0 (drop (i + 8) s)) ≡ 0 = unfold word_of in refl in
      let n7 = word_next 0 (i + 7) (i + 8) (omega arith) (omega arith) in
      let n6 = word_next 1 (i + 6) (i + 7) (omega arith) (omega arith) in
      let n5 = word_next 2 (i + 5) (i + 6) (omega arith) (omega arith) in
      let n4 = word_next 3 (i + 4) (i + 5) (omega arith) (omega arith) in
      let n3 = word_next 4 (i + 3) (i + 4) (omega arith) (omega arith) in
      let n2 = word_next 5 (i + 2) (i + 3) (omega arith) (omega arith) in
      let n1 = word_next 6 (i + 1) (i + 2) (omega arith) (omega arith) in
      let n0 = word_next 7 i (i + 1) refl (omega arith) in
      omega (arith, z, n0, n1, n2, n3, n4, n5, n6, n7, er)

-- ---- one word, one list of bytes
words-unlike : (s t : List ℕ) → (word_of s ≡ word_of t → ⊥) → eq_list s t ≡ false
words-unlike s t n = by-test (eq_list s t) (λ e. absurd (n (ap word_of (eq_list-true s t e)))) (λ f. f)

module _ (a b : List ℕ) (same : length a ≡ length b) (low : (j : ℕ) → Fits w8 (get_or a j 0)) (low' : (j : ℕ) → Fits w8 (get_or b j 0)) where
  words-alike : (k i : ℕ) → i + k ≤ length a → word_of (take k (drop i a)) ≡ word_of (take k (drop i b)) → take k (drop i a) ≡ take k (drop i b)
  words-alike zero i h e = refl
  words-alike (suc k) i h e =
      let l : i < length b = omega arith in
      let na : word_of (take (suc k) (drop i a)) ≡ get_or a i 0 + 256 * word_of (take k (drop (i + 1) a)) = word_next a k i (i + 1) refl (omega arith) in
      let nb : word_of (take (suc k) (drop i b)) ≡ get_or b i 0 + 256 * word_of (take k (drop (i + 1) b)) = word_next b k i (i + 1) refl l in
      let first : get_or a i 0 ≡ get_or b i 0 = omega (arith, e, na, nb, low i, low' i) in
      let more : word_of (take k (drop (i + 1) a)) ≡ word_of (take k (drop (i + 1) b)) = omega (arith, e, na, nb, low i, low' i) in
      rw (part-next a k i (omega arith), part-next b k i l, first, words-alike k (i + 1) (omega arith) more)

-- ---- equality goes by parts
eq_list-split : (k : ℕ) (a b : List ℕ) → eq_list a b ≡ eq_list (take k a) (take k b) && eq_list (drop k a) (drop k b)
unfolding eq_list
eq_list-split zero a b = refl
eq_list-split (suc k) [] [] = refl
eq_list-split (suc k) [] (y ∷ t) = refl
eq_list-split (suc k) (x ∷ s) [] = refl
eq_list-split (suc k) (x ∷ s) (y ∷ t) = rw (eq_list-split k s t) (sym (and_assoc (eqb x y) _ _))

-- ---- the loop over whole words
-- a word that ends within the first k bytes is the list's own
word-within : (i k : ℕ) (s : List ℕ) → i + 8 ≤ k → take 8 (drop i (take k s)) ≡ take 8 (drop i s)
word-within zero k s h = take-take 8 k s (omega arith)
word-within (suc i) zero s h = absurd (omega arith)
word-within (suc i) (suc k) [] h = refl
word-within (suc i) (suc k) (x ∷ s) h = word-within i k s (omega arith)

-- behind the last whole word none is left
whole-past : (s : List ℕ) (i : ℕ) → i % 8 ≡ 0 → length s < i + 8 → drop i (whole_words s) ≡ []
unfolding whole_words
whole-past s i w h =
    let k : length (take (length s / 8 * 8) s) ≡ length s / 8 * 8 = length-take-le (length s / 8 * 8) s (omega arith) in
    let l : length (take (length s / 8 * 8) s) ≤ i = omega arith in
    drop_of_length-le (take (length s / 8 * 8) s) l

pub whole-next : (i : ℕ) → i % 8 ≡ 0 → (i + 8) % 8 ≡ 0
whole-next i h = omega arith

module _ (a b : List ℕ) (i : ℕ) (same : length a ≡ length b) (whole : i % 8 ≡ 0)
    (passed : eq_list (whole_words a) (whole_words b) ≡ eq_list (drop i (whole_words a)) (drop i (whole_words b))) where
  module _ (x y : ℕ) (fit : i + 8 ≤ length a) (wa : x ≡ word_at a i) (wb : y ≡ word_at b i) where
    word_first : eq_list (whole_words a) (whole_words b) ≡ eq_list (take 8 (drop i a)) (take 8 (drop i b)) && eq_list (drop (i + 8) (whole_words a)) (drop (i + 8) (whole_words b))
    unfolding whole_words
    word_first =
        passed ∙ eq_list-split 8 (drop i (whole_words a)) (drop i (whole_words b))
        ∙ rw (
          word-within i (length a / 8 * 8) a (omega arith),
          word-within i (length b / 8 * 8) b (omega arith),
          drop-drop 8 i (whole_words a),
          drop-drop 8 i (whole_words b),
        )

    pub words-pass : ((j : ℕ) → Fits w8 (get_or a j 0)) → ((j : ℕ) → Fits w8 (get_or b j 0)) → x ≡ y
        → eq_list (whole_words a) (whole_words b) ≡ eq_list (drop (i + 8) (whole_words a)) (drop (i + 8) (whole_words b))
    unfolding word_at
    words-pass low low' e =
        word_first ∙ rw (words-alike a b same low low' 8 i fit (sym wa ∙ e ∙ wb), eq_list-refl (take 8 (drop i b)))

    pub words-differ : (x ≡ y → ⊥) → false ≡ eq_list (whole_words a) (whole_words b)
    unfolding word_at
    words-differ n =
        sym (word_first ∙ rw (words-unlike (take 8 (drop i a)) (take 8 (drop i b)) (λ e. n (wa ∙ e ∙ sym wb))))

  pub words-all : length a < i + 8 → true ≡ eq_list (whole_words a) (whole_words b)
  unfolding eq_list
  words-all h =
      let k : length b < i + 8 = omega arith in
      sym (passed ∙ rw (whole-past a i whole h, whole-past b i whole k))

-- ---- the whole words and the tail
module _ (a b : List ℕ) (r : Bool) (same : length a ≡ length b) (words : r ≡ eq_list (whole_words a) (whole_words b)) where
  parts : eq_list a b ≡ r && eq_list (drop (length a / 8 * 8) a) (drop (length a / 8 * 8) b)
  unfolding whole_words
  parts = rw words (eq_list-split (length a / 8 * 8) a b ∙ rw same)

  pub tail-decides : (t : Bool) → r ≡ true → t ≡ eq_list (drop (length a / 8 * 8) a) (drop (length a / 8 * 8) b) → t ≡ eq_list a b
  tail-decides t e q = q ∙ sym (parts ∙ rw e)

  pub words-decide : r ≡ false → false ≡ eq_list a b
  words-decide e = sym (parts ∙ rw e)
