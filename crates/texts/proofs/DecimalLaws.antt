-- Numbers as writers give them: over the width k, without leading zeros, read back, and written at a cursor.
use Rattle.std.specs.Prelude.{Some}
use Prim.Native.Nat.{ℕ, zero, suc, ◌+◌, ◌-◌, ◌*◌, ◌^◌, ◌/◌, ◌%◌, ◌≤◌, ◌<◌}
use native.Mathlib.Numerals.{sub-one}
use native.Mathlib.Nat.{le_refl, le_trans, not-suc-le-zero, pow-suc, pow-le-pow_right, not-le_of_lt, lt_of_not-le, mul-le-mul_right}
use native.Mathlib.Omega.{arith}
use mathlib.Core.Path.{◌≡◌, refl, sym, ap, ◌∙◌}
use mathlib.Core.List.{List, [], ◌∷◌, ◌++◌, append_assoc, append-nil}
use mathlib.Core.Bool.{Bool, true, false, cond}
use lib.ListN.{length, get_or, set, take, drop, replicate, length-append, length-take, length-drop, length-set}
use lib.Seq.{take_all, get_or-set_same}
use lib.Dec.{eqb, leb, lit<}
use borrow.Author.Tests.{le-leb, lt-ltb, eqb-true, eqb-false, leb-true}
use Rattle.texts.specs.Lists.{every, find, written, cursor_after}
use Rattle.texts.specs.Digits.{is_digit, value_after, digits_read, within, range_read, lead_zeros, drop_zeros, fixed, decimal}
use Rattle.texts.proofs.ListLaws.{drop-stored}
use Rattle.texts.proofs.FindLaws.{find-behind}
use Rattle.texts.proofs.DigitLaws.{fixed-step, made-zeros}
use Rattle.texts.proofs.Tests.{and_left, and_right, and_then, cond-le}

value-snoc : (v b : ℕ) (s : List ℕ) → value_after v (s ++ (b ∷ [])) ≡ value_after v s * 10 + (b - 48)
value-snoc v b [] = refl
value-snoc v b (c ∷ s) = value-snoc (v * 10 + (c - 48)) b s

digits-snoc : (b : ℕ) (s : List ℕ) → every is_digit s ≡ true → is_digit b ≡ true → every is_digit (s ++ (b ∷ [])) ≡ true
unfolding every
digits-snoc b [] h e = rw e
digits-snoc b (c ∷ s) h e = and_then (is_digit c) (λ k. digits-snoc b s k e) h

-- the k digits of a number below 10 ^ k are read as the number
pub fixed-value : (k n : ℕ) → n < 10 ^ k → value_after 0 (fixed k n) ≡ n
unfolding fixed every
fixed-value zero n h = omega arith
fixed-value (suc k) n h =
    let i : n < 10 ^ k * 10 = rw pow-suc at h in
    let e : value_after 0 (fixed k (n / 10)) ≡ n / 10 = fixed-value k (n / 10) (omega arith) in
    rw (value-snoc 0 (48 + n % 10) (fixed k (n / 10)), e) (omega arith)

pub fixed-digits : (k n : ℕ) → every is_digit (fixed k n) ≡ true
unfolding fixed every
fixed-digits zero n = refl
fixed-digits (suc k) n = digits-snoc (48 + n % 10) (fixed k (n / 10)) (fixed-digits k (n / 10)) (simp (le-leb 48 (48 + n % 10) (omega arith), le-leb (48 + n % 10) 57 (omega arith)))

pub fixed-length : (k n : ℕ) → length (fixed k n) ≡ k
unfolding fixed every
fixed-length zero n = refl
fixed-length (suc k) n = rw (length-append, fixed-length k (n / 10)) (omega arith)

-- ---- without leading zeros
-- a property of the part that a test picks, from both cases
pick-drop : (t : Bool) (P : List ℕ → Type 0) (k : ℕ) (s : List ℕ) → (t ≡ true → P (drop (suc k) s)) → (t ≡ false → P s) → P (drop (cond t (suc k) 0) s)
pick-drop true P k s f g = f refl
pick-drop false P k s f g = g refl

-- what is read from s is read without its leading zeros
zeros-value : (s : List ℕ) → value_after 0 (drop_zeros s) ≡ value_after 0 s
zeros-value [] = refl
zeros-value (b ∷ []) = refl
zeros-value (b ∷ (c ∷ s)) =
    pick-drop (eqb b 48) (λ t. value_after 0 t ≡ value_after 0 (b ∷ (c ∷ s))) (lead_zeros (c ∷ s)) (b ∷ (c ∷ s))
    (λ e. zeros-value (c ∷ s) ∙ simp (eqb-true b 48 e))
    (λ e. refl)

zeros-digits : (s : List ℕ) → every is_digit s ≡ true → every is_digit (drop_zeros s) ≡ true
unfolding every
zeros-digits [] h = h
zeros-digits (b ∷ []) h = h
zeros-digits (b ∷ (c ∷ s)) h =
    pick-drop (eqb b 48) (λ t. every is_digit t ≡ true) (lead_zeros (c ∷ s)) (b ∷ (c ∷ s))
    (λ e. zeros-digits (c ∷ s) (and_right (is_digit b) (every is_digit (c ∷ s)) h))
    (λ e. h)

-- a value v and then k digits is at least v * 10 ^ k
value-least : (v : ℕ) (s : List ℕ) → v * 10 ^ length s ≤ value_after v s
value-least v [] = omega arith
value-least v (b ∷ s) = le_trans (rw pow-suc (omega arith)) (value-least (v * 10 + (b - 48)) s)

pow_below : (j k : ℕ) → 10 ^ j < 10 ^ k → j < k
pow_below j k h = lt_of_not-le (λ g. not-le_of_lt h (pow-le-pow_right (lit< tt) g))

-- a value below 10 ^ k has at most k digits after its leading zeros
zeros-length : (k : ℕ) (s : List ℕ) → 0 < k → every is_digit s ≡ true → value_after 0 s < 10 ^ k → length (drop_zeros s) ≤ k
unfolding every
zeros-length k [] p h v = omega arith
zeros-length k (b ∷ []) p h v = p
zeros-length k (b ∷ (c ∷ s)) p h v =
    pick-drop (eqb b 48) (λ t. length t ≤ k) (lead_zeros (c ∷ s)) (b ∷ (c ∷ s))
    (λ e. zeros-length k (c ∷ s) p (and_right (is_digit b) (every is_digit (c ∷ s)) h) (rw (eqb-true b 48 e) at v))
    (λ e.
    let l : 48 ≤ b = leb-true 48 b (and_left (leb 48 b) (leb b 57) (and_left (is_digit b) (every is_digit (c ∷ s)) h)) in
    let n : b ≡ 48 → ⊥ = eqb-false b 48 e in
    let m : 1 * 10 ^ suc (length s) ≤ (0 * 10 + (b - 48)) * 10 ^ suc (length s) = mul-le-mul_right (10 ^ suc (length s)) (omega arith) in
    pow_below (suc (length s)) k (omega (arith, m, value-least (0 * 10 + (b - 48)) (c ∷ s), v)))

zeros-some : (s : List ℕ) → 1 ≤ length s → 1 ≤ length (drop_zeros s)
zeros-some [] h = h
zeros-some (b ∷ []) h = h
zeros-some (b ∷ (c ∷ s)) h =
    pick-drop (eqb b 48) (λ t. 1 ≤ length t) (lead_zeros (c ∷ s)) (b ∷ (c ∷ s)) (λ e. zeros-some (c ∷ s) (omega arith)) (λ e. omega arith)

-- a number below 10 ^ k that fits 64 bits is read back from its digits, in a field of k
pub digits-again : (k n : ℕ) → 0 < k → n < 10 ^ k → n < 2 ^ 64 → digits_read k (decimal n) ≡ Some n
unfolding decimal digits_read
digits-again k n p h f =
    let v : value_after 0 (drop_zeros (fixed 20 n)) ≡ n = zeros-value (fixed 20 n) ∙ fixed-value 20 n (omega arith) in
    let d : every is_digit (drop_zeros (fixed 20 n)) ≡ true = zeros-digits (fixed 20 n) (fixed-digits 20 n) in
    let l : length (drop_zeros (fixed 20 n)) ≤ k = zeros-length k (fixed 20 n) p (fixed-digits 20 n) (rw (fixed-value 20 n (omega arith)) h) in
    let o : 1 ≤ length (drop_zeros (fixed 20 n)) = zeros-some (fixed 20 n) (rw (fixed-length 20 n) (omega arith)) in
    simp (v, d, le-leb _ _ l, le-leb _ _ o, lt-ltb _ _ f)

pub fixed-again : (k n : ℕ) → 0 < k → n < 10 ^ k → n < 2 ^ 64 → digits_read k (fixed k n) ≡ Some n
unfolding digits_read
fixed-again k n p h f = simp (fixed-value k n h, fixed-digits k n, fixed-length k n, le-leb 1 k p, le-leb k k (le_refl k), lt-ltb n (2 ^ 64) f)

pub decimal-digits : (n : ℕ) → every is_digit (decimal n) ≡ true
unfolding decimal
decimal-digits n = zeros-digits (fixed 20 n) (fixed-digits 20 n)

-- the first point after digits stands behind them
pub find-point : (xs ys : List ℕ) → every is_digit xs ≡ true → find 46 (xs ++ (46 ∷ ys)) ≡ length xs
find-point xs ys h = find-behind is_digit 46 xs ys refl h

-- ---- the digits of a number without its leading zeros, as a part of the twenty
lead-le : (s : List ℕ) → lead_zeros s ≤ length s
lead-le [] = le_refl 0
lead-le (b ∷ []) = omega arith
lead-le (b ∷ (c ∷ s)) = let h : lead_zeros (c ∷ s) ≤ suc (length s) = lead-le (c ∷ s) in cond-le (eqb b 48) (omega arith) (omega arith)

module _ (n z : ℕ) (a : List ℕ) (ea : a ≡ fixed 20 n) (ez : z ≡ lead_zeros a) where
  size : length a ≡ 20
  size = rw ea (fixed-length 20 n)

  pub size-le : 20 ≤ length a
  size-le = omega (arith, size)

  pub skip-le : z ≤ 20
  skip-le = omega (arith, lead-le a, size)

  pub part-decimal : take (20 - z) (drop z a) ≡ decimal n
  unfolding decimal
  part-decimal =
      let l : length (drop z a) ≤ 20 - z = rw length-drop (omega (arith, size)) in
      take_all (20 - z) (drop z a) l ∙ rw (ez, ea)

  pub decimal-size : length (decimal n) ≡ 20 - z
  decimal-size = sym (ap length part-decimal) ∙ simp (length-take, length-drop, size) (omega arith)

  -- the part of the twenty digits, written
  module _ (d : List ℕ) (at : ℕ) where
    pub decimal-cursor : (r : ℕ) → r ≡ cursor_after d at (take (20 - z) (drop z a)) → r ≡ cursor_after d at (decimal n)
    decimal-cursor r q = rw (← part-decimal) q

    pub decimal-written : (e : List ℕ) → e ≡ written d at (take (20 - z) (drop z a)) → e ≡ written d at (decimal n)
    decimal-written e q = rw (← part-decimal) q

-- a number has at least one digit, and at most k where it is below 10 ^ k
pub decimal-some : (n : ℕ) → 1 ≤ length (decimal n)
unfolding decimal
decimal-some n = zeros-some (fixed 20 n) (rw (fixed-length 20 n) (omega arith))

pub decimal-most : (k n : ℕ) → 0 < k → n < 10 ^ k → n < 2 ^ 64 → length (decimal n) ≤ k
unfolding decimal
decimal-most k n p h f = zeros-length k (fixed 20 n) p (fixed-digits 20 n) (rw (fixed-value 20 n (omega arith)) h)

-- a value in the range is read back from its digits
pub range-again : (k low high v : ℕ) → 0 < k → v < 10 ^ k → v < 2 ^ 64 → within low high v ≡ true → range_read k low high (decimal v) ≡ Some v
unfolding range_read
range-again k low high v p h f w = rw (digits-again k v p h f) (simp w)

-- ---- a number's digits from the last on: what is not yet written are zeros
set-behind : (p : List ℕ) (y x : ℕ) (r : List ℕ) → set (p ++ (y ∷ r)) (length p) x ≡ p ++ (x ∷ r)
set-behind [] y x r = refl
set-behind (z ∷ p) y x r = ap (z ∷◌) (set-behind p y x r)

module _ (a : List ℕ) where
  zeros-step : (w i x : ℕ) → length a ≡ w → 0 < i → i ≤ w → a ≡ fixed i 0 ++ drop i a → set a (i - 1) x ≡ fixed (i - 1) 0 ++ drop (i - 1) (set a (i - 1) x)
  unfolding fixed
  zeros-step w zero x size p h e = absurd (not-suc-le-zero p)
  zeros-step w (suc j) x size p h e =
      let z : a ≡ fixed j 0 ++ (48 ∷ drop (suc j) a) = e ∙ append_assoc (fixed j 0) (48 ∷ []) (drop (suc j) a) in
      let there : set (fixed j 0 ++ (48 ∷ drop (suc j) a)) j x ≡ fixed j 0 ++ (x ∷ drop (suc j) a) =
      ap (λ (k : ℕ). set (fixed j 0 ++ (48 ∷ drop (suc j) a)) k x) (sym (fixed-length j 0)) ∙ set-behind (fixed j 0) 48 x (drop (suc j) a) in
      simp sub-one (ap (λ (l : List ℕ). set l j x) z ∙ there ∙ ap (fixed j 0 ++◌) (sym (drop-stored a j x (omega arith))))

  zeros-done : (w n m i : ℕ) → m ≡ 0 → a ≡ fixed i 0 ++ drop i a → fixed w n ≡ fixed i m ++ drop i a → a ≡ fixed w n
  zeros-done w n m i z e q = e ∙ ap (λ (k : ℕ). fixed i k ++ drop i a) (sym z) ∙ sym q

zeros-start : replicate 20 48 ≡ fixed 20 0 ++ drop 20 (replicate 20 48)
unfolding fixed
zeros-start = refl

-- the digits from i on are made, and m is what is left of the number: the first of them is no zero, or the last of all, once nothing is left
pub record Made (n : ℕ) (a : List ℕ) (m i : ℕ) : Type 0 where
  pub inside : i < 20
  pub size : length a ≡ 20
  pub digits : fixed 20 n ≡ fixed i m ++ drop i a
  pub zeros : a ≡ fixed i 0 ++ drop i a
  pub below : m < 10 ^ i
  pub some : i + 1 < 20 → 0 < m * 10 + (get_or a i 0 - 48)

pub made-start : (n : ℕ) → n < 2 ^ 64 → Made n (set (replicate 20 48) 19 (48 + n % 10)) (n / 10) 19
made-start n h =
    record {
      inside = omega arith;
      size = refl;
      digits = fixed-step 20 n n (replicate 20 48) refl 20 (omega arith) (le_refl 20) (sym (append-nil (fixed 20 n)));
      zeros = zeros-step (replicate 20 48) 20 20 (48 + n % 10) refl (omega arith) (le_refl 20) zeros-start;
      below = omega arith;
      some = λ l. absurd (omega arith);
    }

module _ (n : ℕ) (a : List ℕ) (m i : ℕ) (y : Made n a m i) where
  below_step : 0 < i → m / 10 < 10 ^ (i - 1)
  below_step p = go i p y.below
    where
      go : (i : ℕ) → 0 < i → m < 10 ^ i → m / 10 < 10 ^ (i - 1)
      go zero p h = absurd (not-suc-le-zero p)
      go (suc j) p h = let k : m < 10 ^ j * 10 = rw pow-suc at h in simp sub-one (omega arith)

  -- while something is left, there is a place for its digit
  pub place-left : 0 < m → 0 < i
  place-left h = go i y.below
    where
      go : (i : ℕ) → m < 10 ^ i → 0 < i
      go zero b = absurd (omega arith)
      go (suc j) b = omega arith

  pub made-step : 0 < m → Made n (set a (i - 1) (48 + m % 10)) (m / 10) (i - 1)
  made-step left =
      let p : 0 < i = place-left left in
      let l : i - 1 < length a = omega (arith, y.inside, y.size) in
      record {
        inside = omega (arith, y.inside);
        size = length-set a (i - 1) (48 + m % 10) ∙ y.size;
        digits = fixed-step 20 n m a y.size i p (omega (arith, y.inside)) y.digits;
        zeros = zeros-step a 20 i (48 + m % 10) y.size p (omega (arith, y.inside)) y.zeros;
        below = below_step p;
        some = λ _. rw (get_or-set_same a (i - 1) (48 + m % 10) 0 l) (omega arith);
      }

  module _ (none : m ≤ 0) where
    nothing : m ≡ 0
    nothing = omega arith

    pub digits-made : a ≡ fixed 20 n
    digits-made = zeros-done a 20 n m i nothing y.zeros y.digits

    pub zeros-made : i ≡ lead_zeros a
    zeros-made = made-zeros 20 i m a y.size y.inside y.zeros nothing y.some
