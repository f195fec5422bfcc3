-- Laws of the writer of coded text.
use Prim.Native.Nat.{ℕ, ◌+◌, ◌-◌, ◌/◌, ◌%◌, ◌≤◌, ◌<◌}
use native.Mathlib.Omega.{arith}
use mathlib.Core.Path.{◌≡◌, refl, sym, ◌∙◌}
use mathlib.Core.List.{List, [], ◌∷◌, ◌++◌}
use mathlib.Core.Bool.{Bool, true, false, cond}
use lib.Dec.{leb}
use lib.ListN.{length, get_or, drop, length-append, drop_of_length-le}
use borrow.Author.Tests.{le-leb, lt-leb, lt-ltb, le-ltb, leb-true, leb-false}
use Rattle.texts.specs.Lists.{written, cursor_after}
use Rattle.texts.proofs.ListLaws.{drop-next}
use Rattle.texts.proofs.OutLaws.{over_none, no_room, no-room-kept, cursor-moves, written_over, written-length, cursor-then, written_then}
use Rattle.coding.specs.Url.{is_plain, hex_digit, coded_byte, coded}
use Rattle.coding.specs.Units.{code_size}

-- ---- one byte
module _ (v : ℕ) where
  pub digit_low : v < 10 → 48 + v ≡ hex_digit v
  digit_low h = simp (lt-ltb _ _ h)

  pub digit-high : 10 ≤ v → 55 + v ≡ hex_digit v
  digit-high h = simp (le-ltb _ _ h)

module _ (b : ℕ) (t : Bool) (test : t ≡ is_plain b) where
  pub size-plain : t ≡ true → 1 ≡ code_size b
  size-plain e = rw (← test, e)

  pub size-other : t ≡ false → 3 ≡ code_size b
  size-other e = rw (← test, e)

  pub code-plain : t ≡ true → b ∷ [] ≡ coded_byte b
  unfolding coded_byte
  code-plain e = rw (← test, e)

  pub code_other : (h l : ℕ) → t ≡ false → h ≡ hex_digit (b / 16) → l ≡ hex_digit (b % 16) → 37 ∷ (h ∷ (l ∷ [])) ≡ coded_byte b
  unfolding coded_byte
  code_other h l e eh el = rw (← test, e, eh, el)

module _ (b : ℕ) (d : List ℕ) (at : ℕ) (xs : List ℕ) where
  pub byte-cursor : (r : ℕ) → r ≡ cursor_after d at xs → xs ≡ coded_byte b → r ≡ cursor_after d at (coded_byte b)
  byte-cursor r e q = e ∙ rw q

  pub byte-written : (x : List ℕ) → x ≡ written d at xs → xs ≡ coded_byte b → x ≡ written d at (coded_byte b)
  byte-written x e q = e ∙ rw q

pub code-length : (b : ℕ) → length (coded_byte b) ≡ code_size b
unfolding coded_byte
code-length b = go (is_plain b)
  where
    go : (t : Bool) → length (cond t (b ∷ []) (37 ∷ (hex_digit (b / 16) ∷ (hex_digit (b % 16) ∷ [])))) ≡ cond t 1 3
    go true = refl
    go false = refl

-- ---- whether coded text has room
less : (n m k : ℕ) → n ≤ k → leb (n + m) k ≡ leb m (k - n)
less n m k h = go (leb m (k - n)) refl
  where
    go : (t : Bool) → leb m (k - n) ≡ t → leb (n + m) k ≡ t
    go true e = le-leb (n + m) k (omega (arith, leb-true m (k - n) e))
    go false e = lt-leb (n + m) k (omega (arith, leb-false m (k - n) e))

module _ (s : List ℕ) (i : ℕ) (h : i < length s) where
  pub coded-next : coded (drop i s) ≡ coded_byte (get_or s i 0) ++ coded (drop (i + 1) s)
  unfolding coded
  coded-next = rw (drop-next s i h)

  module _ (n : ℕ) (en : n ≡ code_size (get_or s i 0)) where
    coded-size : length (coded (drop i s)) ≡ n + length (coded (drop (i + 1) s))
    coded-size = rw (coded-next, length-append, code-length, en)

    module _ (most left : ℕ) (passed : leb (length (coded s)) most ≡ leb (length (coded (drop i s))) left) where
      pub room-step : n ≤ left → leb (length (coded s)) most ≡ leb (length (coded (drop (i + 1) s))) (left - n)
      room-step l = passed ∙ rw coded-size (less n (length (coded (drop (i + 1) s))) left l)

      pub room-fails : left < n → false ≡ leb (length (coded s)) most
      room-fails l = sym (passed ∙ rw coded-size (lt-leb (n + length (coded (drop (i + 1) s))) left (omega arith)))

pub room-done : (s : List ℕ) (i most left : ℕ) → length s ≤ i → leb (length (coded s)) most ≡ leb (length (coded (drop i s))) left → true ≡ leb (length (coded s)) most
unfolding coded
room-done s i most left l e = sym (e ∙ rw (drop_of_length-le s l) (le-leb 0 left (omega arith)))

-- ---- coded text, byte by byte
module _ (d₀ s : List ℕ) (at : ℕ) where
  module _ (low : at ≤ length d₀) (t : Bool) (test : t ≡ leb (length (coded s)) (length d₀ - at)) where
    short : t ≡ false → length d₀ - at < length (coded s)
    short e = leb-false (length (coded s)) (length d₀ - at) (sym test ∙ e)

    pub coded-stays : t ≡ false → at ≡ cursor_after d₀ at (coded s)
    coded-stays e = no_room d₀ (coded s) at low (short e)

    pub coded_kept : t ≡ false → (x : List ℕ) → x ≡ d₀ → x ≡ written d₀ at (coded s)
    coded_kept e x q = no-room-kept d₀ (coded s) at x q low (short e)

    pub coded-fits : t ≡ true → at + length (coded s) ≤ length d₀
    coded-fits e = omega (arith, leb-true (length (coded s)) (length d₀ - at) (sym test ∙ e))

  module _ (d : List ℕ) (p i : ℕ) where
    module _ (h : i < length s) (fit : p + length (coded (drop i s)) ≤ length d) where
      both-fit : p + (length (coded_byte (get_or s i 0)) + length (coded (drop (i + 1) s))) ≤ length d
      both-fit = let q : length (coded (drop i s)) ≡ length (coded_byte (get_or s i 0)) + length (coded (drop (i + 1) s)) = rw (coded-next s i h, length-append) in omega arith

      module _ (r : ℕ) (x : List ℕ) (er : r ≡ cursor_after d p (coded_byte (get_or s i 0))) (ex : x ≡ written d p (coded_byte (get_or s i 0))) where
        pub cursor-step : cursor_after d₀ at (coded s) ≡ cursor_after d p (coded (drop i s)) → cursor_after d₀ at (coded s) ≡ cursor_after x r (coded (drop (i + 1) s))
        cursor-step e = e ∙ rw (coded-next s i h, er, ex) (sym (cursor-then d p (coded_byte (get_or s i 0)) (coded (drop (i + 1) s)) both-fit))

        pub written_step : written d₀ at (coded s) ≡ written d p (coded (drop i s)) → written d₀ at (coded s) ≡ written x r (coded (drop (i + 1) s))
        written_step e = e ∙ rw (coded-next s i h, er, ex) (sym (written_then d p (coded_byte (get_or s i 0)) (coded (drop (i + 1) s)) both-fit))

        pub fit-step : r + length (coded (drop (i + 1) s)) ≤ length x
        fit-step =
            let l : length x ≡ length d = rw ex (written-length d p (coded_byte (get_or s i 0))) in
            let m : p + length (coded_byte (get_or s i 0)) ≡ r = cursor-moves d p (coded_byte (get_or s i 0)) (omega (arith, both-fit)) ∙ sym er in
            omega (arith, both-fit)

    module _ (done : length s ≤ i) (fit : p + length (coded (drop i s)) ≤ length d) where
      nothing : coded (drop i s) ≡ []
      unfolding coded
      nothing = rw (drop_of_length-le s done)

      behind : p + length (coded (drop i s)) ≡ p
      behind = rw nothing (omega arith)

      pub cursor-done : cursor_after d₀ at (coded s) ≡ cursor_after d p (coded (drop i s)) → p ≡ cursor_after d₀ at (coded s)
      cursor-done e = sym (e ∙ sym (cursor-moves d p (coded (drop i s)) fit) ∙ behind)

      pub written-done : (x : List ℕ) → x ≡ d → written d₀ at (coded s) ≡ written d p (coded (drop i s)) → x ≡ written d₀ at (coded s)
      written-done x q e = q ∙ sym (e ∙ sym (written_over d p (coded (drop i s)) fit) ∙ rw nothing (over_none d p))
