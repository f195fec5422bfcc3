-- Laws of texts written into a lent buffer.
use Prim.Native.Nat.{ℕ, suc, ◌+◌, ◌-◌, ◌≤◌, ◌<◌}
use native.Mathlib.Numerals.{add-one}
use native.Mathlib.Nat.{add-suc, suc-add, add-zero, zero-add, add_assoc}
use native.Mathlib.Omega.{arith}
use mathlib.Core.Path.{◌≡◌, refl, ap, sym, ◌∙◌}
use mathlib.Core.List.{List, [], ◌∷◌, ◌++◌, append_assoc}
use lib.ListN.{length, get_or, take, drop, set, length-append, length-drop, take-append-drop, get_or-append}
use lib.Seq.{take-suc-set, drop-set-lt, length-take-le, take_at, take-append_seam, drop-append-add, drop-drop, get_or-take, get_or-drop, get_or-append-add}
use borrow.Author.Tests.{le-leb, lt-leb, leb-true}
use lib.Dec.{leb}
use mathlib.Core.Bool.{Bool, true, false, cond}
use borrow.Rule.Slice.PartMut.{put_mid, Post-is}
use Rattle.texts.specs.Lists.{over, written, cursor_after}
use Rattle.texts.proofs.Tests.{cond-elim}

pub over-step : (d : List ℕ) (p x : ℕ) (xs : List ℕ) → p < length d → over d p (x ∷ xs) ≡ over (set d p x) (p + 1) xs
over-step d p x xs h = simp (add-one, take-suc-set d p x h, append_assoc, drop-set-lt (suc (p + length xs)) d p x (omega arith), add-suc, suc-add)

pub over_none : (d : List ℕ) (p : ℕ) → over d p [] ≡ d
over_none d p = rw add-zero (take-append-drop p d)

-- ---- a text that has no room, or has it: the cursor, and what the buffer e then holds
module _ (d : List ℕ) (at : ℕ) (xs : List ℕ) where
  pub cursor-stays : length d < at + length xs → at ≡ cursor_after d at xs
  unfolding cursor_after
  cursor-stays h = simp (lt-leb _ _ h)

  pub buffer-stays : length d < at + length xs → d ≡ written d at xs
  unfolding written
  buffer-stays h = simp (lt-leb _ _ h)

  pub cursor-moves : at + length xs ≤ length d → at + length xs ≡ cursor_after d at xs
  unfolding cursor_after
  cursor-moves h = simp (le-leb _ _ h)

  pub written_over : at + length xs ≤ length d → over d at xs ≡ written d at xs
  unfolding written
  written_over h = simp (le-leb _ _ h)

-- ---- put_bytes
module _ (d₀ src : List ℕ) (at : ℕ) where
  pub past_end : length d₀ < at → at ≡ cursor_after d₀ at src
  past_end h = cursor-stays d₀ at src (omega arith)

  pub past-end-kept : (e : List ℕ) → e ≡ d₀ → length d₀ < at → e ≡ written d₀ at src
  past-end-kept e q h = q ∙ buffer-stays d₀ at src (omega arith)

  pub no_room : at ≤ length d₀ → length d₀ - at < length src → at ≡ cursor_after d₀ at src
  no_room l h = cursor-stays d₀ at src (omega arith)

  pub no-room-kept : (e : List ℕ) → e ≡ d₀ → at ≤ length d₀ → length d₀ - at < length src → e ≡ written d₀ at src
  no-room-kept e q l h = q ∙ buffer-stays d₀ at src (omega arith)

  pub put-cursor : at ≤ length d₀ → length src ≤ length d₀ - at → at + length src ≡ cursor_after d₀ at src
  put-cursor l h = cursor-moves d₀ at src (omega arith)

  pub put_done : (part : List ℕ) → part ≡ src → at ≤ length d₀ → length src ≤ length d₀ - at → put_mid at (at + length src - at) d₀ part ≡ written d₀ at src
  put_done part e l h = rw (e, Post-is at (at + length src) d₀ (omega arith)) (written_over d₀ at src (omega arith))

-- ---- one text after another
module _ (d : List ℕ) (at : ℕ) (xs : List ℕ) (fit : at + length xs ≤ length d) where
  head-size : length (take at d ++ xs) ≡ at + length xs
  head-size = rw (length-append, length-take-le at d (omega arith))

  pub over-length : length (over d at xs) ≡ length d
  over-length = simp (length-append, length-take-le at d (omega arith), length-drop) (omega arith)

  pub over-over : (ys : List ℕ) → over (over d at xs) (at + length xs) ys ≡ over d at (xs ++ ys)
  over-over ys =
      rw (← append_assoc (take at d) xs (drop (at + length xs) d))
      (rw (take_at (take at d ++ xs) (drop (at + length xs) d) (at + length xs) head-size, ← head-size)
      (rw drop-append-add
      (simp (head-size, drop-drop, append_assoc, length-append, add_assoc))))

-- a writing keeps the buffer's length
pub written-length : (d : List ℕ) (at : ℕ) (xs : List ℕ) → length (written d at xs) ≡ length d
unfolding written
written-length d at xs = go (leb (at + length xs) (length d)) refl
  where
    go : (t : Bool) → leb (at + length xs) (length d) ≡ t → length (cond t (over d at xs) d) ≡ length d
    go true e = over-length d at xs (leb-true (at + length xs) (length d) e)
    go false e = refl

-- two writings, the second at the cursor of the first, are one of both texts where both have room
module _ (d : List ℕ) (at : ℕ) (xs ys : List ℕ) (fit : at + (length xs + length ys) ≤ length d) where
  first_fits : at + length xs ≤ length d
  first_fits = omega arith

  pub cursor-then : cursor_after (written d at xs) (cursor_after d at xs) ys ≡ cursor_after d at (xs ++ ys)
  cursor-then =
      let l : length (written d at xs) ≡ length d = written-length d at xs in
      let p : at + length xs + length ys ≤ length (written d at xs) = omega arith in
      let q : at + length (xs ++ ys) ≤ length d = rw length-append (omega arith) in
      rw (← cursor-moves d at xs first_fits, ← cursor-moves (written d at xs) (at + length xs) ys p, ← cursor-moves d at (xs ++ ys) q) (rw (length-append, add_assoc))

  pub written_then : written (written d at xs) (cursor_after d at xs) ys ≡ written d at (xs ++ ys)
  written_then =
      let l : length (over d at xs) ≡ length d = over-length d at xs first_fits in
      let p : at + length xs + length ys ≤ length (over d at xs) = omega arith in
      let q : at + length (xs ++ ys) ≤ length d = rw length-append (omega arith) in
      rw (← cursor-moves d at xs first_fits, ← written_over d at xs first_fits, ← written_over (over d at xs) (at + length xs) ys p, ← written_over d at (xs ++ ys) q)
      (over-over d at xs first_fits ys)

-- ---- a text written at the start is what the buffer begins with: read back by its length, and by the cursor that is handed back
pub text-first : (out xs : List ℕ) → length xs ≤ length out → take (length xs) (written out 0 xs) ≡ xs
text-first out xs fit =
    let f : 0 + length xs ≤ length out = omega arith in
    rw (← written_over out 0 xs f, zero-add) (take-append_seam xs (drop (length xs) out))

pub text-back : (out xs : List ℕ) → length xs ≤ length out → take (cursor_after out 0 xs) (written out 0 xs) ≡ xs
text-back out xs fit =
    let f : 0 + length xs ≤ length out = omega arith in
    rw (← cursor-moves out 0 xs f, zero-add) (text-first out xs fit)

-- ---- every byte outside the text stays: before the cursor, and from the cursor that is handed back on
module _ (d : List ℕ) (at : ℕ) (xs : List ℕ) where
  over-before : at + length xs ≤ length d → (i : ℕ) → i < at → get_or (over d at xs) i 0 ≡ get_or d i 0
  over-before fit i h =
      let l : length (take at d) ≡ at = length-take-le at d (omega arith) in
      get_or-append (take at d) (xs ++ drop (at + length xs) d) 0 i (omega arith) ∙ get_or-take at d i 0 h

  over-past : at + length xs ≤ length d → (i : ℕ) → at + length xs ≤ i → get_or (over d at xs) i 0 ≡ get_or d i 0
  over-past fit i h =
      let s : length (take at d ++ xs) ≡ at + length xs = head-size d at xs fit in
      let e : i ≡ length (take at d ++ xs) + (i - (at + length xs)) = omega arith in
      let f : i ≡ at + length xs + (i - (at + length xs)) = omega arith in
      rw (← append_assoc (take at d) xs (drop (at + length xs) d))
      (ap (λ (j : ℕ). get_or ((take at d ++ xs) ++ drop (at + length xs) d) j 0) e
      ∙ get_or-append-add (take at d ++ xs) (drop (at + length xs) d) (i - (at + length xs)) 0
      ∙ get_or-drop (at + length xs) d (i - (at + length xs)) 0
      ∙ ap (λ (j : ℕ). get_or d j 0) (sym f))

  pub bytes-before : (i : ℕ) → i < at → get_or (written d at xs) i 0 ≡ get_or d i 0
  unfolding written
  bytes-before i h =
      cond-elim (λ (x : List ℕ). get_or x i 0 ≡ get_or d i 0) (leb (at + length xs) (length d)) (over d at xs) d
      (λ t. over-before (leb-true (at + length xs) (length d) t) i h)
      (λ _. refl)

  pub bytes_past : (i : ℕ) → at + length xs ≤ i → get_or (written d at xs) i 0 ≡ get_or d i 0
  unfolding written
  bytes_past i h =
      cond-elim (λ (x : List ℕ). get_or x i 0 ≡ get_or d i 0) (leb (at + length xs) (length d)) (over d at xs) d
      (λ t. over-past (leb-true (at + length xs) (length d) t) i h)
      (λ _. refl)
