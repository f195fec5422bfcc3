-- Laws of the lines of a text.
use Prim.Native.Nat.{ℕ, ◌+◌, ◌-◌, ◌≤◌, ◌<◌}
use native.Mathlib.Omega.{arith}
use mathlib.Core.Path.{◌≡◌, ap, ◌∙◌}
use mathlib.Core.List.{List}
use lib.ListN.{length, take, drop, length-drop}
use lib.Seq.{length-take-le}
use Rattle.texts.specs.Lists.{find}
use Rattle.texts.proofs.ScanLaws.{find-le}
use Rattle.line_fields.specs.LineFields.{line_at}

-- ---- a line that begins inside the text, and the place behind it
pub line-is : (s : List ℕ) (at : ℕ) (r l : List ℕ) → r ≡ drop at s → l ≡ take (find 10 r) r → l ≡ line_at at s
unfolding line_at
line-is s at r l er el = el ∙ ap (λ (x : List ℕ). take (find 10 x) x) er

module _ (s : List ℕ) (at : ℕ) (l : List ℕ) (el : l ≡ line_at at s) (h : at < length s) where
  line-size : at + length l ≤ length s
  unfolding line_at
  line-size =
      let part : length l ≡ find 10 (drop at s) = ap length el ∙ length-take-le (find 10 (drop at s)) (drop at s) (find-le 10 (drop at s)) in
      omega (arith, length-drop at s, part, find-le 10 (drop at s))

  pub next-is : at + length l + 1 ≡ at + (length (line_at at s) + 1)
  next-is = omega (arith, ap length el)

  pub next-inside : at + length l + 1 ≤ length s + 1
  next-inside = omega (arith, line-size)

-- ---- the lines that are left
pub line-falls : (s : List ℕ) (at r : ℕ) → at < r → r ≤ length s + 1 → length s + 1 - r < length s + 1 - at
line-falls s at r a b = omega arith
