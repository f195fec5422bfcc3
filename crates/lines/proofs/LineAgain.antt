-- A line is read back from what is written: no field holds a separator, and no line an end.
use Rattle.std.specs.Prelude.{Some}
use Prim.Native.Nat.{ℕ, ◌≤◌, ◌<◌}
use native.Mathlib.Numerals.{add-one}
use native.Mathlib.Omega.{arith}
use mathlib.Core.Path.{◌≡◌, refl, sym}
use mathlib.Core.List.{List, ◌∷◌, ◌++◌}
use mathlib.Core.Bool.{Bool, true, not}
use lib.Dec.{leb, eqb}
use lib.ListN.{length}
use lib.Seq.{take-append_seam, drop-append-add}
use borrow.Author.Tests.{eq-eqb, ne_eqb, leb-true}
use Rattle.texts.specs.Lists.{every, find}
use Rattle.texts.specs.Digits.{is_digit, decimal}
use Rattle.fields.specs.Amount.{amount_bytes}
use Rattle.fields.specs.Number.{number_byte, number_text, number_of}
use Rattle.texts.proofs.Tests.{both}
use Rattle.texts.proofs.ListLaws.{every_append, every-weaker}
use Rattle.texts.proofs.DigitLaws.{within_low, within-high}
use Rattle.texts.proofs.DecimalLaws.{decimal-digits}
use Rattle.fields.proofs.CodeLaws.{receipt-again, kind-again}
use Rattle.fields.proofs.AmountLaws.{amount-again, amount-bytes}
use Rattle.fields.proofs.NumberLaws.{byte-above-blank, text-bytes, number-again}
use Rattle.texts.proofs.FindLaws.{find-behind}
use Rattle.dates.proofs.DateLaws.{date-again, date-bytes}
use Rattle.lines.specs.declared.line.Line.{Line}
use Rattle.lines.specs.Line.{field, after_field, is_line, line_read, line_body, line_again}
use Rattle.lines.proofs.LineLaws.{line-fields}
use Rattle.lines.proofs.LineParts.{is-line}

-- whether a byte is another than b
abbrev pub other : ℕ → ℕ → Bool
other b x = not (eqb x b)

find-other : (b : ℕ) (xs ys : List ℕ) → every (other b) xs ≡ true → find b (xs ++ (b ∷ ys)) ≡ length xs
find-other b xs ys h = find-behind (other b) b xs ys (rw (eq-eqb b b refl)) h

module _ (xs ys : List ℕ) (free : every (other 9) xs ≡ true) where
  field-seam : field (xs ++ (9 ∷ ys)) ≡ xs
  field-seam = rw (find-other 9 xs ys free) (take-append_seam xs (9 ∷ ys))

  after-seam : after_field (xs ++ (9 ∷ ys)) ≡ ys
  after-seam = rw (find-other 9 xs ys free, ← add-one (length xs)) (drop-append-add xs (9 ∷ ys) 1)

-- ---- the bytes of the fields are above 32
module _ (b : ℕ) (low : b < 33) where
  above : (x : ℕ) → 32 < x → other b x ≡ true
  above x h = let n : x ≡ b → ⊥ = λ e. omega arith in rw (ne_eqb x b n)

  digit : (x : ℕ) → is_digit x ≡ true → other b x ≡ true
  digit x h = let l : 48 ≤ x = leb-true 48 x (both (leb 48 x) (leb x 57) h).0 in above x (omega arith)

  decimal-other : (n : ℕ) → every (other b) (decimal n) ≡ true
  decimal-other n = every-weaker is_digit (other b) (decimal n) digit (decimal-digits n)

  module _ (x : Line) (good : is_line x ≡ true) where
    number-other : every (other b) (number_text x.number) ≡ true
    number-other =
        every-weaker number_byte (other b) (number_text x.number) (λ c h. above c (byte-above-blank c h)) (text-bytes x.number (is-line x good).number)

    date-other : every (other b) x.date ≡ true
    date-other = date-bytes (other b) x.date digit (above 45 (omega arith)) (above 84 (omega arith)) (above 58 (omega arith)) (is-line x good).date

    amount-other : every (other b) (amount_bytes x.amount) ≡ true
    amount-other = amount-bytes (other b) x.amount digit (above 46 (omega arith))

-- ---- the line
module _ (x : Line) (good : is_line x ≡ true) where
  -- no 0D
  pub body-other : every (other 13) (line_body x) ≡ true
  unfolding every line_body
  body-other =
      let l : 13 < 33 = omega arith in
      simp (every_append, number-other 13 l x good, decimal-other 13 l, date-other 13 l x good, amount-other 13 l x good)

  pub line-again : line_read (line_body x) ≡ Some (line_again x)
  unfolding line_body line_again
  line-again =
      let h = is-line x good in
      let l : 9 < 33 = omega arith in
      let n = number_text x.number in
      let k = decimal x.kind in
      let a = amount_bytes x.amount in
      let r = decimal x.receipt in
      let s₃ = a ++ (9 ∷ r) in
      let s₂ = x.date ++ (9 ∷ s₃) in
      let s₁ = k ++ (9 ∷ s₂) in
      let line : Line = record { number = number_of n; kind = x.kind; date = x.date; amount = x.amount; receipt = x.receipt } in
      let fn = number-other 9 l x good in
      let fk = decimal-other 9 l x.kind in
      let fd = date-other 9 l x good in
      let fa = amount-other 9 l x good in
      sym (line-fields (n ++ (9 ∷ s₁)) s₁ s₂ s₃ n k x.date a r
      (Some (number_of n)) (Some x.kind) (Some x.date) (Some x.amount) (Some x.receipt) (Some line)
      (sym (field-seam n s₁ fn)) (sym (number-again x.number h.number))
      (sym (after-seam n s₁ fn)) (sym (field-seam k s₂ fk)) (sym (kind-again x.kind h.kind))
      (sym (after-seam k s₂ fk)) (sym (field-seam x.date s₃ fd)) (sym (date-again x.date h.date))
      (sym (after-seam x.date s₃ fd)) (sym (field-seam a r fa))
      (sym (amount-again x.amount (within_low 1 999999999 x.amount h.amount) (omega (arith, within-high 1 999999999 x.amount h.amount))))
      (sym (after-seam a r fa)) (sym (receipt-again x.receipt h.receipt)) refl)
