-- Laws of a line that is put together in a row of 09, and written from there.
use Prim.Native.Nat.{ℕ, suc, ◌+◌, ◌≤◌, ◌<◌}
use native.Mathlib.Nat.{zero-add}
use native.Mathlib.Omega.{arith}
use mathlib.Core.Path.{◌≡◌, refl, sym, ap, ◌∙◌}
use mathlib.Core.List.{List, [], ◌∷◌, ◌++◌, append_assoc}
use mathlib.Core.Bool.{Bool, true, false}
use mir.Syntax.{w64}
use mir.Val.{Fits}
use lib.Dec.{leb}
use lib.ListN.{length, take, drop, length-append, get_or-replicate}
use lib.Seq.{take-append_seam}
use Rattle.texts.specs.Lists.{over, written, cursor_after}
use Rattle.texts.specs.Digits.{decimal}
use Rattle.fields.specs.Amount.{amount_bytes}
use Rattle.fields.specs.Number.{number_text}
use Rattle.texts.proofs.Tests.{cond-elim}
use Rattle.texts.proofs.ListLaws.{drop-next}
use Rattle.texts.proofs.OutLaws.{cursor-moves, written_over, cursor-then, written_then, over_none}
use Rattle.lines.specs.declared.line.Line.{Line}
use Rattle.lines.specs.Line.{is_line, line_body, line_bytes, line_text}
use Rattle.lines.specs.LineText.{row_of9, account_part}
use Rattle.lines.proofs.LineParts.{text-is, sizes, line-length}

row_next : (n : ℕ) → n < 96 → drop n row_of9 ≡ 9 ∷ drop (n + 1) row_of9
row_next n h = drop-next row_of9 n h ∙ ap (λ b. b ∷ drop (n + 1) row_of9) (get_or-replicate 96 n 9 0 h)

-- a text in the row has its separator behind it already
module _ (w : List ℕ) (fit : length w < 96) where
  longer : length (w ++ (9 ∷ [])) ≡ length w + 1
  longer = length-append w (9 ∷ [])

  tab-cursor : cursor_after row_of9 0 w + 1 ≡ cursor_after row_of9 0 (w ++ (9 ∷ []))
  tab-cursor =
      let l : 0 + length w ≤ 96 = omega arith in
      let m : 0 + length (w ++ (9 ∷ [])) ≤ 96 = omega (arith, longer) in
      rw (← cursor-moves row_of9 0 w l, ← cursor-moves row_of9 0 (w ++ (9 ∷ [])) m, longer) (omega arith)

  tab-written : written row_of9 0 w ≡ written row_of9 0 (w ++ (9 ∷ []))
  tab-written =
      let l : 0 + length w ≤ 96 = omega arith in
      let m : 0 + length (w ++ (9 ∷ [])) ≤ 96 = omega (arith, longer) in
      rw (← written_over row_of9 0 w l, ← written_over row_of9 0 (w ++ (9 ∷ [])) m) (rw (longer, zero-add (length w), zero-add (length w + 1), row_next (length w) fit) (sym (append_assoc w _ _)))

-- a field that is written one behind a text in the row
module _ (w ys : List ℕ) (fit : length w + suc (length ys) ≤ 96) (p : ℕ) (e : List ℕ) (ep : p ≡ cursor_after row_of9 0 w) (ee : e ≡ written row_of9 0 w) where
  inside : length w < 96
  inside = omega arith

  both-fit : 0 + (length (w ++ (9 ∷ [])) + length ys) ≤ 96
  both-fit = omega (arith, longer w inside)

  field-cursor : cursor_after e (p + 1) ys ≡ cursor_after row_of9 0 (w ++ (9 ∷ ys))
  field-cursor =
      rw (ep, ee, tab-cursor w inside, tab-written w inside)
      (cursor-then row_of9 0 (w ++ (9 ∷ [])) ys both-fit ∙ ap (cursor_after row_of9 0) (append_assoc w (9 ∷ []) ys))

  field-written : written e (p + 1) ys ≡ written row_of9 0 (w ++ (9 ∷ ys))
  field-written =
      rw (ep, ee, tab-cursor w inside, tab-written w inside)
      (written_then row_of9 0 (w ++ (9 ∷ [])) ys both-fit ∙ ap (written row_of9 0) (append_assoc w (9 ∷ []) ys))

  cursor-fits : Fits w64 (p + 1)
  cursor-fits = let l : 0 + length w ≤ 96 = omega arith in omega (arith, cursor-moves row_of9 0 w l)

-- two fields, one behind the other
module _ (w ys zs : List ℕ) (fit : length w + suc (length ys) + suc (length zs) ≤ 96) (p₀ p₁ : ℕ) (e₀ e₁ : List ℕ)
    (h₀ : p₀ ≡ cursor_after row_of9 0 w) (g₀ : e₀ ≡ written row_of9 0 w) (h₁ : p₁ ≡ cursor_after e₀ (p₀ + 1) ys) (g₁ : e₁ ≡ written e₀ (p₀ + 1) ys) where
  first_fits : length w + suc (length ys) ≤ 96
  first_fits = omega arith

  second_fits : length (w ++ (9 ∷ ys)) + suc (length zs) ≤ 96
  second_fits = rw length-append fit

  mid-cursor : p₁ ≡ cursor_after row_of9 0 (w ++ (9 ∷ ys))
  mid-cursor = h₁ ∙ field-cursor w ys first_fits p₀ e₀ h₀ g₀

  mid_written : e₁ ≡ written row_of9 0 (w ++ (9 ∷ ys))
  mid_written = g₁ ∙ field-written w ys first_fits p₀ e₀ h₀ g₀

  mid-fits : Fits w64 (p₁ + 1)
  mid-fits = cursor-fits (w ++ (9 ∷ ys)) zs second_fits p₁ e₁ mid-cursor mid_written

  two-cursor : cursor_after e₁ (p₁ + 1) zs ≡ cursor_after row_of9 0 (w ++ ((9 ∷ ys) ++ (9 ∷ zs)))
  two-cursor = field-cursor (w ++ (9 ∷ ys)) zs second_fits p₁ e₁ mid-cursor mid_written ∙ ap (cursor_after row_of9 0) (append_assoc w (9 ∷ ys) (9 ∷ zs))

  two-written : written e₁ (p₁ + 1) zs ≡ written row_of9 0 (w ++ ((9 ∷ ys) ++ (9 ∷ zs)))
  two-written = field-written (w ++ (9 ∷ ys)) zs second_fits p₁ e₁ mid-cursor mid_written ∙ ap (written row_of9 0) (append_assoc w (9 ∷ ys) (9 ∷ zs))

-- ---- number, type and date
module _ (x : Line) (good : is_line x ≡ true) (d : List ℕ) (row : d ≡ row_of9) (p₀ : ℕ) (e₀ : List ℕ)
    (h₀ : p₀ ≡ cursor_after d 0 (number_text x.number)) (g₀ : e₀ ≡ written d 0 (number_text x.number)) where
  account-room : length (number_text x.number) + suc (length (decimal x.kind)) + suc (length x.date) ≤ 96
  account-room = omega (arith, sizes x good)

  at-number : p₀ ≡ cursor_after row_of9 0 (number_text x.number)
  at-number = rw (← row) h₀

  row_number : e₀ ≡ written row_of9 0 (number_text x.number)
  row_number = rw (← row) g₀

  pub number_fits : Fits w64 (p₀ + 1)
  number_fits = cursor-fits (number_text x.number) (decimal x.kind) (omega (arith, account-room)) p₀ e₀ at-number row_number

  module _ (p₁ : ℕ) (e₁ : List ℕ) (h₁ : p₁ ≡ cursor_after e₀ (p₀ + 1) (decimal x.kind)) (g₁ : e₁ ≡ written e₀ (p₀ + 1) (decimal x.kind)) where
    pub kind_fits : Fits w64 (p₁ + 1)
    kind_fits = mid-fits (number_text x.number) (decimal x.kind) x.date account-room p₀ p₁ e₀ e₁ at-number row_number h₁ g₁

    pub account-cursor : (r : ℕ) → r ≡ cursor_after e₁ (p₁ + 1) x.date → r ≡ cursor_after row_of9 0 (account_part x)
    unfolding account_part
    account-cursor r q = q ∙ two-cursor (number_text x.number) (decimal x.kind) x.date account-room p₀ p₁ e₀ e₁ at-number row_number h₁ g₁

    pub account-written : (e : List ℕ) → e ≡ written e₁ (p₁ + 1) x.date → e ≡ written row_of9 0 (account_part x)
    unfolding account_part
    account-written e q = q ∙ two-written (number_text x.number) (decimal x.kind) x.date account-room p₀ p₁ e₀ e₁ at-number row_number h₁ g₁

-- ---- amount, receipt and the end
module _ (x : Line) (good : is_line x ≡ true) (p₀ : ℕ) (e₀ : List ℕ)
    (h₀ : p₀ ≡ cursor_after row_of9 0 (account_part x)) (g₀ : e₀ ≡ written row_of9 0 (account_part x)) where
  body_is : line_body x ≡ account_part x ++ ((9 ∷ amount_bytes x.amount) ++ (9 ∷ decimal x.receipt))
  unfolding line_body account_part
  body_is = simp append_assoc

  body-room : length (line_body x) + 2 ≤ 96
  unfolding line_bytes
  body-room =
      let l = line-length x good in
      let m = rw length-append at l in
      omega arith

  payment-room : length (account_part x) + suc (length (amount_bytes x.amount)) + suc (length (decimal x.receipt)) ≤ 96
  payment-room =
      let l = body-room in
      let m = rw (body_is, length-append, length-append) at l in
      omega arith

  pub account-fits : Fits w64 (p₀ + 1)
  account-fits = cursor-fits (account_part x) (amount_bytes x.amount) (omega (arith, payment-room)) p₀ e₀ h₀ g₀

  module _ (p₁ : ℕ) (e₁ : List ℕ) (h₁ : p₁ ≡ cursor_after e₀ (p₀ + 1) (amount_bytes x.amount)) (g₁ : e₁ ≡ written e₀ (p₀ + 1) (amount_bytes x.amount)) where
    pub amount-fits : Fits w64 (p₁ + 1)
    amount-fits = mid-fits (account_part x) (amount_bytes x.amount) (decimal x.receipt) payment-room p₀ p₁ e₀ e₁ h₀ g₀ h₁ g₁

    module _ (p₂ : ℕ) (e₂ : List ℕ) (h₂ : p₂ ≡ cursor_after e₁ (p₁ + 1) (decimal x.receipt)) (g₂ : e₂ ≡ written e₁ (p₁ + 1) (decimal x.receipt)) where
      body-cursor : p₂ ≡ cursor_after row_of9 0 (line_body x)
      body-cursor = h₂ ∙ two-cursor (account_part x) (amount_bytes x.amount) (decimal x.receipt) payment-room p₀ p₁ e₀ e₁ h₀ g₀ h₁ g₁ ∙ rw body_is

      body-written : e₂ ≡ written row_of9 0 (line_body x)
      body-written = g₂ ∙ two-written (account_part x) (amount_bytes x.amount) (decimal x.receipt) payment-room p₀ p₁ e₀ e₁ h₀ g₀ h₁ g₁ ∙ rw body_is

      pub bytes-cursor : (r : ℕ) → r ≡ cursor_after e₂ p₂ (13 ∷ (10 ∷ [])) → r ≡ cursor_after row_of9 0 (line_bytes x)
      unfolding line_bytes
      bytes-cursor r q = q ∙ rw (body-cursor, body-written) (cursor-then row_of9 0 (line_body x) (13 ∷ (10 ∷ [])) (omega (arith, body-room)))

      pub bytes-written : (e : List ℕ) → e ≡ written e₂ p₂ (13 ∷ (10 ∷ [])) → e ≡ written row_of9 0 (line_bytes x)
      unfolding line_bytes
      bytes-written e q = q ∙ rw (body-cursor, body-written) (written_then row_of9 0 (line_body x) (13 ∷ (10 ∷ [])) (omega (arith, body-room)))

-- ---- no text
module _ (d : List ℕ) (at : ℕ) where
  none-cursor : at ≡ cursor_after d at []
  unfolding cursor_after
  none-cursor = cond-elim (λ n. at ≡ n) (leb (at + 0) (length d)) (at + 0) at (λ _. omega arith) (λ _. refl)

  none_written : d ≡ written d at []
  unfolding written
  none_written = cond-elim (λ e. d ≡ e) (leb (at + 0) (length d)) (over d at []) d (λ _. sym (over_none d at)) (λ _. refl)

-- ---- a line that is one, and one that is none
module _ (x : Line) (t : Bool) (test : t ≡ is_line x) where
  text-none : t ≡ false → line_text x ≡ []
  unfolding line_text
  text-none h = rw (← test, h)

  module _ (d : List ℕ) (at : ℕ) where
    pub bad-cursor : t ≡ false → at ≡ cursor_after d at (line_text x)
    bad-cursor h = rw (text-none h) (none-cursor d at)

    pub bad-kept : (e : List ℕ) → e ≡ d → t ≡ false → e ≡ written d at (line_text x)
    bad-kept e q h = q ∙ rw (text-none h) (none_written d at)

-- ---- the line
module _ (x : Line) (good : is_line x ≡ true) (n : ℕ) (row f : List ℕ) (h : n ≡ cursor_after row_of9 0 (line_bytes x)) (g : row ≡ written row_of9 0 (line_bytes x)) (part : f ≡ take n row) where
  part-is : f ≡ line_text x
  part-is =
      let l : 0 + length (line_bytes x) ≤ 96 = omega (arith, line-length x good) in
      part
      ∙ rw (h, g, text-is x good, ← cursor-moves row_of9 0 (line_bytes x) l, ← written_over row_of9 0 (line_bytes x) l)
      (rw zero-add (take-append_seam (line_bytes x) _))

  module _ (d : List ℕ) (at : ℕ) where
    pub line-cursor : (r : ℕ) → r ≡ cursor_after d at f → r ≡ cursor_after d at (line_text x)
    line-cursor r q = q ∙ rw part-is

    pub line-written : (e : List ℕ) → e ≡ written d at f → e ≡ written d at (line_text x)
    line-written e q = q ∙ rw part-is
