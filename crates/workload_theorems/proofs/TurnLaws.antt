-- Laws of a session's turn on the lines of a load: their fields, and what they do.
use Rattle.std.specs.Prelude.{Some}
use Prim.Native.Nat.{ℕ, suc, ◌+◌, ◌≤◌}
use native.Mathlib.Omega.{arith}
use mathlib.Core.Path.{◌≡◌, refl, ◌∙◌}
use mathlib.Core.List.{List, [], ◌∷◌, ◌++◌}
use mathlib.Core.Bool.{true}
use lib.ListN.{length, replicate}
use lib.Seq.{drop-append-add}
use Rattle.texts.specs.Lists.{every, find, eq_list}
use Rattle.texts.specs.Digits.{digits_read, decimal}
use Rattle.texts.proofs.FindLaws.{find-seam}
use Rattle.texts.proofs.DigitLaws.{within-high}
use Rattle.texts.proofs.DecimalLaws.{digits-again}
use Rattle.fields.specs.declared.number.Number.{Number}
use Rattle.fields.specs.Number.{number_text, number_of, is_number}
use Rattle.fields.specs.Codes.{is_kind}
use Rattle.fields.specs.Amount.{is_amount}
use Rattle.fields.proofs.CodeLaws.{kind-again}
use Rattle.fields.proofs.NumberLaws.{number-again}
use Rattle.dates.specs.Date.{is_written}
use Rattle.dates.proofs.DateLaws.{date-again}
use Rattle.coding.proofs.ParamLaws.{split-append, split-last}
use Rattle.table.specs.Table.{Rows}
use Rattle.opening.specs.Opening.{draw_funds}
use Rattle.gate.specs.Deliver.{deliver}
use Rattle.line_fields.specs.LineFields.{spaced, after_space, params_in}
use Rattle.orders.specs.Order.{Console, order_turn, ask_turn, draw_turn, answered, replied}
use Rattle.workload_theorems.proofs.ShownLaws.{is_shown, no-blank, date-shown, text-shown, decimal-shown}

-- ---- fields that are put together
-- the last field, and one before others
last-field : (s : List ℕ) → every is_shown s ≡ true → spaced s ≡ s ∷ []
last-field s h = let n : length s ≤ find 32 s = omega (arith, no-blank s h) in split-last 32 s n

first_field : (s t : List ℕ) → every is_shown s ≡ true → spaced (s ++ (32 ∷ t)) ≡ s ∷ spaced t
first_field s t h = split-append 32 s t (no-blank s h)

behind-field : (s t : List ℕ) → every is_shown s ≡ true → after_space (s ++ (32 ∷ t)) ≡ t
behind-field s t h =
    let next : suc (length s) ≡ length s + 1 = omega arith in
    rw (find-seam 32 s t (no-blank s h), next) (drop-append-add s (32 ∷ t) 1)

-- ---- R clock parameters
module _ (date s : List ℕ) (dated : is_written date ≡ true) where
  pub line-params : params_in (82 ∷ (32 ∷ (date ++ (32 ∷ s)))) ≡ s
  unfolding every
  line-params = rw (behind-field (82 ∷ []) (date ++ (32 ∷ s)) refl) (behind-field date s (date-shown date dated))

  module _ (shown : every is_shown s ≡ true) where
    ask-fields : spaced (82 ∷ (32 ∷ (date ++ (32 ∷ s)))) ≡ (82 ∷ []) ∷ (date ∷ (s ∷ []))
    unfolding every
    ask-fields =
        first_field (82 ∷ []) (date ++ (32 ∷ s)) refl ∙ rw (first_field date s (date-shown date dated), last-field s shown)

    pub ask-turn : (x : Console) (t : Rows) → order_turn x t (82 ∷ (32 ∷ (date ++ (32 ∷ s)))) ≡ answered (deliver x.gate t date s (replicate 512 0))
    unfolding order_turn ask_turn eq_list
    ask-turn x t = rw (ask-fields, date-again date dated, line-params)

-- ---- D number type kopecks
module _ (n : Number) (kind kopecks : ℕ) (number : is_number n ≡ true) (kinded : is_kind kind ≡ true) (amount : is_amount kopecks ≡ true) where
  draw-fields : spaced (68 ∷ (32 ∷ (number_text n ++ (32 ∷ (decimal kind ++ (32 ∷ decimal kopecks))))))
      ≡ (68 ∷ []) ∷ (number_text n ∷ (decimal kind ∷ (decimal kopecks ∷ [])))
  unfolding every
  draw-fields =
      first_field (68 ∷ []) (number_text n ++ (32 ∷ (decimal kind ++ (32 ∷ decimal kopecks)))) refl
      ∙ rw (
        first_field (number_text n) (decimal kind ++ (32 ∷ decimal kopecks)) (text-shown n number),
        first_field (decimal kind) (decimal kopecks) (decimal-shown kind),
        last-field (decimal kopecks) (decimal-shown kopecks),
      )

  pub draw-turn : (x : Console) (t : Rows)
      → order_turn x t (68 ∷ (32 ∷ (number_text n ++ (32 ∷ (decimal kind ++ (32 ∷ decimal kopecks))))))
      ≡ replied t (draw_funds x.gate t (number_of (number_text n)) kind kopecks)
  unfolding order_turn draw_turn eq_list
  draw-turn x t =
      let most : kopecks ≤ 999999999 = within-high 1 999999999 kopecks amount in
      let read : digits_read 15 (decimal kopecks) ≡ Some kopecks = digits-again 15 kopecks (omega arith) (omega arith) (omega arith) in
      rw (draw-fields, read, draw-fields, number-again n number, kind-again kind kinded)
