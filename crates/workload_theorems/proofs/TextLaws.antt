-- Laws of a load's text: no line end stands in a step's text, so the lines of the text are those of the steps.
use Prim.Native.Nat.{ℕ, zero, suc, ◌<◌}
use native.Mathlib.Omega.{arith}
use mathlib.Core.Path.{◌≡◌, refl, ap, ◌∙◌}
use mathlib.Core.List.{List, [], ◌∷◌, ◌++◌, append_assoc}
use mathlib.Core.Bool.{Bool, true}
use lib.Dec.{ltb}
use lib.ListN.{length}
use borrow.Author.Tests.{lt-ltb, ltb-true}
use Rattle.texts.specs.Lists.{every, find}
use Rattle.texts.specs.Digits.{decimal}
use Rattle.texts.proofs.Tests.{and_both}
use Rattle.texts.proofs.ListLaws.{every_append, every-weaker}
use Rattle.texts.proofs.FindLaws.{find_absent}
use Rattle.fields.specs.Number.{number_text}
use Rattle.coding.specs.Params.{split_at}
use Rattle.console.specs.Session.{lines_in}
use Rattle.console.proofs.FeedLaws.{lines-first}
use Rattle.generator.specs.declared.Rolls.{Rolls}
use Rattle.generator.specs.Generator.{value_after, rolls_from}
use Rattle.workload.specs.declared.line.Step.{Step}
use Rattle.workload.specs.declared.line.Step.TheVariants.{Asks, Draws}
use Rattle.workload.specs.Given.{Load, is_load}
use Rattle.workload.specs.Lines.{step_of, kopecks_of, account_for, text_for, line_after}
use Rattle.workload.specs.Load.{lines_from}
use Rattle.workload_theorems.specs.LoadClaims.{text_after, texts_from}
use Rattle.workload_theorems.proofs.ShownLaws.{is_shown, date-shown, decimal-shown, text-shown}
use Rattle.workload_theorems.proofs.AskedLaws.{load-dated, number-good, asks-line, draws-line, asked-shown}

-- ---- a step's text has blanks, but nothing below
abbrev is_printed : ℕ → Bool
is_printed b = ltb 31 b

shown-printed : (b : ℕ) → is_shown b ≡ true → is_printed b ≡ true
shown-printed b h = let k : 31 < b = omega (arith, ltb-true 32 b h) in lt-ltb 31 b k

field-printed : (s : List ℕ) → every is_shown s ≡ true → every is_printed s ≡ true
field-printed s h = every-weaker is_shown is_printed s shown-printed h

-- a field, and what follows it behind a blank
then-printed : (s t : List ℕ) → every is_shown s ≡ true → every is_printed t ≡ true → every is_printed (s ++ (32 ∷ t)) ≡ true
unfolding every
then-printed s t h k = every_append is_printed s (32 ∷ t) ∙ and_both (every is_printed s) (every is_printed t) (field-printed s h) k

module _ (l : Load) (h : is_load l ≡ true) where
  module _ (r : Rolls) where
    step-printed : (s : Step) → step_of r.step ≡ s → every is_printed (text_for l r) ≡ true
    step-printed (Asks action) e =
        ap (every is_printed) (asks-line l h r action e)
        ∙ then-printed (82 ∷ []) _ (unfold every in refl) (then-printed l.date _ (date-shown l.date (load-dated l h)) (field-printed _ (asked-shown l h r action)))
    step-printed Draws e =
        ap (every is_printed) (draws-line l h r e)
        ∙ then-printed (68 ∷ []) _ (unfold every in refl)
        (then-printed (number_text (account_for l r).number) _ (text-shown (account_for l r).number (number-good l h r))
        (then-printed (decimal (account_for l r).kind) _ (decimal-shown (account_for l r).kind) (field-printed _ (decimal-shown (kopecks_of r)))))

  text-whole : (v : ℕ) → find 10 (text_after l v) ≡ length (text_after l v)
  text-whole v = find_absent is_printed 10 (text_after l v) refl (step-printed (rolls_from v) (step_of (rolls_from v).step) refl)

  pub lines-found : (n v : ℕ) → lines_in (split_at 10 (lines_from l n v)) ≡ texts_from l n v
  unfolding lines_from line_after texts_from
  lines-found zero v = unfold split_at lines_in in refl
  lines-found (suc n) v =
      rw append_assoc
      (lines-first (text_after l v) (lines_from l n (value_after 4 v)) (text-whole v)
      ∙ ap (λ (ts : List (List ℕ)). text_after l v ∷ ts) (lines-found n (value_after 4 v)))
