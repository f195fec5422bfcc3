-- How the code writes a line, text by text. Cited by inner contracts only: it needs no belief.
use Rattle.std.specs.Prelude.{ℕ, List, [], ◌∷◌, ◌++◌}
use Rattle.texts.specs.Digits.{decimal}
use Rattle.fields.specs.declared.number.Number.{Number}
use Rattle.fields.specs.Number.{number_text}
use Rattle.message.specs.declared.request.Asked.{Asked}
use Rattle.message.specs.RequestText.{request_text}
use Rattle.generator.specs.declared.Rolls.{Rolls}
use Rattle.workload.specs.declared.given.AccountName.{AccountName}
use Rattle.workload.specs.declared.line.Step.{Step}
use Rattle.workload.specs.declared.line.Step.TheVariants.{Asks, Draws}
use Rattle.workload.specs.Lines.{kopecks_of, asked_of}

abbrev pub space : List ℕ
space = 32 ∷ []

abbrev pub line_end : List ℕ
line_end = 10 ∷ []

unfoldable pub head_texts : List ℕ → List ℕ → List (List ℕ)
head_texts letter field = letter ∷ (field ∷ (space ∷ []))

unfoldable pub figure_texts : ℕ → List ℕ → List (List ℕ)
figure_texts n end = decimal n ∷ (end ∷ [])

abbrev pub ask_texts : List ℕ → Asked → List (List ℕ)
ask_texts clock q = head_texts (82 ∷ space) clock ++ (request_text q ∷ (line_end ∷ []))

abbrev pub draw_texts : Number → ℕ → ℕ → List (List ℕ)
draw_texts n kind kopecks = head_texts (68 ∷ space) (number_text n) ++ (figure_texts kind space ++ figure_texts kopecks line_end)

unfoldable pub step_texts : List ℕ → ℕ → AccountName → Rolls → Step → List (List ℕ)
step_texts date reason a r (Asks action) = ask_texts date (asked_of date reason a r action)
step_texts date reason a r Draws = draw_texts a.number a.kind (kopecks_of r)
