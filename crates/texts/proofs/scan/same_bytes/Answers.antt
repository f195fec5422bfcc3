use mathlib.Core.Path.{◌∙◌, sym}
use borrow.Author.Tests.{eqb-true}
use Rattle.texts.proofs.ScanLaws.{lengths_differ}
use Rattle.texts.proofs.WordLaws.{tail-decides, words-decide}
use Rattle.texts.proofs.scan.same_bytes.Goals as goal
use Rattle.texts.proofs.scan.same_bytes.Goals.{then-a-b, else-a-b}

pub returns-then-words_same : goal.returns-then-words_same
returns-then-words_same c =
    elim c.if-a-b.branch [
      | then-a-b w ↦ tail-decides c.args.a.now c.args.b.now c.if-a-b.value w.if-a-b.true (w.value-is ∙ w.words_same.ensures) c.rest_same.result c.if-words_same.true c.rest_same.ensures
      | else-a-b w ↦ absurd (w.if-a-b.false (eqb-true _ _ (sym w.value-is ∙ c.if-words_same.true)))
    ]

pub returns-else-words_same : goal.returns-else-words_same
returns-else-words_same c =
    elim c.if-a-b.branch [
      | then-a-b w ↦ c.if-words_same.false ∙ words-decide c.args.a.now c.args.b.now c.if-a-b.value w.if-a-b.true (w.value-is ∙ w.words_same.ensures) c.if-words_same.false
      | else-a-b w ↦ c.if-words_same.false ∙ lengths_differ c.args.a.now c.args.b.now w.if-a-b.false
    ]
