use borrow.Author.Rules.{rules}
use Rattle.texts.proofs.WordLaws.{words-pass, words-differ, words-all, whole-next}
use Rattle.texts.proofs.scan.words_same.Goals as goal

pub returns-then-word_at : goal.returns-then-word_at
returns-then-word_at c = search (words-differ, rules)

pub loop-i-preserved : goal.loop-i-preserved
loop-i-preserved c = search (words-pass, whole-next, rules)

pub returns : goal.returns
returns c = search (words-all, rules)
