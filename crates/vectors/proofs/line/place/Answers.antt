use borrow.Author.Rules.{rules}
use Rattle.vectors.proofs.LineLaws.{word-inside, word-here, word-passed, words-done, word_size, word_fits, place-below}
use Rattle.vectors.proofs.line.place.Goals as goal

pub returns-then-same_bytes : goal.returns-then-same_bytes
returns-then-same_bytes c = search (word-here, rules)

pub overflow_add-at : goal.overflow_add-at
overflow_add-at c = search (word_size, rules)

pub overflow_add-at-in-loop-at : goal.overflow_add-at-in-loop-at
overflow_add-at-in-loop-at c = search (word_fits, rules)

pub loop-at-preserved : goal.loop-at-preserved
loop-at-preserved c = search (word-inside, place-below, word-passed, rules)

pub returns : goal.returns
returns c = search (words-done, rules)
