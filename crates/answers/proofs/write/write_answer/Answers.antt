use borrow.Author.Rules.{rules}
use Rattle.answers.proofs.AnswerTextLaws.{answer-cursor, answer-written}
use Rattle.answers.proofs.write.write_answer.Goals as goal

pub returns : goal.returns
returns c = (search (answer-cursor, rules), search (answer-written, rules))
