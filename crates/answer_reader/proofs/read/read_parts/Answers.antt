use Rattle.answer_reader.proofs.AnswerPartLaws.{parts-read}
use Rattle.answer_reader.proofs.read.read_parts.Goals as goal

pub returns : goal.returns
returns c = parts-read _ _ c.in_ok-c.c c.in_ok-c.ensures c.in_ok-p.p c.in_ok-p.ensures c.in_ok-rest.rest.now c.in_ok-rest.ensures
