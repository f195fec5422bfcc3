use Rattle.answer_reader.proofs.AnswerPartLaws.{open-none, open-both}
use Rattle.answer_reader.proofs.read.open.Goals as goal

pub returns-in_err-t : goal.returns-in_err-t
returns-in_err-t c = open-none _ _ c.in_err-t.ensures c.from_residual.ensures

pub returns : goal.returns
returns c = open-both _ _ c.in_ok-t.t c.in_ok-t.ensures c.pass_tag-2.ensures
