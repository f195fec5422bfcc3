use Rattle.gate.proofs.DeliverLaws.{executed-answered, instruction-amount}
use Rattle.gate.proofs.deliver.answer_read.Goals as goal

pub execute-x-requires : goal.execute-x-requires
execute-x-requires c =
    record {
      ready = c.requires.ready;
      dates_value = (c.requires.good, instruction-amount c.args.asked c.instruction_of.result c.instruction_of.ensures c.requires.small);
    }

pub returns-clause-value : goal.returns-clause-value
returns-clause-value c =
    executed-answered _ _ _ _ c.args.asked _ _ _ _ _ _ _ _ _ c.instruction_of.ensures c.execute-x.ensures.value c.answer_of-answer.ensures c.write_answer-size.ensures.0 c.write_answer-size.ensures.1
