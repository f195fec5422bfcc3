use Rattle.std.proofs.Common.{refl}
use Rattle.settlement.proofs.TextLaws.{text-fault, text-read}
use Rattle.settlement.proofs.settle.settle_text.Goals as goal

pub returns-in-Ok-clause-value : goal.returns-in-Ok-clause-value
returns-in-Ok-clause-value c = text-read _ _ _ _ _ _ c.in-Ok.ensures.fault_value _ c.in-Ok.ensures.lines_value _ c.settle_read.ensures.value

pub returns-in-Err-clause-value : goal.returns-in-Err-clause-value
returns-in-Err-clause-value c = text-fault _ _ _ _ _ _ c.in-Err.fault c.in-Err.ensures.fault_value _ refl _ refl _ c.from.ensures
