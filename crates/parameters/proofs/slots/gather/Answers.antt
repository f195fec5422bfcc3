use Rattle.std.proofs.Common.{rules}
use Rattle.parameters.proofs.SlotLaws.{gather-twice, gather-end}
use Rattle.parameters.proofs.slots.gather.Goals as goal

pub returns-then-slots-place-ne0 : goal.returns-then-slots-place-ne0
returns-then-slots-place-ne0 c = search (gather-twice, rules)

pub returns : goal.returns
returns c = search (gather-end, rules)
