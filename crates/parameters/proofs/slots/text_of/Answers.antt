use Rattle.std.proofs.Common.{rules}
use Rattle.parameters.proofs.SlotLaws.{text-clipped}
use Rattle.parameters.proofs.slots.text_of.Goals as goal

pub returns : goal.returns
returns c = search (text-clipped, rules)
