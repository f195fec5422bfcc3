use Rattle.std.proofs.Common.{arith}
use Rattle.parameters.proofs.WordLaws.{name-6-a}
use Rattle.parameters.proofs.action.name_index.Goals as goal

pub returns-in_default-21 : goal.returns-in_default-21
returns-in_default-21 c = grind (arith, name-6-a)
