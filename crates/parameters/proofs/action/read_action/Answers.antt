use Rattle.std.proofs.Common.{arith}
use Rattle.parameters.proofs.WordLaws.{action-6}
use Rattle.parameters.proofs.action.read_action.Goals as goal

pub returns-in_default-17 : goal.returns-in_default-17
returns-in_default-17 c = grind (arith, action-6)
