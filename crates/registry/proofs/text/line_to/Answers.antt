use Rattle.std.proofs.Common.{rules}
use Rattle.registry.proofs.CheckLaws.{line-here}
use Rattle.registry.proofs.text.line_to.Goals as goal

pub returns : goal.returns
returns c = search (line-here, rules)
