use borrow.Author.Rules.{rules}
use Rattle.vectors.proofs.LineLaws.{heading_none, heading_first}
use Rattle.vectors.proofs.line.is_heading.Goals as goal

pub returns-then-is_empty : goal.returns-then-is_empty
returns-then-is_empty c = search (heading_none, rules)

pub returns-else-is_empty : goal.returns-else-is_empty
returns-else-is_empty c = search (heading_first, rules)
