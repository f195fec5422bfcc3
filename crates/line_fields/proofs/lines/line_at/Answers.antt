use borrow.Author.Rules.{rules}
use Rattle.line_fields.proofs.LineLaws.{line-is}
use Rattle.line_fields.proofs.lines.line_at.Goals as goal

pub returns : goal.returns
returns c = search (line-is, rules)
