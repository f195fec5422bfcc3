use borrow.Author.Rules.{rules}
use Rattle.line_fields.proofs.LineLaws.{next-is, next-inside}
use Rattle.line_fields.proofs.lines.next_line.Goals as goal

pub returns : goal.returns
returns c = search (next-is, next-inside, rules)
