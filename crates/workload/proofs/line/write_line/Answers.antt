use borrow.Author.Rules.{rules}
use Rattle.workload.proofs.LineLaws.{line-cursor, line-written}
use Rattle.workload.proofs.line.write_line.Goals as goal

pub returns : goal.returns
returns c = (search (line-cursor, rules), search (line-written, rules))
