use borrow.Author.Rules.{rules}
use Rattle.workload.proofs.LineLaws.{asks-cursor, asks-buffer}
use Rattle.workload.proofs.line.write_step.Goals as goal

pub returns-in-Asks : goal.returns-in-Asks
returns-in-Asks c = (search (asks-cursor, rules), search (asks-buffer, rules))
