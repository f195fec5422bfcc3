use borrow.Author.Rules.{rules}
use Rattle.planning.proofs.PlanLaws.{record-at}
use Rattle.planning.proofs.plan.found_record.Goals as goal

pub returns-in-Some : goal.returns-in-Some
returns-in-Some c = search (record-at, rules)
