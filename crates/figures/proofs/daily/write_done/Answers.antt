use borrow.Author.Rules.{rules}
use Rattle.figures.proofs.DailyLaws.{done-one, done_none}
use Rattle.figures.proofs.daily.write_done.Goals as goal

ruleset laws = (done-one, done_none, rules)

pub returns-then-stands_on : goal.returns-then-stands_on
returns-then-stands_on c = search laws

pub returns-else-stands_on : goal.returns-else-stands_on
returns-else-stands_on c = search laws
