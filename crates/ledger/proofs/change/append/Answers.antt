use borrow.Author.Rules.{rules}
use Rattle.ledger.proofs.ChangeLaws.{appended}
use Rattle.ledger.proofs.change.append.Goals as goal

pub returns-clause-dates_value : goal.returns-clause-dates_value
returns-clause-dates_value c = search (appended, rules)
