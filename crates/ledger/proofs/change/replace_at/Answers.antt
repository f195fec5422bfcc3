use borrow.Author.Rules.{rules}
use Rattle.ledger.proofs.ChangeLaws.{replaced, nothing-replaced}
use Rattle.ledger.proofs.change.replace_at.Goals as goal

pub returns-in-Some-clause-value : goal.returns-in-Some-clause-value
returns-in-Some-clause-value c = search (replaced, rules)

pub returns-in_default-clause-value : goal.returns-in_default-clause-value
returns-in_default-clause-value c = search (nothing-replaced, rules)
