use borrow.Author.Rules.{rules}
use Rattle.validity.proofs.RangeLaws.{balance-above, balance-below}
use Rattle.validity.proofs.ranges.is_near.Goals as goal

pub returns-then-b-ge-BALANCE_LEAST : goal.returns-then-b-ge-BALANCE_LEAST
returns-then-b-ge-BALANCE_LEAST c = search (balance-above, rules)

pub returns-else-b-ge-BALANCE_LEAST : goal.returns-else-b-ge-BALANCE_LEAST
returns-else-b-ge-BALANCE_LEAST c = search (balance-below, rules)
