use borrow.Author.Rules.{rules}
use Rattle.validity.proofs.RangeLaws.{accounts-step, accounts-fail, accounts-end}
use Rattle.validity.proofs.ranges.accounts_good.Goals as goal

ruleset laws = (accounts-step, accounts-fail, accounts-end, rules)

pub returns-then-not-account_good : goal.returns-then-not-account_good
returns-then-not-account_good c = search laws

pub loop-i-preserved : goal.loop-i-preserved
loop-i-preserved c = search laws

pub returns : goal.returns
returns c = search laws
