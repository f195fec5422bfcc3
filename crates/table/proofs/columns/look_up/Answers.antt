use borrow.Author.Rules.{rules}
use Rattle.table.proofs.AccountLaws.{account-start}
use Rattle.table.proofs.ColumnLaws.{column-other, column-here, column-none}
use Rattle.table.proofs.columns.look_up.Goals as goal

ruleset laws = (account-start, column-other, column-here, column-none, rules)

pub loop-i-init : goal.loop-i-init
loop-i-init c = search laws

pub loop-i-preserved : goal.loop-i-preserved
loop-i-preserved c = search laws

pub returns-then-is_account : goal.returns-then-is_account
returns-then-is_account c = search laws

pub returns : goal.returns
returns c = search laws
