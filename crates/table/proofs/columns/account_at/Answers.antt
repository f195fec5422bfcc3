use borrow.Author.Rules.{rules}
use Rattle.table.proofs.ColumnLaws.{account-in}
use Rattle.table.proofs.columns.account_at.Goals as goal

pub returns : goal.returns
returns c = search (account-in, rules)
