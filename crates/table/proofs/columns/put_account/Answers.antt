use borrow.Author.Rules.{rules}
use Rattle.table.proofs.ColumnLaws.{account-put}
use Rattle.table.proofs.columns.put_account.Goals as goal

pub returns : goal.returns
returns c = search (account-put, rules)
