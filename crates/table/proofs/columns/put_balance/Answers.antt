use borrow.Author.Rules.{rules}
use Rattle.table.proofs.ColumnLaws.{balance-put}
use Rattle.table.proofs.columns.put_balance.Goals as goal

pub returns : goal.returns
returns c = search (balance-put, rules)
