use borrow.Author.Rules.{rules}
use Rattle.table.proofs.ColumnLaws.{packed_all}
use Rattle.table.proofs.columns.pack.Goals as goal

pub returns : goal.returns
returns c = search (packed_all, rules)
