use borrow.Author.Rules.{rules}
use Rattle.table.proofs.TableLaws.{receipt_position}
use Rattle.table.proofs.rows.find_record.Goals as goal

pub returns : goal.returns
returns c = search (receipt_position, rules)
