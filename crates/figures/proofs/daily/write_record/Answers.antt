use borrow.Author.Rules.{rules}
use Rattle.figures.proofs.DailyLaws.{record-put}
use Rattle.figures.proofs.daily.write_record.Goals as goal

pub returns : goal.returns
returns c = search (record-put, rules)
