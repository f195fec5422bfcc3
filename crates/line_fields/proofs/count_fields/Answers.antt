use borrow.Author.Rules.{rules}
use Rattle.line_fields.proofs.FieldLaws.{count-step, count_low, count-done}
use Rattle.line_fields.proofs.count_fields.Goals as goal

pub loop-b-preserved : goal.loop-b-preserved
loop-b-preserved c = search (count-step, count_low, rules)

pub returns : goal.returns
returns c = search (count-done, rules)
