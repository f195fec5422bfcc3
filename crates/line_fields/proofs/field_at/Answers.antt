use borrow.Author.Rules.{rules}
use Rattle.line_fields.proofs.FieldLaws.{field_past, field_step, field-done}
use Rattle.line_fields.proofs.field_at.Goals as goal

pub returns-then-is_empty : goal.returns-then-is_empty
returns-then-is_empty c = search (field_past, rules)

pub loop-preserved : goal.loop-preserved
loop-preserved c = search (field_step, rules)

pub returns : goal.returns
returns c = search (field-done, rules)
