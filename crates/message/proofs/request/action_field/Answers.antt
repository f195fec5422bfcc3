use Rattle.std.proofs.Common.{rules}
use Rattle.message.proofs.FieldLaws.{held-read, action-none, action-empty}
use Rattle.message.proofs.request.action_field.Goals as goal

pub returns : goal.returns
returns c = search (held-read, action-none, action-empty, rules)
