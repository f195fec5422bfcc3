use borrow.Author.Rules.{rules}
use Rattle.coding.proofs.ParamLaws.{part-get, part_post}
use Rattle.coding.proofs.params.parameters.Goals as goal

pub returns-in-Get : goal.returns-in-Get
returns-in-Get c = search (part-get, rules)

pub returns-in-Post : goal.returns-in-Post
returns-in-Post c = search (part_post, rules)
