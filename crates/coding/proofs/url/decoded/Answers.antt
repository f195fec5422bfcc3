use mathlib.Core.Path.{refl}
use borrow.Author.Rules.{rules}
use Rattle.coding.proofs.UnitLaws.{within-short, within-plain, within-room}
use Rattle.coding.proofs.url.decoded.Goals as goal

pub returns-then-room-s : goal.returns-then-room-s
returns-then-room-s c = search (within-short, rules)

pub returns-then-not-contains : goal.returns-then-not-contains
returns-then-not-contains c = within-plain _ _ _ c.if-room-s.false c.contains.result c.contains.ensures.value c.if-not-contains.true refl

pub returns : goal.returns
returns c = search (within-room, rules)
