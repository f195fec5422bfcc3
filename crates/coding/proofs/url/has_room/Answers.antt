use borrow.Author.Rules.{rules}
use Rattle.coding.proofs.WriteLaws.{room-step, room-fails, room-done}
use Rattle.coding.proofs.url.has_room.Goals as goal

pub returns-then-left-n : goal.returns-then-left-n
returns-then-left-n c = search (room-fails, rules)

pub loop-b-preserved : goal.loop-b-preserved
loop-b-preserved c = search (room-step, rules)

pub returns : goal.returns
returns c = search (room-done, rules)
