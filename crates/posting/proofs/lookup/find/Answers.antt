use borrow.Author.Rules.{rules}
use Rattle.index.proofs.ChainLaws.{chained-slots, chained-room}
use Rattle.index.proofs.WalkLaws.{walk-in, walk-less}
use Rattle.posting.proofs.LookupLaws.{seek-start, seek_hit, seek-next, seek-none}
use Rattle.posting.proofs.lookup.find.Goals as goal

ruleset laws = (chained-slots, chained-room, walk-in, walk-less, seek-start, seek_hit, seek-next, seek-none, rules)

pub loop-at-init : goal.loop-at-init
loop-at-init c = search laws

pub returns-then-is_sought : goal.returns-then-is_sought
returns-then-is_sought c = search laws

pub loop-at-smaller : goal.loop-at-smaller
loop-at-smaller c = search laws

pub loop-at-preserved : goal.loop-at-preserved
loop-at-preserved c = search laws

pub returns : goal.returns
returns c = search laws
