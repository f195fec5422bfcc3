use borrow.Author.Rules.{rules}
use Rattle.figures.proofs.DailyLaws.{prefix-start, prefix-room, prefix-next}
use Rattle.figures.proofs.daily.write_records.Goals as goal

ruleset laws = (prefix-start, prefix-room, prefix-next, rules)

pub loop-i-init : goal.loop-i-init
loop-i-init c = search laws

pub write_done-cursor-requires : goal.write_done-cursor-requires
write_done-cursor-requires c = search laws

pub loop-i-preserved : goal.loop-i-preserved
loop-i-preserved c = search laws
