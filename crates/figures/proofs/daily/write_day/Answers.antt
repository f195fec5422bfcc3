use borrow.Author.Rules.{rules}
use Rattle.figures.proofs.DailyLaws.{sum_room, last-room, day-put}
use Rattle.figures.proofs.daily.write_day.Goals as goal

ruleset laws = (sum_room, last-room, day-put, rules)

pub write_sum-b-requires : goal.write_sum-b-requires
write_sum-b-requires c = search laws

pub write_sum-requires : goal.write_sum-requires
write_sum-requires c = search laws

pub returns : goal.returns
returns c = search laws
