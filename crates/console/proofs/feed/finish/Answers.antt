use Rattle.std.proofs.Common.{arith}
use Rattle.console.proofs.PartLaws.{last_line, line-new}
use Rattle.console.proofs.feed.finish.Goals as goal

pub returns-clause-value : goal.returns-clause-value
returns-clause-value c = last_line _ _ _ _ _ (omega arith) _ _ (line-new _ _ c.new_mark.ensures) _ _ _ c.end_line-s.ensures.ended_at
