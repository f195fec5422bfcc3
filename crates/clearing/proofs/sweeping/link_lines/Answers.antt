use Rattle.std.proofs.Common.{arith}
use Rattle.index.proofs.ChainLaws.{chained-turn}
use Rattle.clearing.proofs.sweeping.link_lines.Goals as goal

pub loop-i-preserved : goal.loop-i-preserved
loop-i-preserved c = chained-turn _ _ _ _ _ c.loop-i.invariant (omega arith) (omega arith) _ _ c.push.ensures.heads_after c.push.ensures.next_after
