use Rattle.index.proofs.ChainLaws.{append-first, append-last}
use Rattle.posting.proofs.lookup.append.Goals as goal

pub returns-then-head-gt0 : goal.returns-then-head-gt0
returns-then-head-gt0 c =
    append-last _ _ _ _ c.requires.chained _ c.first-head.ensures c.requires.used_in_bounds.1 c.if-head-gt0.true _ c.last_from-k.ensures.0 c.last_from-k.ensures.1 c.last_from-k.ensures.2 _ c.join.ensures

pub returns-else-head-gt0 : goal.returns-else-head-gt0
returns-else-head-gt0 c =
    append-first _ _ _ _ c.requires.chained _ c.first-head.ensures c.requires.used_in_bounds.1 c.if-head-gt0.false _ _ c.push.ensures.heads_after c.push.ensures.next_after
