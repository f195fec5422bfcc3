use Rattle.gathering.proofs.GatherLaws.{keep-room, gather-out, gather-end, gather-keep, gather-pass}
use borrow.Author.Rules.{rules}
use Rattle.gathering.proofs.gather.Goals as goal
use Rattle.gathering.proofs.gather.Goals.{in-Some, in_default}

pub bounds-bytes-mark : goal.bounds-bytes-mark
bounds-bytes-mark c = keep-room _ _ _ _ c.step_of.result c.step_of.ensures c.in-Some.is

pub loop-i-preserved : goal.loop-i-preserved
loop-i-preserved c =
    elim c.match-step_of.branch [
      | in-Some w ↦ rw (w.bytes-is, w.mark-is) (gather-keep _ _ _ _ _ _ _ c.loop-i.invariant c.loop-i-test.true c.if-b-eq10.false c.step_of.result c.step_of.ensures _ w.in-Some.is)
      | in_default w ↦ rw (w.bytes-is, w.mark-is) (gather-pass _ _ _ _ _ _ _ c.loop-i.invariant c.loop-i-test.true c.if-b-eq10.false c.step_of.result c.step_of.ensures w.in_default.is)
    ]

pub returns-then-b-eq10 : goal.returns-then-b-eq10
returns-then-b-eq10 c = search (gather-end, rules)

pub returns : goal.returns
returns c = search (gather-out, rules)
