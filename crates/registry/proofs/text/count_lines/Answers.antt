use Rattle.std.proofs.Common.{arith}
use Rattle.registry.proofs.CheckLaws.{next-in, count-at-rest, count-pass, count-end}
use Rattle.registry.proofs.text.count_lines.Goals as goal

pub returns-then-s-e : goal.returns-then-s-e
returns-then-s-e c = count-at-rest _ _ _ c.loop-at-test.true c.end_of_line-e.ensures _ c.loop-at.invariant.2 c.if-s-e.true

pub loop-at-preserved : goal.loop-at-preserved
loop-at-preserved c =
    let here = c.loop-at-test.true in
    let ends = c.end_of_line-e.ensures in (
      omega (arith, ends),
      next-in _ _ _ here ends c.if-s-e.false,
      count-pass _ _ _ here ends _ c.loop-at.invariant.2 c.if-s-e.false,
    )

pub returns : goal.returns
returns c = count-end _ _ c.loop-at-test.false _ c.loop-at.invariant.2
