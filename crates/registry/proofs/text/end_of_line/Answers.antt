use Rattle.std.proofs.Common.{arith}
use Rattle.registry.proofs.SplitLaws.{end-past, end-here, end-pass, end-last, far-inside, far-end}
use Rattle.registry.proofs.text.end_of_line.Goals as goal

pub returns-then-s-at : goal.returns-then-s-at
returns-then-s-at c = end-past _ _ c.if-s-at.true

pub loop-i-init : goal.loop-i-init
loop-i-init c =
    let far = c.pass_others-i.ensures in
    (far-inside _ _ _ far.1 c.if-s-at.false, far-end _ _ _ far.1 far.0)

pub returns-then-is_end : goal.returns-then-is_end
returns-then-is_end c = end-here _ _ _ c.loop-i.invariant.1 c.loop-i-test.true _ c.is_end.ensures c.if-is_end.true

pub loop-i-preserved : goal.loop-i-preserved
loop-i-preserved c = (omega arith, end-pass _ _ _ c.loop-i.invariant.1 c.loop-i-test.true _ c.is_end.ensures c.if-is_end.false)

pub returns : goal.returns
returns c = end-last _ _ _ c.loop-i.invariant.1 c.loop-i.invariant.0 c.loop-i-test.false
