use Rattle.workload.proofs.LoadLaws.{going_start, all-written, stops-here, goes_on}
use Rattle.workload.proofs.load.fill.Goals as goal

pub loop-steps-init : goal.loop-steps-init
loop-steps-init c = going_start _ _ _ _

pub returns-then-e-at : goal.returns-then-e-at
returns-then-e-at c =
    stops-here _ _ _ _ _ _ _ _ c.loop-steps.invariant c.loop-steps-test.true _ c.rolls_from-r.ensures _ c.account_at-a.ensures _ c.write_line-e.ensures.0 _ c.write_line-e.ensures.1 c.if-e-at.true

pub loop-steps-preserved : goal.loop-steps-preserved
loop-steps-preserved c =
    goes_on _ _ _ _ _ _ _ _ c.loop-steps.invariant c.loop-steps-test.true _ c.rolls_from-r.ensures _ c.account_at-a.ensures _ c.write_line-e.ensures.0 _ c.write_line-e.ensures.1 c.if-e-at.false

pub returns : goal.returns
returns c = all-written _ _ _ _ _ _ _ _ c.loop-steps.invariant c.loop-steps-test.false
