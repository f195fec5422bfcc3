use Rattle.index.proofs.WalkLaws.{walk-less}
use Rattle.clearing.proofs.SweepLaws.{any-start, any_none, any_here, any_next}
use Rattle.clearing.proofs.sweeping.any_matches.Goals as goal

pub loop-at-init : goal.loop-at-init
loop-at-init c = any-start _ _ _ _ c.requires _ c.first-at.ensures

pub returns-then-matches_record : goal.returns-then-matches_record
returns-then-matches_record c = any_here _ _ _ c.loop-at.invariant c.loop-at-test.true _ c.matches_record.ensures c.if-matches_record.true

pub loop-at-preserved : goal.loop-at-preserved
loop-at-preserved c = any_next _ _ _ c.loop-at.invariant c.loop-at-test.true _ c.matches_record.ensures c.if-matches_record.false _ _ c.requires _ c.after-at.ensures

pub loop-at-smaller : goal.loop-at-smaller
loop-at-smaller c = walk-less c.loop-at.invariant c.loop-at-test.true _ _ c.requires _ c.after-at.ensures

pub returns : goal.returns
returns c = any_none _ _ _ c.loop-at.invariant c.loop-at-test.false
