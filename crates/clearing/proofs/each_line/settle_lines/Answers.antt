use Rattle.std.proofs.Common.{arith, refl}
use Rattle.lists.proofs.RowsLaws.{loan-on}
use Rattle.posting.proofs.PostLaws.{verdict-placed}
use Rattle.table.proofs.RowsLaws.{rows-viewed}
use Rattle.clearing.proofs.LinesLaws.{turn-of, going_start, going_end, ledger-end, turn-chained, turn-room, turn-none, turn-credited-back}
use Rattle.clearing.proofs.each_line.settle_lines.Goals as goal

pub loop-x-init : goal.loop-x-init
loop-x-init c = (
  record {
    most = omega arith;
    numbers-kept = refl;
    dates-kept = refl;
    listed = c.requires.listed;
    going = going_start _ _ _ _ c.requires.held.0;
    heads-kept = refl;
    next-kept = refl;
    chained = c.requires.chained.0;
  },
  record { nums = refl; numbers = refl; dates = refl },
)

pub apply-due-requires-clause-keyed : goal.apply-due-requires-clause-keyed
apply-due-requires-clause-keyed c =
    let v = c.loop-x.invariant.0 in
    (v.listed.keyed, verdict-placed _ _ _ _ (rw (rows-viewed _ _ c.view.ensures, c.view.ensures.nums) at (c.judge-v.ensures _ v.listed refl)) _ _ v.listed)

pub follow-requires-clause-chained : goal.follow-requires-clause-chained
follow-requires-clause-chained c =
    rw c.view-in-loop-x.ensures.nums (turn-chained (turn-of c.requires.held.1 c.requires.chained.1 c.loop-x.invariant.0 c.loop-x-test.true refl
    (rw (rows-viewed _ _ c.view.ensures, c.view.ensures.nums) at (c.judge-v.ensures _ c.loop-x.invariant.0.listed refl)) c.apply-due.ensures.applied c.apply-due.ensures.within c.apply-due.ensures.sizes.numbers c.apply-due.ensures.sizes.dates))

pub follow-requires-clause-used_in_bounds : goal.follow-requires-clause-used_in_bounds
follow-requires-clause-used_in_bounds c =
    rw c.view-in-loop-x.ensures.nums (turn-room (turn-of c.requires.held.1 c.requires.chained.1 c.loop-x.invariant.0 c.loop-x-test.true refl
    (rw (rows-viewed _ _ c.view.ensures, c.view.ensures.nums) at (c.judge-v.ensures _ c.loop-x.invariant.0.listed refl)) c.apply-due.ensures.applied c.apply-due.ensures.within c.apply-due.ensures.sizes.numbers c.apply-due.ensures.sizes.dates))

pub loop-x-preserved-in_default : goal.loop-x-preserved-in_default
loop-x-preserved-in_default c = (
  turn-none (turn-of c.requires.held.1 c.requires.chained.1 c.loop-x.invariant.0 c.loop-x-test.true refl
      (rw (rows-viewed _ _ c.view.ensures, c.view.ensures.nums) at (c.judge-v.ensures _ c.loop-x.invariant.0.listed refl)) c.apply-due.ensures.applied c.apply-due.ensures.within c.apply-due.ensures.sizes.numbers c.apply-due.ensures.sizes.dates)
      _ _ c.follow.auto.heads c.follow.auto.next (rw c.view-in-loop-x.ensures.nums at c.follow.ensures) c.in_default.is,
  loan-on c.loop-x.invariant.1 c.apply-due.ensures.same_loan,
)

pub loop-x-preserved : goal.loop-x-preserved
loop-x-preserved c = (
  turn-credited-back (turn-of c.requires.held.1 c.requires.chained.1 c.loop-x.invariant.0 c.loop-x-test.true refl
      (rw (rows-viewed _ _ c.view.ensures, c.view.ensures.nums) at (c.judge-v.ensures _ c.loop-x.invariant.0.listed refl)) c.apply-due.ensures.applied c.apply-due.ensures.within c.apply-due.ensures.sizes.numbers c.apply-due.ensures.sizes.dates)
      _ _ c.follow.auto.heads c.follow.auto.next (rw c.view-in-loop-x.ensures.nums at c.follow.ensures) _ c.in-Some.is _ c.plus-a.ensures.0 c.plus-a.ensures.1,
  loan-on c.loop-x.invariant.1 c.apply-due.ensures.same_loan,
)

pub returns-clause-left : goal.returns-clause-left
returns-clause-left c = going_end _ _ c.requires.held.1 _ _ _ _ _ c.loop-x.invariant.0.going c.loop-x-test.false

pub returns-clause-fact : goal.returns-clause-fact
returns-clause-fact c = ledger-end _ _ c.requires.held.1 _ _ _ _ _ c.loop-x.invariant.0.going c.loop-x-test.false
