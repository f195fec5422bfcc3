use Rattle.std.proofs.Common.{arith, refl, ap, not, ◌∙◌}
use Rattle.lists.proofs.RowsLaws.{loan-on}
use Rattle.table.specs.Table.{Rows, record_at}
use Rattle.table.proofs.RowsLaws.{rows-viewed}
use Rattle.clearing.proofs.SweepLaws.{turn-of, sweeping-start, sweeping-end, sweeping-ledger, turn_small, turn-account, turn_near, turn-skip, turn-none, turn-debited-back}
use Rattle.clearing.proofs.sweeping.sweep.Goals as goal

pub loop-i-init : goal.loop-i-init
loop-i-init c = (
  record {
    most = omega arith;
    nums-kept = refl;
    numbers-kept = refl;
    dates-kept = refl;
    listed = c.requires.listed;
    sweeping = sweeping-start _ _ _ _ _ c.requires.held.0;
  },
  record { nums = refl; numbers = refl; dates = refl },
)

pub loop-i-preserved-then-not-is_stray : goal.loop-i-preserved-then-not-is_stray
loop-i-preserved-then-not-is_stray c =
    (turn-skip (turn-of c.loop-i.invariant.0 c.loop-i-test.true (c.load-r.ensures.value ∙ ap (λ (r : Rows). record_at r c.loop-i.i) (rows-viewed _ _ c.view.ensures)) c.is_stray.ensures) (ap not c.if-not-is_stray.true), c.loop-i.invariant.1)

pub loop-i-preserved-in_default : goal.loop-i-preserved-in_default
loop-i-preserved-in_default c = (
  turn-none (turn-of c.loop-i.invariant.0 c.loop-i-test.true (c.load-r.ensures.value ∙ ap (λ (r : Rows). record_at r c.loop-i.i) (rows-viewed _ _ c.view.ensures)) c.is_stray.ensures) _ c.revoke_at.ensures.value (ap not c.if-not-is_stray.false)
      _ c.revoke_at.ensures.dates_value c.in_default.is,
  loan-on c.loop-i.invariant.1 c.revoke_at.ensures.same_loan,
)

pub offset_bounds-gate-at : goal.offset_bounds-gate-at
offset_bounds-gate-at c =
    let h = turn-account (turn-of c.loop-i.invariant.0 c.loop-i-test.true (c.load-r.ensures.value ∙ ap (λ (r : Rows). record_at r c.loop-i.i) (rows-viewed _ _ c.view.ensures)) c.is_stray.ensures) _ c.revoke_at.ensures.value _ c.in-Some.is in
    record { fits = omega arith }

pub bounds-gate-at : goal.bounds-gate-at
bounds-gate-at c = turn-account (turn-of c.loop-i.invariant.0 c.loop-i-test.true (c.load-r.ensures.value ∙ ap (λ (r : Rows). record_at r c.loop-i.i) (rows-viewed _ _ c.view.ensures)) c.is_stray.ensures) _ c.revoke_at.ensures.value _ c.in-Some.is

pub minus-a-requires : goal.minus-a-requires
minus-a-requires c =
    let k = turn-of c.loop-i.invariant.0 c.loop-i-test.true (c.load-r.ensures.value ∙ ap (λ (r : Rows). record_at r c.loop-i.i) (rows-viewed _ _ c.view.ensures)) c.is_stray.ensures in
    (turn_near k _ c.revoke_at.ensures.value _ c.in-Some.is, turn_small k)

pub loop-i-preserved : goal.loop-i-preserved
loop-i-preserved c = (
  turn-debited-back (turn-of c.loop-i.invariant.0 c.loop-i-test.true (c.load-r.ensures.value ∙ ap (λ (r : Rows). record_at r c.loop-i.i) (rows-viewed _ _ c.view.ensures)) c.is_stray.ensures) _ c.revoke_at.ensures.value (ap not c.if-not-is_stray.false)
      _ c.revoke_at.ensures.dates_value _ c.in-Some.is _ c.minus-a.ensures.0 c.minus-a.ensures.1,
  loan-on c.loop-i.invariant.1 c.revoke_at.ensures.same_loan,
)

pub returns-clause-left : goal.returns-clause-left
returns-clause-left c = sweeping-end c.loop-i.invariant.0.sweeping c.loop-i-test.false

pub returns-clause-fact : goal.returns-clause-fact
returns-clause-fact c = sweeping-ledger c.loop-i.invariant.0.sweeping c.loop-i-test.false
