use Rattle.std.proofs.Common.{arith, rules, sym, ◌∙◌}
use Rattle.lists.proofs.RowsLaws.{loan-on}
use Rattle.console.proofs.ShownLaws.{places-left}
use Rattle.console.proofs.PartLaws.{going_start, part-rest, part-stops, line-room, part-on, part_in, going_on, feed-is, line-new, room-same}
use Rattle.console.proofs.feed.feed.Goals as goal

pub loop-bytes-init : goal.loop-bytes-init
loop-bytes-init c = search (going_start, rules)

pub goes_on-requires : goal.goes_on-requires
goes_on-requires c = c.loop-bytes.invariant.2.fits

pub returns-then-not-g : goal.returns-then-not-g
returns-then-not-g c =
    let v = c.loop-bytes.invariant.2 in
    record {
      out_after = feed-is _ _ _ _ _ _ c.line_room-need.ensures _ (part-rest _ _ _ _ _ _ _ _ _ _ v (sym c.goes_on.ensures ∙ c.loop-bytes-test.true) _ c.gather-g.ensures c.if-not-g.true);
      summable = v.sums;
      places = c.loop-bytes.invariant.0;
      same_loan = c.loop-bytes.invariant.3;
    }

pub end_line-s-requires : goal.end_line-s-requires
end_line-s-requires c =
    let v = c.loop-bytes.invariant in
    (v.2.sums, line-room _ _ _ _ _ _ _ _ _ _ v.2 (sym c.goes_on.ensures ∙ c.loop-bytes-test.true) _ _ c.line_room-need.ensures v.0)

pub loop-bytes-smaller : goal.loop-bytes-smaller
loop-bytes-smaller c =
    let v = c.loop-bytes.invariant.2 in
    let goes = sym c.goes_on.ensures ∙ c.loop-bytes-test.true in
    omega (
      arith,
      part-on _ _ _ _ _ _ _ _ _ _ v goes _ c.gather-g.ensures c.if-not-g.false,
      part_in _ _ _ _ _ _ _ _ _ _ v goes _ c.gather-g.ensures c.if-not-g.false,
    )

pub loop-bytes-preserved : goal.loop-bytes-preserved
loop-bytes-preserved c =
    let v = c.loop-bytes.invariant in (
      places-left _ _ _ _ c.end_line-s.ensures.ended_at.left ∙ v.0,
      c.end_line-s.auto.out ∙ v.1,
      going_on _ _ _ _ _ _ _ _ _ _ v.2 (sym c.goes_on.ensures ∙ c.loop-bytes-test.true) _ c.gather-g.ensures c.if-not-g.false (room-same _ _ _ c.line_room-need.ensures v.0) _ _ (line-new _ _ c.new_mark-mark.ensures) _ _ _ c.end_line-s.ensures.ended_at
          c.end_line-s.ensures.summable,
      loan-on v.3 c.end_line-s.ensures.same_loan,
    )

pub returns : goal.returns
returns c =
    let v = c.loop-bytes.invariant.2 in
    record {
      out_after = feed-is _ _ _ _ _ _ c.line_room-need.ensures _ (part-stops _ _ _ _ _ _ _ _ _ _ v (sym c.goes_on.ensures ∙ c.loop-bytes-test.false));
      summable = v.sums;
      places = c.loop-bytes.invariant.0;
      same_loan = c.loop-bytes.invariant.3;
    }
