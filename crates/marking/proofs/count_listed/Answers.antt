use Rattle.std.proofs.Common.{arith}
use Rattle.marking.proofs.MarkingLaws.{count-skip, count-more, count-end}
use Rattle.marking.proofs.count_listed.Goals as goal
use Rattle.marking.proofs.count_listed.Goals.{then-is_listed, else-is_listed}

pub loop-i-preserved : goal.loop-i-preserved
loop-i-preserved c =
    elim c.if-is_listed.branch [
      | then-is_listed w ↦ record {
        few = omega arith;
        passed = rw w.n-is (count-more _ _ _ _ _ _ c.loop-i-test.true c.load_entry-e.ensures.value _ c.is_listed.ensures c.loop-i.invariant.passed w.if-is_listed.true);
      }
      | else-is_listed w ↦ record {
        few = omega arith;
        passed = rw w.n-is (count-skip _ _ _ _ _ _ c.loop-i-test.true c.load_entry-e.ensures.value _ c.is_listed.ensures c.loop-i.invariant.passed w.if-is_listed.false);
      }
    ]

pub returns : goal.returns
returns c = count-end _ _ _ _ _ c.loop-i.invariant.passed c.loop-i-test.false
