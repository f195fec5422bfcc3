use borrow.Author.Rules.{rules}
use Rattle.figures.proofs.DailyLaws.{summed-start, summed-next, summed-fits, summed-skip, summed-more}
use Rattle.figures.proofs.daily.sum_on.Goals as goal
use Rattle.figures.proofs.daily.sum_on.Goals.{then-stands_on, else-stands_on}

ruleset laws = (summed-start, summed-next, summed-fits, rules)

pub loop-place-init : goal.loop-place-init
loop-place-init c = search laws

pub overflow_add-sum : goal.overflow_add-sum
overflow_add-sum c = search laws

pub overflow_add-sum-then-stands_on : goal.overflow_add-sum-then-stands_on
overflow_add-sum-then-stands_on c = search laws

pub loop-place-preserved : goal.loop-place-preserved
loop-place-preserved c =
    elim c.if-stands_on.branch [
      | then-stands_on w ↦ rw w.sum-is (search (summed-more, rules))
      | else-stands_on w ↦ rw w.sum-is (search (summed-skip, rules))
    ]
