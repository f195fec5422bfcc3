use Rattle.texts.proofs.DecimalLaws.{Made}
use Rattle.texts.proofs.digits.twenty.Given as goal

abbrev pub invariant-loop-left : goal.invariant-loop-left
invariant-loop-left l = Made l.n l.digits l.left l.zeros

abbrev pub decreases-loop-left : goal.decreases-loop-left
decreases-loop-left l = l.zeros
