use Rattle.std.proofs.Common.{◌≡◌, length}
use Rattle.load.proofs.print_steps.Given as goal

abbrev pub invariant-loop-left : goal.invariant-loop-left
invariant-loop-left l = length l.out ≡ 65536

abbrev pub decreases-loop-left : goal.decreases-loop-left
decreases-loop-left l = l.left
