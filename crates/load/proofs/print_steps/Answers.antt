use Rattle.workload.proofs.LoadLaws.{steps-few}
use Rattle.load.proofs.print_steps.Goals as goal

-- no more steps are written than are asked for
pub overflow_sub-left : goal.overflow_sub-left
overflow_sub-left c = steps-few _ _ _ _ _ _ c.write_steps-w.ensures
