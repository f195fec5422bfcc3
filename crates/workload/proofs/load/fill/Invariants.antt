use Rattle.workload.specs.Given.{load_of}
use Rattle.workload.proofs.LoadLaws.{Going}
use Rattle.workload.proofs.load.fill.Given as goal

abbrev pub invariant-loop-steps : goal.invariant-loop-steps
invariant-loop-steps l = Going (load_of l.date l.reason l.names l.keys) l.start l.most l.initial.dst l.dst l.value l.at l.steps
