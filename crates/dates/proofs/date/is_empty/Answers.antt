use Rattle.std.proofs.Common.{rules, arith}
use Rattle.dates.proofs.EmptyLaws.{sum_more}
use Rattle.dates.proofs.date.is_empty.Goals as goal

pub loop-b-preserved : goal.loop-b-preserved
loop-b-preserved c = record { bound = omega arith; rest = search (sum_more, rules) }
