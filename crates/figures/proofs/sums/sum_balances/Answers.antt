use borrow.Author.Rules.{rules}
use Rattle.figures.proofs.SumLaws.{sum-start, sum_done, sum_bound, sum_fits, sum-place, balance-fits, sum_step}
use Rattle.figures.proofs.sums.sum_balances.Goals as goal

ruleset laws = (sum-start, sum_done, sum_bound, sum_fits, sum-place, balance-fits, sum_step, rules)

pub loop-i-init : goal.loop-i-init
loop-i-init c = search laws

pub plus-sum-requires : goal.plus-sum-requires
plus-sum-requires c = search laws

pub loop-i-preserved : goal.loop-i-preserved
loop-i-preserved c = search laws

pub returns : goal.returns
returns c = search laws
