use borrow.Author.Rules.{rules}
use Rattle.coding.proofs.UnitLaws.{short-count, short-kept, unit-inside, unit-fits, unit-falls, unit-behind, count-step, bytes-step, all-count, all-into}
use Rattle.coding.proofs.url.decode.Goals as goal

pub returns-then-dst-s : goal.returns-then-dst-s
returns-then-dst-s c = search (short-count, short-kept, rules)

pub overflow_add-i : goal.overflow_add-i
overflow_add-i c = search (unit-fits, rules)

pub loop-i-smaller : goal.loop-i-smaller
loop-i-smaller c = search (unit-falls, rules)

pub loop-i-preserved : goal.loop-i-preserved
loop-i-preserved c = search (unit-inside, unit-behind, count-step, bytes-step, rules)

pub returns : goal.returns
returns c = search (all-count, all-into, rules)
