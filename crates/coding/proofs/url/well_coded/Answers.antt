use borrow.Author.Rules.{rules}
use Rattle.coding.proofs.UnitLaws.{unit-inside, unit-fits, unit-falls, well-step, well-fails, well-done}
use Rattle.coding.proofs.url.well_coded.Goals as goal

pub returns-then-not-u : goal.returns-then-not-u
returns-then-not-u c = search (well-fails, rules)

pub overflow_add-i : goal.overflow_add-i
overflow_add-i c = search (unit-fits, rules)

pub loop-i-smaller : goal.loop-i-smaller
loop-i-smaller c = search (unit-falls, rules)

pub loop-i-preserved : goal.loop-i-preserved
loop-i-preserved c = search (unit-inside, well-step, rules)

pub returns : goal.returns
returns c = search (well-done, rules)
