use borrow.Author.Rules.{rules}
use Rattle.coding.proofs.UnitLaws.{unit-short, unit-escape, high_fits, pair_fits, hex-first, hex-not}
use Rattle.coding.proofs.url.unit_at.Goals as goal

pub returns-then-s-i-lt3 : goal.returns-then-s-i-lt3
returns-then-s-i-lt3 c = search (unit-short, rules)

pub overflow_mul-result : goal.overflow_mul-result
overflow_mul-result c = search (high_fits, rules)

pub overflow_add-result : goal.overflow_add-result
overflow_add-result c = search (pair_fits, rules)

pub returns-then-is_hex : goal.returns-then-is_hex
returns-then-is_hex c = search (unit-escape, hex-first, rules)

pub returns-else-is_hex : goal.returns-else-is_hex
returns-else-is_hex c = search (unit-escape, hex-not, rules)
