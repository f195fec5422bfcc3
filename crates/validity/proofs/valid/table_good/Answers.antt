use borrow.Author.Rules.{rules}
use Rattle.validity.proofs.ValidLaws.{table-lent, table-gate, table-records}
use Rattle.validity.proofs.valid.table_good.Goals as goal

pub returns-then-not-is_lent-clause-value : goal.returns-then-not-is_lent-clause-value
returns-then-not-is_lent-clause-value c = search (table-lent, rules)

pub returns-then-gate_good-clause-value : goal.returns-then-gate_good-clause-value
returns-then-gate_good-clause-value c = search (table-records, rules)

pub returns-else-gate_good-clause-value : goal.returns-else-gate_good-clause-value
returns-else-gate_good-clause-value c = search (table-gate, rules)
