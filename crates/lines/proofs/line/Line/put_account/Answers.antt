use Rattle.std.proofs.Common.{rules}
use Rattle.lines.proofs.WriteLaws.{number_fits, kind_fits, account-cursor, account-written}
use Rattle.lines.proofs.line.Line.put_account.Goals as goal

pub overflow_add-a : goal.overflow_add-a
overflow_add-a c = search (number_fits, rules)

pub overflow_add-b : goal.overflow_add-b
overflow_add-b c = search (kind_fits, rules)

pub returns : goal.returns
returns c = search (account-cursor, account-written, rules)
