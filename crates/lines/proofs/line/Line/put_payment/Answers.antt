use Rattle.std.proofs.Common.{rules}
use Rattle.lines.proofs.WriteLaws.{account-fits, amount-fits, bytes-cursor, bytes-written}
use Rattle.lines.proofs.line.Line.put_payment.Goals as goal

pub overflow_add-at : goal.overflow_add-at
overflow_add-at c = search (account-fits, rules)

pub overflow_add-a : goal.overflow_add-a
overflow_add-a c = search (amount-fits, rules)

pub returns : goal.returns
returns c = search (bytes-cursor, bytes-written, rules)
