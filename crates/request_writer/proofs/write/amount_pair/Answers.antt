use Rattle.std.proofs.Common.{rules}
use Rattle.request_writer.proofs.WriteTexts.{amount-cursor, amount-buffer}
use Rattle.request_writer.proofs.write.amount_pair.Goals as goal

pub returns : goal.returns
returns c = search (amount-cursor, amount-buffer, rules)
