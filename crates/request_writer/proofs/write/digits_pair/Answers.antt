use Rattle.std.proofs.Common.{rules}
use Rattle.request_writer.proofs.WriteTexts.{digits-cursor, digits-buffer}
use Rattle.request_writer.proofs.write.digits_pair.Goals as goal

pub returns : goal.returns
returns c = search (digits-cursor, digits-buffer, rules)
