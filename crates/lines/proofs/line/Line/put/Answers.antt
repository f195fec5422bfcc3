use Rattle.std.proofs.Common.{rules}
use Rattle.lines.proofs.WriteLaws.{line-cursor, line-written}
use Rattle.lines.proofs.line.Line.put.Goals as goal

pub returns : goal.returns
returns c = search (line-cursor, line-written, rules)
