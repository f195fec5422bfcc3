use Rattle.std.proofs.Common.{refl}
use Rattle.lines.proofs.WriteLaws.{bad-cursor, bad-kept}
use Rattle.lines.proofs.line.Line.write.Goals as goal

pub returns-else-is_valid : goal.returns-else-is_valid
returns-else-is_valid c = (bad-cursor _ _ c.is_valid.ensures _ _ c.if-is_valid.false, bad-kept _ _ c.is_valid.ensures _ _ _ refl c.if-is_valid.false)
