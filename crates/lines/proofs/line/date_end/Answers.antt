use Rattle.lines.proofs.LineLaws.{ends_found, ends-nineteen}
use Rattle.lines.proofs.line.date_end.Goals as goal

pub returns-then-s-eq9 : goal.returns-then-s-eq9
returns-then-s-eq9 c = ends-nineteen _ c.if-s-ge20.true c.if-s-eq9.true

pub returns-else-s-ge20 : goal.returns-else-s-ge20
returns-else-s-ge20 c = ends_found _ _ c.find_byte.ensures
