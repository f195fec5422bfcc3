use Rattle.clearing.proofs.ReportLaws.{done-found}
use Rattle.clearing.proofs.report.any_done.Goals as goal

pub returns : goal.returns
returns c = done-found _ _ _ c.find.ensures _ c.is_some.ensures
