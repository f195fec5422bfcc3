use Rattle.std.proofs.Common.{◌∙◌}
use Rattle.texts.proofs.ScanLaws.{pointwise-list}
use Rattle.dates.proofs.date.same_date.Goals as goal

pub returns : goal.returns
returns c = c.eq.ensures ∙ pointwise-list _ _
