use Rattle.closing.proofs.DayLaws.{day-reported}
use Rattle.closing.proofs.report_day.Goals as goal

pub returns : goal.returns
returns c = day-reported _ _ _ _ c.requires.read.0 c.requires.read.1 _ c.write_report.ensures
