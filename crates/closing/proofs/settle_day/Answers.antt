use Rattle.table.proofs.RowsLaws.{rows-viewed}
use Rattle.closing.proofs.DayLaws.{day-settled}
use Rattle.closing.proofs.settle_day.Goals as goal

pub returns-clause-value : goal.returns-clause-value
returns-clause-value c =
    day-settled _ _ _ _ _ _ c.requires.read.0 c.requires.read.1 _ _ c.clear_day-b.ensures.fact c.clear_day-b.ensures.dates_value _ (rw (rows-viewed _ _ c.view-2.ensures) at c.write_report.ensures)
