use Rattle.clearing.proofs.SweepLaws.{swept-chained}
use Rattle.closing.proofs.DayLaws.{day-rows}
use Rattle.closing.proofs.clear_day.Goals as goal

pub returns-clause-dates_value : goal.returns-clause-dates_value
returns-clause-dates_value c =
    day-rows _ _ _ _ _ _ _ c.settle_lines-a.ensures.left c.settle_lines-a.ensures.fact _ _ c.sweep.ensures.left c.sweep.ensures.fact

pub returns-clause-chained_2 : goal.returns-clause-chained_2
returns-clause-chained_2 c = swept-chained _ _ _ _ _ _ _ c.sweep.ensures.fact _ _ c.settle_lines-a.ensures.chained_2
