use Rattle.std.proofs.Common.{arith, ◌∙◌}
use lib.ListN.{length-set}
use Rattle.clearing.proofs.ReportLaws.{report-end, report-on}
use Rattle.clearing.proofs.report.write_report.Goals as goal

pub loop-i-preserved : goal.loop-i-preserved
loop-i-preserved c =
    (length-set _ _ _ ∙ c.loop-i.invariant.0, report-on _ _ _ _ _ c.loop-i.invariant.1 c.loop-i-test.true (omega arith) _ c.any_done.ensures _ c.mark.ensures)

pub returns : goal.returns
returns c = report-end _ _ _ _ _ c.loop-i.invariant.1 c.loop-i-test.false
