use Rattle.std.proofs.Common.{rules}
use Rattle.std.specs.Prelude.{IsTrue, EachIndex, ◌↔◌, slice_index}
use Rattle.registry.specs.Report.{is_mark}
use Rattle.registry.proofs.ReportLaws.{other-size, all-marks}
use Rattle.registry.proofs.report.is_report.Goals as goal

pub returns-then-s-n : goal.returns-then-s-n
returns-then-s-n c =
    let each : IsTrue c.all.result ↔ EachIndex c.args.s.now (λ k. IsTrue (is_mark (slice_index c.args.s.now k))) = search rules in
    all-marks _ _ c.if-s-n.true _ each

pub returns-else-s-n : goal.returns-else-s-n
returns-else-s-n c = other-size _ _ c.if-s-n.false
