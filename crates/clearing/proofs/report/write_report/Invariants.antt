use Rattle.std.proofs.Common.{◌≡◌, length, drop}
use Rattle.texts.specs.Lists.{over}
use Rattle.table.specs.Lent.{rows_seen}
use Rattle.table.specs.Table.{records_of}
use Rattle.clearing.specs.Clearing.{report_of}
use Rattle.clearing.proofs.report.write_report.Given as goal

abbrev pub invariant-loop-i : goal.invariant-loop-i
invariant-loop-i l =
    let rs = records_of (rows_seen l.table) l.used in
    (length l.out ≡ length l.initial.out) × (over l.initial.out 0 (report_of l.lines rs) ≡ over l.out l.i (report_of (drop l.i l.lines) rs))
