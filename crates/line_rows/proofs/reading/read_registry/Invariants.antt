use Rattle.std.proofs.Common.{◌-◌, length}
use Rattle.line_rows.proofs.ReadLaws.{Reading}
use Rattle.line_rows.proofs.reading.read_registry.Given as goal

abbrev pub invariant-loop-at : goal.invariant-loop-at
invariant-loop-at l = Reading l.day l.s l.lines l.n l.at l.rose l.last

abbrev pub decreases-loop-at : goal.decreases-loop-at
decreases-loop-at l = length l.s - l.at
