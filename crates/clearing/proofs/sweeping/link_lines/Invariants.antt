use Rattle.std.proofs.Common.{length}
use Rattle.index.specs.Index.{Chained}
use Rattle.clearing.specs.Steps.{receipt_in}
use Rattle.clearing.proofs.sweeping.link_lines.Given as goal

abbrev pub invariant-loop-i : goal.invariant-loop-i
invariant-loop-i l = Chained (receipt_in l.lines) l.i (length l.lines) l.heads l.next
