use Rattle.std.proofs.Common.{length}
use Rattle.index.specs.Index.{slot_of}
use Rattle.index.proofs.WalkLaws.{Walk, ahead}
use Rattle.lines.specs.declared.line.Line.{Line}
use Rattle.posting.specs.Posting.{matches}
use Rattle.clearing.specs.Steps.{receipt_in}
use Rattle.clearing.proofs.sweeping.any_matches.Given as goal

abbrev pub invariant-loop-at : goal.invariant-loop-at
invariant-loop-at l = Walk (λ (x : Line). matches x l.r) l.lines (receipt_in l.lines) (slot_of l.r.receipt) (length l.lines) l.at

abbrev pub decreases-loop-at : goal.decreases-loop-at
decreases-loop-at l = ahead (length l.lines) l.at
