use Rattle.index.specs.Index.{Chained}
use Rattle.posting.specs.Lookup.{receipt_at}
use Rattle.posting.proofs.lookup.link_records.Given as goal

abbrev pub invariant-loop-i : goal.invariant-loop-i
invariant-loop-i l = Chained (receipt_at l.nums) l.i l.used l.heads l.next
