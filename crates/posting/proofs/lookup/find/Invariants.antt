use Rattle.index.specs.Index.{slot_of}
use Rattle.index.proofs.WalkLaws.{Walk, ahead}
use Rattle.table.specs.Table.{records_of}
use Rattle.table.specs.Lent.{rows_seen}
use Rattle.posting.specs.Lookup.{receipt_at, fits}
use Rattle.posting.proofs.lookup.find.Given as goal

abbrev pub invariant-loop-at : goal.invariant-loop-at
invariant-loop-at l = Walk (fits l.w l.x) (records_of (rows_seen l.table) l.used) (receipt_at l.table.nums.now) (slot_of l.x.receipt) l.used l.at

abbrev pub decreases-loop-at : goal.decreases-loop-at
decreases-loop-at l = ahead l.used l.at
