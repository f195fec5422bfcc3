use Rattle.table.specs.Table.{records_of}
use Rattle.table.specs.Lent.{rows_seen}
use Rattle.figures.specs.Listing.{Summed}
use Rattle.figures.proofs.daily.sum_on.Given as goal

abbrev pub invariant-loop-place : goal.invariant-loop-place
invariant-loop-place l = Summed l.day l.state (records_of (rows_seen l.table) l.place) l.sum.count l.sum.total
