use Rattle.table.specs.Table.{records_of, done}
use Rattle.table.specs.Lent.{rows_seen}
use Rattle.table.specs.Daily.{records_on}
use Rattle.figures.specs.Daily.{records_text}
use Rattle.figures.specs.Listing.{Put}
use Rattle.figures.proofs.daily.write_records.Given as goal

abbrev pub invariant-loop-i : goal.invariant-loop-i
invariant-loop-i l = Put l.initial.dst l.at (records_text (records_on l.day done (records_of (rows_seen l.table) l.i))) l.cursor l.dst
