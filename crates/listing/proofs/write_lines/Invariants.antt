use Rattle.book.specs.Entries.{entries_of}
use Rattle.book.specs.Lent.{entries_seen}
use Rattle.listing.proofs.RegistryLaws.{LinesLeft}
use Rattle.listing.proofs.write_lines.Given as goal

abbrev pub invariant-loop-i : goal.invariant-loop-i
invariant-loop-i l = LinesLeft l.day (entries_of (entries_seen l.entries) l.fn.b.used) l.initial.out l.out l.at l.i
