use Rattle.book.specs.Entries.{entries_of}
use Rattle.book.specs.Lent.{entries_seen}
use Rattle.book_validity.proofs.CountLaws.{DayCounts}
use Rattle.book_validity.proofs.counts.days_good.Given as goal

-- Each slot holds the count of its day among the entries that were read, and none is past the limit.
abbrev pub invariant-loop-i : goal.invariant-loop-i
invariant-loop-i l = DayCounts l.counts (entries_of (entries_seen l.entries) l.i)
