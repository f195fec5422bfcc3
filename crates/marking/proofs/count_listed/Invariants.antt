use Rattle.std.proofs.Common.{◌≡◌, ◌+◌, ◌≤◌, List, length, drop}
use Rattle.book.specs.declared.Entry.{Entry}
use Rattle.book.specs.Entries.{entries_of}
use Rattle.book.specs.Lent.{entries_seen}
use Rattle.listing.specs.Listing.{listed}
use Rattle.marking.proofs.count_listed.Given as goal

abbrev pub invariant-loop-i : goal.invariant-loop-i
invariant-loop-i l =
    let es : List Entry = entries_of (entries_seen l.entries) l.fn.b.used in
    record { few : l.n ≤ l.i; passed : length (listed l.day es) ≡ l.n + length (listed l.day (drop l.i es)) }
