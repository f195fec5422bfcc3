use mathlib.Core.Path.{◌≡◌}
use lib.ListN.{drop}
use Rattle.lists.specs.Lists.{all_from}
use Rattle.book.specs.Entries.{entries_of, WholeBook}
use Rattle.book.specs.Lent.{entries_seen}
use Rattle.book_validity.specs.BookValid.{entry_good}
use Rattle.book_validity.proofs.valid.entries_good.Given as goal

-- What is left to test gives the whole answer, and the rows that were read are whole.
abbrev pub invariant-loop-i : goal.invariant-loop-i
invariant-loop-i l =
    (all_from (entry_good l.b) 0 (entries_of (entries_seen l.entries) l.i-end)
    ≡ all_from (entry_good l.b) l.i (drop l.i (entries_of (entries_seen l.entries) l.i-end)))
    × WholeBook (entries_seen l.entries) l.i
