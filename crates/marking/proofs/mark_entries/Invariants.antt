use Rattle.std.proofs.Common.{◌≡◌, length}
use Rattle.lists.specs.Rows.{SameLoan}
use Rattle.book.specs.Lent.{entries_in}
use Rattle.marking.proofs.MarkingLaws.{Marking}
use Rattle.marking.proofs.mark_entries.Given as goal

abbrev pub invariant-loop-i : goal.invariant-loop-i
invariant-loop-i l = record {
  nums : length l.entries.nums.now ≡ length l.initial.entries.nums.now;
  numbers : length l.entries.numbers.now ≡ length l.initial.entries.numbers.now;
  dates : length l.entries.dates.now ≡ length l.initial.entries.dates.now;
  marking : Marking (entries_in l.initial.entries) l.fn.b.used l.day l.s (entries_in l.entries) l.k l.i;
  same_loan : SameLoan l.initial.entries l.entries;
}
