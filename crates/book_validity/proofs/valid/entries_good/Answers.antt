use borrow.Author.Rules.{rules}
use Rattle.book.proofs.EntryLaws.{book-next}
use Rattle.book_validity.proofs.ValidLaws.{entry-bad, entry-passed, entries-end}
use Rattle.book_validity.proofs.valid.entries_good.Goals as goal

pub returns-then-not-entry_good-clause-value : goal.returns-then-not-entry_good-clause-value
returns-then-not-entry_good-clause-value c = search (entry-bad, rules)

pub loop-i-preserved : goal.loop-i-preserved
loop-i-preserved c = (search (entry-passed, rules), search (book-next, rules))

pub returns-clause-value : goal.returns-clause-value
returns-clause-value c = search (entries-end, rules)
