use mathlib.Core.Path.{◌≡◌}
use mathlib.Core.Bool.{true}
use borrow.Author.Rules.{rules}
use Rattle.lists.specs.Lists.{all_from}
use Rattle.book.specs.Entries.{entries_of}
use Rattle.book.specs.Lent.{entries_seen}
use Rattle.book_validity.specs.BookValid.{entry_good}
use Rattle.book_validity.proofs.BookLaws.{entries-dated}
use Rattle.book_validity.proofs.valid.book_good.Goals as goal

pub days_good-requires-clause-dated : goal.days_good-requires-clause-dated
days_good-requires-clause-dated c =
    let t = entries_seen c.args.entries in
    let good : all_from (entry_good c.args.b) 0 (entries_of t c.args.b.used) ≡ true = search rules in
    entries-dated c.args.b t good
