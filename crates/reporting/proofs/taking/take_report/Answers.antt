use Rattle.std.proofs.Common.{ap, not, sym, ◌∙◌}
use Rattle.book.proofs.RowsLaws.{entries-viewed}
use Rattle.book_validity.specs.BookValid.{book_good}
use Rattle.book_validity.proofs.PassedLaws.{dated-is}
use Rattle.reporting.proofs.taking.take_report.Goals as goal

pub count_listed-n-requires-clause-dated : goal.count_listed-n-requires-clause-dated
count_listed-n-requires-clause-dated c =
    let same = entries-viewed _ _ c.view.ensures ∙ sym (entries-viewed _ _ c.view-2.ensures) in
    dated-is _ _ _ (c.book_good.ensures.value ∙ ap (book_good c.args.book) same) (ap not c.if-not-book_good.false)

pub mark_entries-requires-clause-dated : goal.mark_entries-requires-clause-dated
mark_entries-requires-clause-dated c =
    dated-is _ _ _ (c.book_good.ensures.value ∙ ap (book_good c.args.book) (entries-viewed _ _ c.view.ensures)) (ap not c.if-not-book_good.false)
