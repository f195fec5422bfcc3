use borrow.Author.Rules.{rules}
use Rattle.book.proofs.RowsLaws.{entry-viewed}
use Rattle.writing.proofs.WritingLaws.{at_open}
use Rattle.writing.proofs.write_entry.Goals as goal

pub returns-clause-value : goal.returns-clause-value
returns-clause-value c =
    at_open _ _ _ _ _ _ _ (entry-viewed _ _ c.view.ensures _ _ c.load_entry-e.ensures.value) _ c.is_open.ensures c.requires.0 c.requires.1 _ _ _ _ _ (search rules) c.request_of.ensures
    c.write_request-size.ensures.0 c.write_request-size.ensures.1 c.written_entry.ensures c.store_entry.ensures.value
