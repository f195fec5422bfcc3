use Rattle.book.proofs.RowsLaws.{entry-viewed}
use Rattle.answering.proofs.AnsweringLaws.{at-answered}
use Rattle.answering.proofs.take_at.Goals as goal

pub returns-clause-value : goal.returns-clause-value
returns-clause-value c =
    at-answered _ _ _ _ _ _ c.in-Some.ensures c.requires.1 _ (entry-viewed _ _ c.view.ensures _ _ c.load_entry-e.ensures.value) _ c.is_frozen.ensures
    _ _ _ c.if-is_frozen.false c.requires.0 c.meaning_of-m.ensures c.answered_entry.ensures c.store_entry.ensures.value
