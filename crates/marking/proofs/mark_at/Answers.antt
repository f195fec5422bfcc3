use Rattle.std.proofs.Common.{ap, not}
use Rattle.book.proofs.RowsLaws.{entry-viewed}
use Rattle.marking.proofs.MarkingLaws.{rows_more}
use Rattle.marking.proofs.mark_at.Goals as goal

pub returns-clause-dates_value : goal.returns-clause-dates_value
returns-clause-dates_value c =
    rows_more _ _ _ _ _ _ (entry-viewed _ _ c.view.ensures _ _ c.load_entry-e.ensures.value) _ c.is_listed.ensures (ap not c.if-not-is_listed.false)
    (rw c.view.ensures.nums at c.load_entry-e.ensures.i_len) _ c.marked_state.ensures _ c.state_number.ensures
