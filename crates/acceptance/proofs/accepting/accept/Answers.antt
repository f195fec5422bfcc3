use Rattle.book.proofs.RowsLaws.{entries-viewed}
use Rattle.acceptance.proofs.AcceptLaws.{made-room, store-room}
use Rattle.acceptance.proofs.accepting.accept.Goals as goal

pub made_entry-e-requires : goal.made_entry-e-requires
made_entry-e-requires c = made-room _ _ _ _ _ _ _ c.accept_fault-code.ensures.value c.if-code-ne0.false c.accept_fault-code.ensures.ready_book

pub store_entry-requires : goal.store_entry-requires
store_entry-requires c =
    let t = entries-viewed _ _ c.view.ensures in
    store-room _ _ _ _ _ _ _ (rw t at c.accept_fault-code.ensures.value) c.if-code-ne0.false (rw t at c.accept_fault-code.ensures.ready_book)
