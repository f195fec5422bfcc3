use Rattle.std.proofs.Common.{refl}
use Rattle.table.proofs.RowsLaws.{rows-viewed}
use Rattle.admission.proofs.AdmissionLaws.{admitted-good}
use Rattle.gate.proofs.DeliverLaws.{not-admitted, read_done, asked-amount}
use Rattle.gate.proofs.deliver.deliver_lent.Goals as goal

pub answer_read-requires-clause-ready : goal.answer_read-requires-clause-ready
answer_read-requires-clause-ready c =
    let t = rows-viewed _ _ c.view.ensures in rw (c.view-2.ensures, t) at c.admit-fault.ensures.ready c.if-fault-ne0.false

pub answer_read-requires-clause-good : goal.answer_read-requires-clause-good
answer_read-requires-clause-good c =
    let t = rows-viewed _ _ c.view.ensures in
    admitted-good _ _ _ _ _ (rw (c.view-2.ensures, t) at c.admit-fault.ensures.value) c.if-fault-ne0.false

pub answer_read-requires-clause-small : goal.answer_read-requires-clause-small
answer_read-requires-clause-small c = asked-amount _ _ c.read_request.ensures _ c.asked_in-fault.ensures.1

pub returns-then-fault-ne0-clause-value : goal.returns-then-fault-ne0-clause-value
returns-then-fault-ne0-clause-value c =
    let t = rows-viewed _ _ c.view.ensures in
    not-admitted _ _ _ _ _ _ (rw (c.view-2.ensures, t) at c.admit-fault.ensures.value) c.if-fault-ne0.true _ refl _ refl

pub returns-clause-value : goal.returns-clause-value
returns-clause-value c =
    let t = rows-viewed _ _ c.view.ensures in
    read_done _ _ _ _ _ _ (rw (c.view-2.ensures, t) at c.admit-fault.ensures.value) c.if-fault-ne0.false _ c.read_request.ensures _ c.asked_in-fault.ensures.0 _ c.asked_in-fault.ensures.1 _
    c.answer_read.ensures.value
