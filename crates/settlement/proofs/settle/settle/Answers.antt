use Rattle.std.proofs.Common.{refl}
use Rattle.table.proofs.RowsLaws.{rows-viewed}
use Rattle.admission.proofs.AdmissionLaws.{admitted-good, admitted-room}
use Rattle.settlement.proofs.TextLaws.{not-admitted, settle-read, held-ready}
use Rattle.settlement.proofs.settle.settle.Goals as goal

pub returns-then-refusal-ne0-clause-value : goal.returns-then-refusal-ne0-clause-value
returns-then-refusal-ne0-clause-value c = not-admitted _ _ _ _ _ _ _ (rw (rows-viewed _ _ c.view.ensures) at c.admit_gate-refusal.ensures.value) c.if-refusal-ne0.true _ refl _ refl

pub settle_text-requires : goal.settle_text-requires
settle_text-requires c =
    let t = rows-viewed _ _ c.view.ensures in
    let value = rw t at c.admit_gate-refusal.ensures.value in
    let none = c.if-refusal-ne0.false in
    (held-ready _ _ (rw t at (c.admit_gate-refusal.ensures.ready none)) (admitted-good _ _ _ _ _ value none), admitted-room _ _ _ _ _ value none)

pub returns-clause-value : goal.returns-clause-value
returns-clause-value c = settle-read _ _ _ _ _ _ _ (rw (rows-viewed _ _ c.view.ensures) at c.admit_gate-refusal.ensures.value) c.if-refusal-ne0.false _ c.settle_text.ensures.value
