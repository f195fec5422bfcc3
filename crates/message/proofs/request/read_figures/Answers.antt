use Rattle.std.proofs.Common.{rules}
use Rattle.std.proofs.lemmas.Result.{err_from_is_err_and}
use Rattle.message.proofs.RequestLaws.{no-amount, no-date, no-reason, all-figures}
use Rattle.message.proofs.request.read_figures.Goals as goal

pub returns-in_err-amount : goal.returns-in_err-amount
returns-in_err-amount c = search (no-amount, rules)

pub returns-then-not-date_good : goal.returns-then-not-date_good
returns-then-not-date_good c =
    no-date _ _ _ c.receipt_field.ensures _ c.ok_or.ensures.value _ c.in_ok-receipt.was _ c.number_good.ensures c.if-not-number_good.false
    _ c.kind_field.ensures _ c.ok_or-2.ensures.value _ c.in_ok-kind.was _ c.amount_field.ensures _ c.ok_or-3.ensures.value _ c.in_ok-amount.was
    _ c.date_good.ensures c.if-not-date_good.true

pub returns-in_err-reason : goal.returns-in_err-reason
returns-in_err-reason c =
    let p = err_from_is_err_and c.from_residual-in_err-reason.result c.from_residual-in_err-reason.ensures.1 in
    rw (p.1, p.2)
    (no-reason _ _ _ c.receipt_field.ensures _ c.ok_or.ensures.value _ c.in_ok-receipt.was _ c.number_good.ensures c.if-not-number_good.false
    _ c.kind_field.ensures _ c.ok_or-2.ensures.value _ c.in_ok-kind.was _ c.amount_field.ensures _ c.ok_or-3.ensures.value _ c.in_ok-amount.was
    _ c.date_good.ensures c.if-not-date_good.false _ c.reason_field.ensures _ c.ok_or-4.ensures.value _ c.in_err-reason.was)

pub returns : goal.returns
returns c =
    all-figures _ _ _ c.receipt_field.ensures _ c.ok_or.ensures.value _ c.in_ok-receipt.was _ c.number_good.ensures c.if-not-number_good.false
    _ c.kind_field.ensures _ c.ok_or-2.ensures.value _ c.in_ok-kind.was _ c.amount_field.ensures _ c.ok_or-3.ensures.value _ c.in_ok-amount.was
    _ c.date_good.ensures c.if-not-date_good.false _ c.reason_field.ensures _ c.ok_or-4.ensures.value _ c.in_ok-reason.was
