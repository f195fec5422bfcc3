use Rattle.std.proofs.Common.{rules, ap, not}
use Rattle.lines.proofs.LineLaws.{behind-fits, paid-off, paid-no-amount, paid-no-receipt, paid-good}
use Rattle.lines.proofs.line.read_paid.Goals as goal

pub returns-then-not-is_text_on : goal.returns-then-not-is_text_on
returns-then-not-is_text_on c = search (paid-off, rules)

pub returns-in_err-amount : goal.returns-in_err-amount
returns-in_err-amount c =
    paid-no-amount _ _ _ c.date_end-p.ensures _ c.first_bytes.ensures _ c.is_text_on.ensures (ap not c.if-not-is_text_on.false) _ c.bytes_from-s1.ensures _ c.find_byte-q.ensures
    _ c.first_bytes-2.ensures _ c.read_amount.ensures c.in_err-amount.was _ c.from_residual.ensures

pub overflow_add-q : goal.overflow_add-q
overflow_add-q c = search (behind-fits, rules)

pub returns-in_err-receipt : goal.returns-in_err-receipt
returns-in_err-receipt c =
    paid-no-receipt _ _ _ c.date_end-p.ensures _ c.first_bytes.ensures _ c.is_text_on.ensures (ap not c.if-not-is_text_on.false) _ c.bytes_from-s1.ensures _ c.find_byte-q.ensures
    _ c.first_bytes-2.ensures _ c.read_amount.ensures _ c.in_ok-amount.was _ c.bytes_from.ensures _ c.read_receipt.ensures c.in_err-receipt.was _ c.from_residual-in_err-receipt.ensures

pub returns : goal.returns
returns c =
    paid-good _ _ _ c.date_end-p.ensures _ c.first_bytes.ensures _ c.is_text_on.ensures (ap not c.if-not-is_text_on.false) _ c.bytes_from-s1.ensures _ c.find_byte-q.ensures
    _ c.first_bytes-2.ensures _ c.read_amount.ensures _ c.in_ok-amount.was _ c.bytes_from.ensures _ c.read_receipt.ensures _ c.in_ok-receipt.was
