use Rattle.std.proofs.Common.{rules, ap, not}
use Rattle.lines.proofs.LineLaws.{behind-fits, found-no-number, found-no-kind, found-unpaid, found-line}
use Rattle.lines.proofs.line.find_line.Goals as goal

pub returns-then-not-is_text : goal.returns-then-not-is_text
returns-then-not-is_text c = search (found-no-number, rules)

pub overflow_add-p : goal.overflow_add-p
overflow_add-p c = search (behind-fits, rules)

pub returns-in_err-kind : goal.returns-in_err-kind
returns-in_err-kind c = search (found-no-kind, rules)

pub overflow_add-q : goal.overflow_add-q
overflow_add-q c = search (behind-fits, rules)

pub returns-in_err-paid : goal.returns-in_err-paid
returns-in_err-paid c = search (found-unpaid, rules)

pub returns : goal.returns
returns c =
    found-line _ _ _ c.find_byte-p.ensures _ c.first_bytes.ensures _ c.is_text.ensures (ap not c.if-not-is_text.false) _ c.bytes_from-s1.ensures _ c.find_byte-q.ensures
    _ c.first_bytes-2.ensures _ c.read_kind.ensures _ c.in_ok-kind.was _ c.bytes_from.ensures _ c.read_paid.ensures _ c.in_ok-paid.was
