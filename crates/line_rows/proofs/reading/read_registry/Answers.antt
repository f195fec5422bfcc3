use Rattle.std.proofs.Common.{cond, ap, ◌∙◌}
use Rattle.registry.proofs.CheckLaws.{next-in}
use Rattle.line_rows.proofs.ReadLaws.{reading-start, reading-on, read-end, read_whole, read-fault, full, rest-fault, line-fault}
use Rattle.line_rows.proofs.reading.read_registry.Goals as goal

pub loop-at-init : goal.loop-at-init
loop-at-init c = reading-start _ _ _ c.requires

pub returns-then-n-ge-LINES_MOST-clause-fault_value : goal.returns-then-n-ge-LINES_MOST-clause-fault_value
returns-then-n-ge-LINES_MOST-clause-fault_value c = full c.loop-at.invariant c.if-n-ge-LINES_MOST.true c.loop-at-test.true _ c.fault_behind.ensures

pub returns-then-s-e-clause-fault_value : goal.returns-then-s-e-clause-fault_value
returns-then-s-e-clause-fault_value c = rest-fault c.loop-at.invariant _ c.loop-at-test.true c.end_of_line-e.ensures c.if-s-e.true _ c.fault_behind-then-s-e.ensures

pub returns-in_default-clause-fault_value : goal.returns-in_default-clause-fault_value
returns-in_default-clause-fault_value c =
    line-fault c.loop-at.invariant _ c.loop-at-test.true c.end_of_line-e.ensures c.if-s-e.false _ c.line_to-own.ensures _ c.find_line.ensures c.in_default.is _ c.fault_behind-in_default.ensures

pub loop-at-preserved : goal.loop-at-preserved
loop-at-preserved c =
    reading-on c.loop-at.invariant _ c.loop-at-test.true c.end_of_line-e.ensures c.if-s-e.false _ c.line_to-own.ensures _ c.find_line.ensures _ c.in-Some.is
    c.if-n-ge-LINES_MOST.false (next-in _ _ _ c.loop-at-test.true c.end_of_line-e.ensures c.if-s-e.false) _ c.line_in.ensures _ c.still_rise-rose.ensures

pub returns-then-rose-clause-fault_value : goal.returns-then-rose-clause-fault_value
returns-then-rose-clause-fault_value c = read-fault c.loop-at.invariant c.loop-at-test.false ∙ ap (λ b. cond b 0 54) c.if-rose.true

pub returns-then-rose-clause-lines_value : goal.returns-then-rose-clause-lines_value
returns-then-rose-clause-lines_value c = read-end c.loop-at.invariant c.loop-at-test.false

pub returns-then-rose-clause-read : goal.returns-then-rose-clause-read
returns-then-rose-clause-read c = read_whole c.loop-at.invariant c.loop-at-test.false

pub returns-else-rose-clause-fault_value : goal.returns-else-rose-clause-fault_value
returns-else-rose-clause-fault_value c = read-fault c.loop-at.invariant c.loop-at-test.false ∙ ap (λ b. cond b 0 54) c.if-rose.false
