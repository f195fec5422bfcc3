-- Document 01, "Registry": settlement of the table by a day's registry.
use Rattle.std.specs.Prelude.{ℕ, List, cond, not, ◌&&◌, eqb}
use Rattle.days.specs.declared.calendar.Day.{Day}
use Rattle.days.specs.Calendar.{is_day, day_before, next_day, on_day}
use Rattle.lines.specs.declared.line.Line.{Line}
use Rattle.registry.specs.Registry.{registry_lines, registry_fault}
use Rattle.table.specs.declared.Gate.{Gate}
use Rattle.table.specs.Table.{Rows}
use Rattle.admission.specs.Delivery.{Delivery, undelivered, admitted}
use Rattle.closing.specs.Closing.{settle_day, reported}

-- the day after the closed one is settled, an earlier one only reported; one that is further on, or none, is 55
unfoldable pub settle_read : Gate → Rows → List ℕ → Day → List Line → List ℕ → Delivery
settle_read g t clock day xs out =
    cond (on_day day (next_day g.closed))
    (settle_day g t clock day xs out)
    (cond (is_day day && not (day_before g.closed day)) (reported g t xs out) (undelivered 55 g t out))

-- 68, 50, 51, then 53, 52, 54 of the text, then 55
unfoldable pub settle : Gate → Rows → List ℕ → Day → List ℕ → List ℕ → Delivery
settle g t clock day text out =
    admitted g t clock out
    (cond (eqb (registry_fault day text) 0) (settle_read g t clock day (registry_lines text) out) (undelivered (registry_fault day text) g t out))
