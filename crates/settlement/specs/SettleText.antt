-- What the code makes of a text once the call is admitted. Cited by inner contracts only: it needs no belief.
use Rattle.std.specs.Prelude.{ℕ, List, cond, eqb}
use Rattle.days.specs.declared.calendar.Day.{Day}
use Rattle.registry.specs.Registry.{registry_lines, registry_fault}
use Rattle.table.specs.declared.Gate.{Gate}
use Rattle.table.specs.Table.{Rows}
use Rattle.admission.specs.Delivery.{Delivery, undelivered}
use Rattle.settlement.specs.Settle.{settle_read}

unfoldable pub settle_text : Gate → Rows → List ℕ → Day → List ℕ → List ℕ → Delivery
settle_text g t clock day text out =
    cond (eqb (registry_fault day text) 0) (settle_read g t clock day (registry_lines text) out) (undelivered (registry_fault day text) g t out)
