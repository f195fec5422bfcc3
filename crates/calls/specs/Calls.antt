-- Document 01, "The shape of each place": a call on the gate as one value, and what it does to the rows.
use Rattle.std.specs.Prelude.{List, ℕ}
use Rattle.days.specs.declared.calendar.Day.{Day}
use Rattle.fields.specs.declared.number.Number.{Number}
use Rattle.table.specs.declared.Gate.{Gate}
use Rattle.table.specs.Table.{Rows}
use Rattle.opening.specs.Opening.{open_account, draw_funds}
use Rattle.gate.specs.Deliver.{deliver}
use Rattle.admission.specs.Delivery.{Delivery, delivery_of}
use Rattle.settlement.specs.Settle.{settle}
use Rattle.calls.specs.declared.Call.{Call}
use Rattle.calls.specs.declared.Call.TheVariants.{Request, Registry, Opening, Drawing}

-- opening and drawing leave rows and buffer as they were
unfoldable pub call_on : Gate → Call → List ℕ → List ℕ → Rows → Delivery
call_on g (Request clock) text out t = deliver g t clock text out
call_on g (Registry clock day) text out t = settle g t clock day text out
call_on g (Opening number kind) text out t = delivery_of (open_account g t number kind) t out
call_on g (Drawing number kind kopecks) text out t = delivery_of (draw_funds g t number kind kopecks) t out

-- ---- each call by its own parameters
abbrev pub request_call : List ℕ → Call
request_call clock = Request clock

abbrev pub registry_call : List ℕ → Day → Call
registry_call clock day = Registry clock day

abbrev pub opening_call : Number → ℕ → Call
opening_call number kind = Opening number kind

abbrev pub drawing_call : Number → ℕ → ℕ → Call
drawing_call number kind kopecks = Drawing number kind kopecks
