-- Each call over records is the call over their rows.
use Prim.Native.Nat.{ℕ}
use mathlib.Core.Path.{◌≡◌, refl}
use mathlib.Core.List.{List}
use lib.ListN.{length}
use Rattle.days.specs.declared.calendar.Day.{Day}
use Rattle.fields.specs.declared.number.Number.{Number}
use Rattle.table.specs.declared.Gate.{Gate}
use Rattle.table.specs.declared.Record.{Record}
use Rattle.opening.specs.Opening.{open_account, draw_funds}
use Rattle.gate.specs.Deliver.{deliver}
use Rattle.admission.specs.Delivery.{delivery_of}
use Rattle.settlement.specs.Settle.{settle}
use Rattle.calls.specs.Calls.{call_on, request_call, registry_call, opening_call, drawing_call}
use Rattle.records.specs.Records.{rows_of, back_from, call_records}

module _ (g : Gate) (ts : List Record) (text out : List ℕ) where
  pub request-is : (clock : List ℕ) → call_records g ts (request_call clock) text out ≡ back_from (length ts) (deliver g (rows_of ts) clock text out)
  unfolding call_records call_on
  request-is clock = refl

  pub registry-is : (clock : List ℕ) (day : Day) → call_records g ts (registry_call clock day) text out ≡ back_from (length ts) (settle g (rows_of ts) clock day text out)
  unfolding call_records call_on
  registry-is clock day = refl

  pub opening-is : (n : Number) (k : ℕ) → call_records g ts (opening_call n k) text out ≡ back_from (length ts) (delivery_of (open_account g (rows_of ts) n k) (rows_of ts) out)
  unfolding call_records call_on
  opening-is n k = refl

  pub drawing-is : (n : Number) (k kopecks : ℕ) → call_records g ts (drawing_call n k kopecks) text out ≡ back_from (length ts) (delivery_of (draw_funds g (rows_of ts) n k kopecks) (rows_of ts) out)
  unfolding call_records call_on
  drawing-is n k kopecks = refl
