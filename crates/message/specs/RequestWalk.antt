-- How the code reads the fields of a request: its figures before the others. Cited by inner contracts only: it needs no belief.
use Rattle.std.specs.Prelude.{List, Option, Some, None, Result, Ok, Err}
use Rattle.payments.specs.declared.Action.{Action}
use Rattle.message.specs.declared.request.Figures.{Figures}
use Rattle.message.specs.declared.request.Fault.{Fault}
use Rattle.parameters.specs.Slots.{Slot}
use Rattle.message.specs.Request.{receipt_field, kind_field, amount_field, reason_field, value_in, field_fault}

-- figures, unless a field has a fault
abbrev pub figured : Option Fault → Figures → Result Figures Fault
figured None f = Ok f
figured (Some fault) f = Err fault

unfoldable pub figures_of : Action → List Slot → Result Figures Fault
figures_of a t =
    figured (field_fault a t)
    (record {
      receipt = value_in 0 (receipt_field a t);
      kind = value_in 0 (kind_field a t);
      amount = value_in 0 (amount_field a t);
      reason = value_in 0 (reason_field a t);
    })
