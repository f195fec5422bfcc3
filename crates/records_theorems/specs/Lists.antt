-- Document 01, "The shape of each place": lists of calls over a lent slice of records, and over rows. Each gets gate and table as the last left them.
use Rattle.std.specs.Prelude.{ℕ, List, [], ◌∷◌}
use Rattle.admission.specs.Delivery.{Delivery}
use Rattle.calls.specs.declared.Call.{Call}
use Rattle.records.specs.Records.{Called, call_records}
use Rattle.calls.specs.Calls.{call_on}

-- a call with its text and the buffer that is lent to it
pub record CallMade : Type 0 where
  pub call : Call
  pub text : List ℕ
  pub out : List ℕ

-- what the last call of a list answers and leaves; of no call, what there was
unfoldable pub over_records : Called → List CallMade → Called
over_records s [] = s
over_records s (m ∷ ms) = over_records (call_records s.gate s.records m.call m.text m.out) ms

unfoldable pub over_rows : Delivery → List CallMade → Delivery
over_rows d [] = d
over_rows d (m ∷ ms) = over_rows (call_on d.gate m.call m.text m.out d.rows) ms
