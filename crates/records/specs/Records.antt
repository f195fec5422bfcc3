-- Document 01, "The shape of each place": the payment table as a lent slice of records. What a call does to them is what the same call does to their rows.
use Rattle.std.specs.Prelude.{List, map, ℕ, length}
use Rattle.table.specs.declared.Gate.{Gate}
use Rattle.table.specs.declared.Record.{Record}
use Rattle.table.specs.Table.{Rows, nums_of, dates_of, records_of}
use Rattle.ledger.specs.declared.Reply.{Reply}
use Rattle.admission.specs.Delivery.{Delivery}
use Rattle.calls.specs.declared.Call.{Call}
use Rattle.calls.specs.Calls.{call_on}

-- the rows of these records, and no place more
unfoldable pub rows_of : List Record → Rows
rows_of ts = record { nums = map nums_of ts; numbers = map (λ (r : Record). r.number.bytes) ts; dates = map dates_of ts }

-- what it answers and leaves: its code, the gate, every lent record and the buffer, whose first `size` bytes were written
pub record Called : Type 0 where
  pub code : ℕ
  pub gate : Gate
  pub records : List Record
  pub out : List ℕ
  pub size : ℕ

abbrev pub called_of : Reply → List Record → List ℕ → Called
called_of r records out = record { code = r.code; gate = r.gate; records = records; out = out; size = r.size }

-- what a call gave on the rows of n records
abbrev pub back_from : ℕ → Delivery → Called
back_from n d = record { code = d.code; gate = d.gate; records = records_of d.rows n; out = d.out; size = d.size }

unfoldable pub call_records : Gate → List Record → Call → List ℕ → List ℕ → Called
call_records g ts c text out = back_from (length ts) (call_on g c text out (rows_of ts))
