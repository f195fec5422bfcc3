-- Document 01, "What a fault gives": what a request or a registry delivered to the gate answers and leaves, and the faults that come before what it asks.
use Rattle.std.specs.Prelude.{ℕ, List, cond, leb, length}
use Rattle.dates.specs.Date.{is_written}
use Rattle.table.specs.declared.Gate.{Gate}
use Rattle.table.specs.Table.{Rows}
use Rattle.validity.specs.Valid.{table_good}
use Rattle.table.specs.Columns.{Columns, gate_of}
use Rattle.ledger.specs.declared.Reply.{Reply}
use Rattle.ledger.specs.declared.HeadReply.{HeadReply}

-- the code, the gate, the rows and the buffer, whose first `size` bytes are the answer or the report (none where nothing is written)
pub record Delivery : Type 0 where
  pub code : ℕ
  pub gate : Gate
  pub rows : Rows
  pub out : List ℕ
  pub size : ℕ

abbrev pub delivery_of : Reply → Rows → List ℕ → Delivery
delivery_of r rows out = record { code = r.code; gate = r.gate; rows = rows; out = out; size = r.size }

-- the same where the accounts are lent in columns
abbrev pub lent_delivery : HeadReply → Columns → Rows → List ℕ → Delivery
lent_delivery r a rows out = record { code = r.code; gate = gate_of r.head a; rows = rows; out = out; size = r.size }

-- nothing is written, and all is kept
abbrev pub undelivered : ℕ → Gate → Rows → List ℕ → Delivery
undelivered code g t out = record { code = code; gate = g; rows = t; out = out; size = 0 }

-- 68, 50 and 51, in this order; 0 where there is none of them
unfoldable pub admission : Gate → Rows → List ℕ → ℕ → ℕ
admission g t clock room = cond (table_good g t) (cond (leb 512 room) (cond (is_written clock) 0 51) 50) 68

-- these write nothing and keep all; else it is as d says
abbrev pub admitted : Gate → Rows → List ℕ → List ℕ → Delivery → Delivery
admitted g t clock out d =
    cond (table_good g t)
    (cond (leb 512 (length out)) (cond (is_written clock) d (undelivered 51 g t out)) (undelivered 50 g t out))
    (undelivered 68 g t out)
