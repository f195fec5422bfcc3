-- Document 01, "Registry": what the lines of a registry make of its day.
use Rattle.std.specs.Prelude.{ℕ, List, length}
use Rattle.days.specs.declared.calendar.Day.{Day}
use Rattle.texts.specs.Lists.{written}
use Rattle.lines.specs.declared.line.Line.{Line}
use Rattle.table.specs.declared.Gate.{Gate}
use Rattle.table.specs.Table.{Rows, records_of, rows_from}
use Rattle.table.specs.Accounts.{with_closed}
use Rattle.admission.specs.Delivery.{Delivery}
use Rattle.posting.specs.Posting.{ledger_of}
use Rattle.clearing.specs.Clearing.{settle_lines, swept, report_of}

-- the next day: settled, then closed
unfoldable pub settle_day : Gate → Rows → List ℕ → Day → List Line → List ℕ → Delivery
settle_day g t clock day xs out =
    let l = swept clock day xs (settle_lines clock (length t.nums) xs (ledger_of g t)) in
    record {
      code = 0;
      gate = with_closed l.gate day;
      rows = rows_from t l.records;
      out = written out 0 (report_of xs l.records);
      size = length xs;
    }

-- an earlier day is only reported
abbrev pub reported : Gate → Rows → List Line → List ℕ → Delivery
reported g t xs out =
    record { code = 0; gate = g; rows = t; out = written out 0 (report_of xs (records_of t g.used)); size = length xs }
