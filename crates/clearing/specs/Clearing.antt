-- Document 01, "Registry": what the lines of a day do to the ledger: settled in their order, the sweep, the report.
use Rattle.std.specs.Prelude.{ℕ, List, [], ◌∷◌, map, Bool, false, cond, not, ◌&&◌, ◌||◌}
use Rattle.days.specs.declared.calendar.Day.{Day}
use Rattle.lines.specs.declared.line.Line.{Line}
use Rattle.table.specs.declared.Record.{Record}
use Rattle.table.specs.declared.Gate.{Gate}
use Rattle.table.specs.Accounts.{accounts_of, find_account}
use Rattle.ledger.specs.Change.{revoked, debited_at}
use Rattle.table.specs.Table.{done}
use Rattle.table.specs.Daily.{is_done, stands_on}
use Rattle.posting.specs.Posting.{matches, Ledger, settle_line}

-- the lines in their order
unfoldable pub settle_lines : List ℕ → ℕ → List Line → Ledger → Ledger
settle_lines clock lent [] l = l
settle_lines clock lent (x ∷ xs) l = settle_lines clock lent xs (settle_line clock lent x l)

-- ---- the sweep: what is done on the day and stands in no line is cancelled, whatever the balance
unfoldable pub any_matches : List Line → Record → Bool
any_matches [] r = false
any_matches (x ∷ xs) r = matches x r || any_matches xs r

unfoldable pub is_stray : Day → List Line → Record → Bool
is_stray day xs r = stands_on day done r && not (any_matches xs r)

unfoldable pub swept_record : List ℕ → Day → List Line → Record → Record
swept_record clock day xs r = cond (is_stray day xs r) (revoked clock r) r

unfoldable pub swept_gate : Day → List Line → Record → Gate → Gate
swept_gate day xs r g = cond (is_stray day xs r) (debited_at g (find_account r.number r.kind (accounts_of g)) r.amount) g

unfoldable pub sweep_gates : Day → List Line → List Record → Gate → Gate
sweep_gates day xs [] g = g
sweep_gates day xs (r ∷ rs) g = sweep_gates day xs rs (swept_gate day xs r g)

unfoldable pub swept : List ℕ → Day → List Line → Ledger → Ledger
swept clock day xs l =
    record { gate = sweep_gates day xs l.records l.gate; records = map (swept_record clock day xs) l.records }

-- ---- the report: a byte for each line, 1 (49) where it stands done in the table
unfoldable pub any_done : Line → List Record → Bool
any_done x [] = false
any_done x (r ∷ rs) = (is_done r && matches x r) || any_done x rs

unfoldable pub report_of : List Line → List Record → List ℕ
report_of [] rs = []
report_of (x ∷ xs) rs = cond (any_done x rs) 49 48 ∷ report_of xs rs
