-- Document 01, "Registry", and document 02, [2]: the records of a day that stand in one state, in table order; their number is the list's length.
use Rattle.std.specs.Prelude.{ℕ, ◌+◌, List, [], ◌∷◌, Bool, cond, ◌&&◌, eqb}
use Rattle.days.specs.declared.calendar.Day.{Day}
use Rattle.days.specs.Calendar.{on_day}
use Rattle.dates.specs.Date.{date_day}
use Rattle.table.specs.declared.Record.{Record}
use Rattle.table.specs.Table.{done}

abbrev pub is_done : Record → Bool
is_done r = eqb r.state done

-- in that state, and of that day by its own date
abbrev pub stands_on : Day → ℕ → Record → Bool
stands_on day state r = eqb r.state state && on_day day (date_day r.date)

unfoldable pub records_on : Day → ℕ → List Record → List Record
records_on day state [] = []
records_on day state (r ∷ rs) = cond (stands_on day state r) (r ∷ records_on day state rs) (records_on day state rs)

-- their kopecks
unfoldable pub total_of : List Record → ℕ
total_of [] = 0
total_of (r ∷ rs) = r.amount + total_of rs
