-- Document 02, [2]: what P prints of a day: its done records in table order, then number and kopecks of the done, then of the cancelled.
use Rattle.std.specs.Prelude.{ℕ, List, [], ◌∷◌, ◌++◌, length}
use Rattle.texts.specs.Digits.{decimal}
use Rattle.days.specs.declared.calendar.Day.{Day}
use Rattle.table.specs.declared.Record.{Record}
use Rattle.table.specs.Table.{done, cancelled}
use Rattle.table.specs.Daily.{records_on, total_of}

-- receipt, kopecks and authcode
unfoldable pub record_text : Record → List ℕ
record_text r = decimal r.receipt ++ ((32 ∷ decimal r.amount) ++ ((32 ∷ decimal r.authcode) ++ (10 ∷ [])))

unfoldable pub records_text : List Record → List ℕ
records_text [] = []
records_text (r ∷ rs) = record_text r ++ records_text rs

-- how many there are, and their kopecks
unfoldable pub sum_text : ℕ → ℕ → List ℕ
sum_text count total = decimal count ++ ((32 ∷ decimal total) ++ (10 ∷ []))

abbrev pub sum_of : List Record → List ℕ
sum_of rs = sum_text (length rs) (total_of rs)

unfoldable pub day_text : Day → List Record → List ℕ
day_text day rs = records_text (records_on day done rs) ++ (sum_of (records_on day done rs) ++ sum_of (records_on day cancelled rs))
