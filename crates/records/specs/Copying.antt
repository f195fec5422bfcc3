-- Document 01, "The shape of each place": how the code walks, from the lent records to rows of 4,096 places and back. Cited by inner contracts only: it needs no belief.
use Rattle.std.specs.Prelude.{◌≡◌, cond, List, ◌++◌, ℕ, zero, suc, min, leb, length, take, drop, get_or, set}
use Rattle.table.specs.declared.Gate.{Gate}
use Rattle.table.specs.declared.Record.{Record}
use Rattle.table.specs.Table.{Rows, no_record, record_at, rows_with}
use Rattle.admission.specs.Delivery.{Delivery, undelivered}

-- how many of the lent records have a place in the rows
abbrev pub rows_in : ℕ → ℕ
rows_in len = min len 4096

-- the rows with the first k records put in
unfoldable pub filled : List Record → ℕ → Rows → Rows
filled ts zero t = t
filled ts (suc k) t = rows_with (filled ts k t) k (get_or ts k no_record)

-- the records with the first k of the rows put in
unfoldable pub restored : List Record → ℕ → Rows → List Record
restored ts zero t = ts
restored ts (suc k) t = set (restored ts k t) k (record_at t k)

-- the rows have 4,096 places
pub record Sized (t : Rows) : Type 0 where
  pub nums : length t.nums ≡ 4096
  pub numbers : length t.numbers ≡ 4096
  pub dates : length t.dates ≡ 4096

-- the first n places of the rows
abbrev pub first_rows : ℕ → Rows → Rows
first_rows n t = record { nums = take n t.nums; numbers = take n t.numbers; dates = take n t.dates }

-- s, and the rows past their first n places
abbrev pub on_rows : ℕ → Rows → Rows → Rows
on_rows n t s = record { nums = s.nums ++ drop n t.nums; numbers = s.numbers ++ drop n t.numbers; dates = s.dates ++ drop n t.dates }

abbrev pub on_first : ℕ → Rows → Delivery → Delivery
on_first n t d = record { code = d.code; gate = d.gate; rows = on_rows n t d.rows; out = d.out; size = d.size }

-- a call on the first n places of the rows; more than 4,096 are refused
unfoldable pub on_part : ℕ → Gate → List ℕ → (Rows → Delivery) → Rows → Delivery
on_part n g out call t = cond (leb n 4096) (on_first n t (call (first_rows n t))) (undelivered 68 g t out)
