-- What the functions that print a day rest on. Cited by inner contracts only: it needs no belief.
use Rattle.std.specs.Prelude.{ℕ, ◌+◌, ◌≤◌, ◌<◌, ◌≡◌, List, length}
use Rattle.texts.specs.Lists.{over}
use Rattle.days.specs.declared.calendar.Day.{Day}
use Rattle.table.specs.declared.Record.{Record}
use Rattle.table.specs.Table.{Rows, record_at}
use Rattle.table.specs.Daily.{records_on, total_of}

-- records whose kopecks can be summed: at most 4,096, each of less than 10^9 kopecks
pub record Payable (t : Rows) (used : ℕ) : Type 0 where
  pub few : used ≤ 4096
  pub nums : used ≤ length t.nums
  pub numbers : used ≤ length t.numbers
  pub dates : used ≤ length t.dates
  pub amounts : (i : ℕ) → i < used → (record_at t i).amount < 1000000000

-- the text xs stands in the buffer d from `at` on; e is the buffer then, p the cursor behind it
pub record Put (d : List ℕ) (at : ℕ) (xs : List ℕ) (p : ℕ) (e : List ℕ) : Type 0 where
  pub fits : at + length xs ≤ length d
  pub cursor : p ≡ at + length xs
  pub text : e ≡ over d at xs

-- number and kopecks of the records that stand in a state on a day
pub record Summed (day : Day) (state : ℕ) (rs : List Record) (count total : ℕ) : Type 0 where
  pub counted : count ≡ length (records_on day state rs)
  pub kopecks : total ≡ total_of (records_on day state rs)
