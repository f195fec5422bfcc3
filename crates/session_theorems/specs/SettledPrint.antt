-- Document 02, [2]: on a settled day the number and the kopecks that P prints of the done payments are the agent's. `proofs/SettledPrint.antt` proves it
-- (`settled-print : SettledPrint`), from demand 3 and so after every list of steps, in whatever order the table has the payments.
use Rattle.std.specs.Prelude.{ℕ, ◌≡◌, true, ◌&&◌, List, ◌++◌, eqb, length, Some}
use Rattle.days.specs.declared.calendar.Day.{Day}
use Rattle.days.specs.Calendar.{day_read}
use Rattle.table.specs.Table.{done, cancelled}
use Rattle.table.specs.Daily.{records_on, total_of}
use Rattle.line_fields.specs.LineFields.{field_count, field_at, has_letter}
use Rattle.figures.specs.Daily.{records_text, sum_text, sum_of}
use Rattle.orders.specs.Order.{Console, line_turn, turn_text}
use Rattle.channel.specs.World.{World, Step, run}
use Rattle.channel.specs.Claim.{Start, Lent, records_in, entries_in, credited_on, total, SettledDay}

-- a session at the gate of a world
abbrev pub session_at : World → Console
session_at w = record { started = true; gate = w.gate }

-- a line that asks for that day: P (80) and one field more
pub record AsksFor (l : List ℕ) (day : Day) : Type 0 where
  pub form : has_letter 80 l && eqb (field_count l) 2 ≡ true
  pub date : day_read (field_at 1 l) ≡ Some day

-- how many payments of a day the agent's book calls credited, and their kopecks
abbrev pub credited_count : World → Day → ℕ
credited_count w day = length (credited_on day (entries_in w))

abbrev pub credited_total : World → Day → ℕ
credited_total w day = total (credited_on day (entries_in w))

pub record SettledPrint : Type 0 where
  -- whatever is lent, the table's done payments of a settled day are as many as the agent's, of as many kopecks
  pub agrees : (w : World) → Start w → (ss : List Step) (day : Day) → SettledDay w ss day
      → (length (records_on day done (records_in (run ss w))) ≡ credited_count (run ss w) day)
      × (total_of (records_on day done (records_in (run ss w))) ≡ credited_total (run ss w) day)
  -- and where a table and a book are lent, P prints the agent's number and kopecks behind the lines of the payments
  pub prints : (w : World) → Start w → Lent w → (ss : List Step) (day : Day) → SettledDay w ss day → (l : List ℕ) → AsksFor l day
      → turn_text (line_turn (session_at (run ss w)) (run ss w).table l)
      ≡ records_text (records_on day done (records_in (run ss w)))
      ++ (sum_text (credited_count (run ss w) day) (credited_total (run ss w) day) ++ sum_of (records_on day cancelled (records_in (run ss w))))
