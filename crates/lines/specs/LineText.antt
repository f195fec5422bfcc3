-- How the code puts a line together and takes it apart. Cited by inner contracts only: it needs no belief.
use Rattle.std.specs.Prelude.{ℕ, ◌+◌, ◌≤◌, ◌≡◌, List, ◌∷◌, ◌++◌, true, cond, length, take, drop, replicate, Option, Some, None}
use Rattle.texts.specs.Lists.{find}
use Rattle.texts.specs.Digits.{decimal}
use Rattle.fields.specs.Number.{number_text, number_of}
use Rattle.fields.specs.Amount.{amount_read}
use Rattle.fields.specs.Codes.{receipt_read}
use Rattle.days.specs.declared.calendar.Day.{Day}
use Rattle.days.specs.Calendar.{on_day}
use Rattle.dates.specs.Date.{date_day, is_written, date_read}
use Rattle.lines.specs.declared.line.Line.{Line}
use Rattle.lines.specs.declared.line.Found.{Found}
use Rattle.lines.specs.declared.line.Paid.{Paid}
use Rattle.lines.specs.Line.{field, after_field, line_of, line_read}

-- p is the end of the field that s begins with, or there is no date up to either; and it is within s
abbrev pub EndsDate : List ℕ → ℕ → Type 0
EndsDate s p = (date_day (take p s) ≡ date_day (field s)) × (is_written (take p s) ≡ true → p ≡ find 9 s) × (p ≤ length s)

-- a line that was read, where its date is on the day
abbrev pub line_kept : Day → Option Line → Option Line
line_kept day None = None
line_kept day (Some x) = cond (on_day day (date_day x.date)) (Some x) None

unfoldable pub line_read_on : Day → List ℕ → Option Line
line_read_on day s = line_kept day (line_read s)

-- the line of the day of a number's text and a type, and of the text of date, amount and receipt
unfoldable pub line_with : Day → List ℕ → ℕ → List ℕ → Option Line
line_with day name k s =
    line_kept day
    (line_of (Some (number_of name)) (Some k) (date_read (field s)) (amount_read (field (after_field s))) (receipt_read (after_field (after_field s))))

-- the line of a number's text and a type, and of what is paid in the text of date, amount and receipt
abbrev pub line_paid : List ℕ → ℕ → List ℕ → Option Paid → Option Line
line_paid name k s None = None
line_paid name k s (Some x) = Some (record { number = number_of name; kind = k; date = take 19 s; amount = x.amount; receipt = x.receipt })

-- x is what is paid in the text on the day
pub record PaidIn (day : Day) (s : List ℕ) (x : Option Paid) : Type 0 where
  pub line : (name : List ℕ) (k : ℕ) → line_paid name k s x ≡ line_with day name k s
  pub room : (y : Paid) → x ≡ Some y → 19 ≤ length s

-- the line that is found in its text
abbrev pub line_in : List ℕ → Found → Line
line_in s x =
    record { number = number_of (take x.len s); kind = x.kind; date = take 19 (drop x.date s); amount = x.amount; receipt = x.receipt }

-- number and date stand in the text
pub record Stands (s : List ℕ) (x : Found) : Type 0 where
  pub short : x.len ≤ 30
  pub number : x.len ≤ length s
  pub date : x.date + 19 ≤ length s

abbrev pub line_found : List ℕ → Option Found → Option Line
line_found s None = None
line_found s (Some x) = Some (line_in s x)

-- x is the line of the day that the text is, if it is one
pub record FoundIn (day : Day) (s : List ℕ) (x : Option Found) : Type 0 where
  pub line : line_found s x ≡ line_read_on day s
  pub stands : (y : Found) → x ≡ Some y → Stands s y

-- the row that a line is put together in
abbrev pub row_of9 : List ℕ
row_of9 = replicate 96 9

-- number, type and date of a line
unfoldable pub account_part : Line → List ℕ
account_part x = number_text x.number ++ ((9 ∷ decimal x.kind) ++ (9 ∷ x.date))
