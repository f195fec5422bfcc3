-- Document 01, "Fields": written dates, YYYY-MM-DDThh:mm:ss, nineteen bytes.
use Rattle.days.specs.declared.calendar.Day.{Day}
use Rattle.std.specs.Prelude.{ℕ, List, Bool, true, false, cond, ◌&&◌, get_or, length, replicate, leb, eqb, Option, Some, None}
use Rattle.days.specs.Calendar.{two_at, day_part}

-- hh:mm:ss from the twelfth byte on, behind a T
unfoldable pub clock_time : List ℕ → Bool
clock_time s =
    eqb (get_or s 10 0) 84
    && (eqb (get_or s 13 0) 58 && (eqb (get_or s 16 0) 58 && (leb (two_at s 11) 23 && (leb (two_at s 14) 59 && leb (two_at s 17) 59))))

-- the day of a written date
unfoldable pub date_day : List ℕ → Option Day
date_day s = cond (eqb (length s) 19 && clock_time s) (day_part s) None

abbrev pub found : Option Day → Bool
found (Some x) = true
found None = false

-- whether nineteen bytes are a written date
abbrev pub is_written : List ℕ → Bool
is_written s = found (date_day s)

-- the cancel date of a record that is not cancelled
abbrev pub empty_date : List ℕ
empty_date = replicate 19 0

-- a field that holds a written date
unfoldable pub date_read : List ℕ → Option (List ℕ)
date_read s = cond (is_written s) (Some s) None

-- its number where it is none
abbrev pub date_fault : Option (List ℕ) → ℕ
date_fault None = 5
date_fault (Some d) = 0
