-- Document 01, "Fields": days of the Gregorian calendar from 2000 to 2099, the next one, and their order.
use Rattle.std.specs.Prelude.{ℕ, zero, suc, ◌+◌, ◌-◌, ◌*◌, ◌%◌, List, Bool, true, false, cond, not, ◌&&◌, ◌||◌, get_or, length, ltb, leb, eqb, Option, Some, None}
use Rattle.days.specs.declared.calendar.Day.{Day}
use Rattle.texts.specs.Digits.{is_digit}

unfoldable pub leap_year : ℕ → Bool
leap_year y = eqb (y % 4) 0 && (not (eqb (y % 100) 0) || eqb (y % 400) 0)

unfoldable pub days_in : ℕ → ℕ → ℕ
days_in y m = cond (eqb m 2) (cond (leap_year y) 29 28) (cond (eqb m 4 || (eqb m 6 || (eqb m 9 || eqb m 11))) 30 31)

-- whether year, month and day are a date
unfoldable pub is_date : ℕ → ℕ → ℕ → Bool
is_date y m d = leb 2000 y && (leb y 2099 && (leb 1 m && (leb m 12 && (leb 1 d && leb d (days_in y m)))))

unfoldable pub day_of : ℕ → ℕ → ℕ → Option Day
day_of y m d = cond (is_date y m d) (Some (record { year = y; month = m; day = d })) None

-- the fault number of a day whose own is `code`: 0 where it is a date
abbrev pub day_fault : ℕ → Option Day → ℕ
day_fault code None = code
day_fault code (Some d) = 0

abbrev pub is_day : Day → Bool
is_day x = is_date x.year x.month x.day

-- the day after a date; none after 2099-12-31, nor after what is no date
unfoldable pub next_day : Day → Option Day
next_day x =
    cond (is_day x)
    (cond (ltb x.day (days_in x.year x.month)) (day_of x.year x.month (x.day + 1))
    (cond (ltb x.month 12) (day_of x.year (x.month + 1) 1) (day_of (x.year + 1) 1 1)))
    None

-- ---- the order of days
abbrev pub day_key : Day → ℕ
day_key x = x.year * 65536 + x.month * 256 + x.day

unfoldable pub day_before : Day → Day → Bool
day_before x y = ltb (day_key x) (day_key y)

unfoldable pub same_day : Day → Day → Bool
same_day x y = eqb x.year y.year && (eqb x.month y.month && eqb x.day y.day)

-- whether what was read is this day, or one up to it; what is no date is on no day and before all
abbrev pub on_day : Day → Option Day → Bool
on_day day None = false
on_day day (Some x) = same_day x day

abbrev pub up_to : Day → Option Day → Bool
up_to last None = true
up_to last (Some x) = not (day_before last x)

-- the days of the first m months of a year, and of the first k years from 2000 on
unfoldable pub months_days : ℕ → ℕ → ℕ
months_days y zero = 0
months_days y (suc m) = months_days y m + days_in y (suc m)

unfoldable pub years_days : ℕ → ℕ
years_days zero = 0
years_days (suc k) = years_days k + months_days (2000 + k) 12

-- a day's place in the calendar: 2000-01-01 is 1
unfoldable pub day_number : Day → ℕ
day_number x = years_days (x.year - 2000) + months_days x.year (x.month - 1) + x.day

-- ---- YYYY-MM-DD
-- the value of two digits, or 100 where one is none
unfoldable pub two_digits : ℕ → ℕ → ℕ
two_digits a b = cond (is_digit a && is_digit b) ((a - 48) * 10 + (b - 48)) 100

abbrev pub two_at : List ℕ → ℕ → ℕ
two_at s i = two_digits (get_or s i 0) (get_or s (i + 1) 0)

-- the day of its two dashes and four pairs of digits
abbrev pub day_with : ℕ → ℕ → ℕ → ℕ → ℕ → ℕ → Option Day
day_with dash other century y m d =
    cond (eqb dash 45 && (eqb other 45 && (eqb century 20 && leb y 99))) (day_of (2000 + y) m d) None

-- the day that the first ten bytes are
unfoldable pub day_part : List ℕ → Option Day
day_part s =
    cond (leb 10 (length s)) (day_with (get_or s 4 0) (get_or s 7 0) (two_at s 0) (two_at s 2) (two_at s 5) (two_at s 8)) None

-- a day that stands alone
unfoldable pub day_read : List ℕ → Option Day
day_read s = cond (eqb (length s) 10) (day_part s) None
