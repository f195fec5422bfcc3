-- Document 01, "Agent" and the rows 68, 55 and 66: a day is frozen.
use Rattle.std.specs.Prelude.{ℕ, Bool, false, cond, ◌&&◌, List}
use Rattle.days.specs.declared.calendar.Day.{Day}
use Rattle.days.specs.Calendar.{is_day, next_day, on_day, up_to}
use Rattle.dates.specs.Date.{date_day}
use Rattle.book.specs.declared.Book.{Book}
use Rattle.book.specs.Entries.{BookRows}
use Rattle.book_validity.specs.BookValid.{book_good}
use Rattle.daybook.specs.declared.freezing.Freezing.{Freezing}

-- a date on or before the frozen day
unfoldable pub is_frozen : Book → List ℕ → Bool
is_frozen b date = up_to b.frozen (date_day date)

-- ---- freezing: a day that follows the last frozen one, which has to be settled
abbrev pub frozen_on : Book → Day → Book
frozen_on b day = record { first = b.first; used = b.used; frozen = day; settled = false }

abbrev pub froze : ℕ → Book → Freezing
froze code b = record { code = code; book = b }

unfoldable pub freeze_on : Book → Day → Freezing
freeze_on b day =
    cond (is_day day) (cond (on_day day (next_day b.frozen) && b.settled) (froze 0 (frozen_on b day)) (froze 66 b)) (froze 55 b)

unfoldable pub freeze : Book → BookRows → Day → Freezing
freeze b t day = cond (book_good b t) (freeze_on b day) (froze 68 b)
