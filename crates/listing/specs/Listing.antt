-- Document 01, "Agent" and the rows 68, 50 and 55: the registry of a frozen day.
use Rattle.std.specs.Prelude.{ℕ, List, [], ◌∷◌, map, Bool, cond, not, ◌&&◌, leb, length}
use Rattle.days.specs.declared.calendar.Day.{Day}
use Rattle.texts.specs.Lists.{written, cursor_after}
use Rattle.days.specs.Calendar.{is_day, day_before, on_day}
use Rattle.dates.specs.Date.{date_day}
use Rattle.lines.specs.declared.line.Line.{Line}
use Rattle.registry.specs.Registry.{registry_bytes}
use Rattle.book.specs.declared.Book.{Book}
use Rattle.book.specs.declared.Entry.{Entry}
use Rattle.book.specs.Entries.{BookRows, is_cancelled, entries_of}
use Rattle.book_validity.specs.BookValid.{book_good}
use Rattle.daybook.specs.declared.Writing.{Writing}

-- ---- the registry of a day: its entries that are not cancelled, in their order
unfoldable pub is_listed : Day → Entry → Bool
is_listed day e = on_day day (date_day e.date) && not (is_cancelled e)

unfoldable pub listed : Day → List Entry → List Entry
listed day [] = []
listed day (e ∷ es) = cond (is_listed day e) (e ∷ listed day es) (listed day es)

abbrev pub entry_line : Entry → Line
entry_line e = record { number = e.number; kind = e.kind; date = e.date; amount = e.amount; receipt = e.receipt }

unfoldable pub registry_of : Day → List Entry → List ℕ
registry_of day es = registry_bytes (map entry_line (listed day es))

-- what a registry's writing answers and leaves; the book is kept
pub record Listing : Type 0 where
  pub code : ℕ
  pub out : List ℕ
  pub size : ℕ

abbrev pub listing_of : Writing → List ℕ → Listing
listing_of r out = record { code = r.code; out = out; size = r.size }

abbrev pub unlisted : ℕ → List ℕ → Listing
unlisted code out = record { code = code; out = out; size = 0 }

-- a day up to the frozen one
unfoldable pub list_on : Book → BookRows → Day → List ℕ → Listing
list_on b t day out =
    cond (is_day day && not (day_before b.frozen day))
    (record { code = 0; out = written out 0 (registry_of day (entries_of t b.used)); size = cursor_after out 0 (registry_of day (entries_of t b.used)) })
    (unlisted 55 out)

unfoldable pub write_registry : Book → BookRows → Day → List ℕ → Listing
write_registry b t day out =
    cond (book_good b t) (cond (leb 65536 (length out)) (list_on b t day out) (unlisted 50 out)) (unlisted 68 out)
