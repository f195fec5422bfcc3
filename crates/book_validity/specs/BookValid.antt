-- Document 01, row 68 of "What a fault gives": what a lent book must be, clause by clause. Places past those in use are not looked at.
use Rattle.std.specs.Prelude.{Bool, true, cond, ◌&&◌, List, [], ◌∷◌, ◌≡◌, ℕ, suc, ◌+◌, ◌≤◌, ◌<◌, eqb, leb, length, Option, Some, None}
use Rattle.days.specs.declared.calendar.Day.{Day}
use Rattle.texts.specs.Digits.{within}
use Rattle.fields.specs.Amount.{is_amount}
use Rattle.days.specs.Calendar.{is_day, on_day}
use Rattle.fields.specs.Codes.{is_receipt, is_kind}
use Rattle.dates.specs.Date.{date_day, is_written}
use Rattle.fields.specs.Number.{is_number}
use Rattle.lists.specs.Lists.{all_from}
use Rattle.lists.specs.Lent.{lent_well}
use Rattle.book.specs.declared.Book.{Book}
use Rattle.book.specs.declared.Entry.{Entry}
use Rattle.book.specs.Entries.{BookRows, entry_at, entries_of, WholeBook, OneLength}

-- the fields of an entry in their ranges, its state one of five
unfoldable pub entry_fields : Entry → Bool
entry_fields e =
    is_receipt e.receipt
    && (is_number e.number
    && (is_kind e.kind
    && (is_amount e.amount && (is_written e.date && (within 1 5 e.state && within 0 999999999999999 e.authcode)))))

-- receipts are consecutive from the first
unfoldable pub in_turn : Book → ℕ → Entry → Bool
in_turn b i e = eqb e.receipt (b.first + i)

unfoldable pub entry_good : Book → ℕ → Entry → Bool
entry_good b i e = in_turn b i e && entry_fields e

-- how many entries are on a day, in whatever state
unfoldable pub day_count : Day → List Entry → ℕ
day_count day [] = 0
day_count day (e ∷ es) = cond (on_day day (date_day e.date)) (suc (day_count day es)) (day_count day es)

-- at most 512 on one day
abbrev pub day_fits : List Entry → Option Day → Bool
day_fits es None = true
day_fits es (Some d) = leb (day_count d es) 512

unfoldable pub days_good : List Entry → Bool
days_good es = all_from (λ i e. day_fits es (date_day e.date)) 0 es

-- how its rows are lent
abbrev pub book_lent : Book → BookRows → Bool
book_lent b t = lent_well b.used (length t.nums) (length t.numbers) (length t.dates)

-- the first receipt is one, and the frozen day a date
unfoldable pub book_head : Book → Bool
book_head b = is_receipt b.first && is_day b.frozen

unfoldable pub book_good : Book → BookRows → Bool
book_good b t =
    book_lent b t && (book_head b && (all_from (entry_good b) 0 (entries_of t b.used) && days_good (entries_of t b.used)))

-- ---- the same as facts, for the functions behind the check
-- the dates of the first n entries are written ones
abbrev pub Dated : BookRows → ℕ → Type 0
Dated t n = (i : ℕ) → i < n → is_written (entry_at t i).date ≡ true

pub record ReadyBook (b : Book) (t : BookRows) : Type 0 where
  pub whole : WholeBook t b.used
  pub same : OneLength t
  pub size : length t.nums ≤ 4096
