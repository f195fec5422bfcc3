-- Document 01, "Agent" and the rows 68, 60 and 61: a payment is accepted at the counter.
use Rattle.days.specs.declared.calendar.Day.{Day}
use Rattle.std.specs.Prelude.{ℕ, ◌+◌, List, [], ◌∷◌, ◌++◌, Bool, false, cond, not, ◌&&◌, eqb, ltb, length, Option, Some, None}
use Rattle.fields.specs.declared.number.Number.{Number}
use Rattle.fields.specs.Amount.{is_amount}
use Rattle.fields.specs.Codes.{is_receipt, is_kind}
use Rattle.dates.specs.Date.{date_day, is_written}
use Rattle.fields.specs.Number.{is_number}
use Rattle.book.specs.declared.Book.{Book}
use Rattle.book.specs.declared.Entry.{Entry}
use Rattle.book.specs.declared.State.TheVariants.{Asked}
use Rattle.book.specs.Entries.{BookRows, state_number, entries_of, book_from}
use Rattle.book_validity.specs.BookValid.{day_count, book_good}
use Rattle.daybook.specs.Freezing.{is_frozen}
use Rattle.acceptance.specs.declared.accepting.Acceptance.{Acceptance as Given}

-- what an acceptance answers and leaves; the receipt is 0 with a fault
pub record Acceptance : Type 0 where
  pub code : ℕ
  pub book : Book
  pub rows : BookRows
  pub receipt : ℕ

abbrev pub acceptance_of : Given → BookRows → Acceptance
acceptance_of r rows = record { code = r.code; book = r.book; rows = rows; receipt = r.receipt }

-- the receipt that comes next
unfoldable pub next_receipt : Book → ℕ
next_receipt b = b.first + b.used

unfoldable pub made_entry : Book → Number → ℕ → ℕ → List ℕ → Entry
made_entry b n k amount date =
    record { receipt = next_receipt b; number = n; kind = k; amount = amount; date = date; state = state_number Asked; authcode = 0 }

-- well formed fields, and an unfrozen date
unfoldable pub may_accept : Book → Number → ℕ → ℕ → List ℕ → Bool
may_accept b n k amount date = is_number n && (is_kind k && (is_amount amount && (is_written date && not (is_frozen b date))))

-- a day that has not its 512 entries yet
abbrev pub day_open : List Entry → Option Day → Bool
day_open es None = false
day_open es (Some d) = ltb (day_count d es) 512

-- a free place in the book, on the day and among the receipts
unfoldable pub has_place : Book → BookRows → List ℕ → Bool
has_place b t date =
    ltb b.used (length t.nums) && (day_open (entries_of t b.used) (date_day date) && is_receipt (next_receipt b))

abbrev pub with_entry : Book → Book
with_entry b = record { first = b.first; used = b.used + 1; frozen = b.frozen; settled = b.settled }

-- the fault, 0 where there is none
unfoldable pub accept_fault : Book → BookRows → Number → ℕ → ℕ → List ℕ → ℕ
accept_fault b t n k amount date = cond (book_good b t) (cond (may_accept b n k amount date) (cond (has_place b t date) 0 61) 60) 68

unfoldable pub accept : Book → BookRows → Number → ℕ → ℕ → List ℕ → Acceptance
accept b t n k amount date =
    cond (eqb (accept_fault b t n k amount date) 0)
    (record {
      code = 0;
      book = with_entry b;
      rows = book_from t (entries_of t b.used ++ (made_entry b n k amount date ∷ []));
      receipt = next_receipt b;
    })
    (record { code = accept_fault b t n k amount date; book = b; rows = t; receipt = 0 })
