-- What acceptance, freezing and a registry's writing give where document 01 asks for nothing more.
use Rattle.std.specs.Prelude.{Some}
use Prim.Native.Nat.{ℕ, ◌+◌, ◌<◌, ◌≤◌}
use native.Mathlib.Omega.{arith}
use mathlib.Core.Path.{◌≡◌, refl, ap, ◌∙◌}
use mathlib.Core.Bool.{true, false}
use mathlib.Core.List.{List, [], ◌∷◌, ◌++◌, map}
use lib.ListN.{length, get_or, take}
use borrow.Author.Tests.{lt-ltb, le-leb}
use Rattle.days.specs.declared.calendar.Day.{Day}
use Rattle.fields.specs.declared.number.Number.{Number}
use Rattle.fields.specs.Amount.{is_amount}
use Rattle.days.specs.Calendar.{is_day, day_before, next_day, on_day}
use Rattle.fields.specs.Codes.{is_receipt, is_kind}
use Rattle.dates.specs.Date.{date_day, is_written}
use Rattle.fields.specs.Number.{is_number}
use Rattle.texts.proofs.Tests.{cond-elim}
use Rattle.texts.proofs.OutLaws.{text-back}
use Rattle.lists.proofs.LentLaws.{lent-facts}
use Rattle.lines.specs.Line.{line_again}
use Rattle.registry.specs.Registry.{registry_fault, registry_lines}
use Rattle.book.specs.declared.Book.{Book}
use Rattle.book.specs.declared.Entry.{Entry}
use Rattle.book.specs.declared.State.TheVariants.{Asked}
use Rattle.book.specs.Entries.{BookRows, state_number, WholeBook, entries_of, book_with, book_from}
use Rattle.book_validity.specs.BookValid.{day_count, book_good}
use Rattle.book.proofs.EntryLaws.{book-more}
use Rattle.book_validity.proofs.BookLaws.{good-lent}
use Rattle.acceptance.specs.Acceptance.{next_receipt, made_entry, may_accept, has_place, accept_fault, accept}
use Rattle.daybook.specs.Freezing.{is_frozen}
use Rattle.daybook.specs.Freezing.{freeze_on, freeze}
use Rattle.listing.specs.Listing.{listed, entry_line, registry_of, Listing, list_on, write_registry}
use Rattle.listing.proofs.RegistryLaws.{registry-few}
use Rattle.agent_theorems.proofs.ListedTheorems.{registry-reads, registry-holds, list-elim}

-- a good book's rows are whole, since an entry's numbers are six in their array
pub good-whole : (b : Book) (t : BookRows) → book_good b t ≡ true → ((i : ℕ) → i < b.used → length (get_or t.nums i []) ≡ 6) → WholeBook t b.used
good-whole b t good six =
    let l = lent-facts _ _ _ _ (good-lent b t good) in
    record { nums = l.room; numbers = omega (arith, l.room, l.second); dates = omega (arith, l.room, l.third); six = six }

-- ---- a registry
module _ (b : Book) (t : BookRows) (day : Day) (out : List ℕ) where
  abbrev call : Listing
  call = write_registry b t day out

  abbrev entries : List Entry
  entries = entries_of t b.used

  module _ (done : call.code ≡ 0) where
    book-was-good : book_good b t ≡ true
    unfolding write_registry
    book-was-good =
        cond-elim (λ (d : Listing). d.code ≡ 0 → book_good b t ≡ true) (book_good b t) _ _ (λ g _. g) (λ _ z. absurd (omega arith)) done

    -- a writing with 0 leaves the day's registry at the start of the buffer
    pub registry-text : take call.size call.out ≡ registry_of day entries
    registry-text =
        list-elim b t day out (λ (d : Listing). d.code ≡ 0 → take d.size d.out ≡ registry_of day entries)
        (λ c h z. absurd (omega arith))
        (λ room _ _ _. text-back out (registry_of day entries) (omega (arith, room, registry-few b t day book-was-good)))
        done

    -- these bytes read back, without a fault, as the day's entries that are not cancelled, in their order
    pub registry-back :
        (registry_fault day (take call.size call.out) ≡ 0) × (registry_lines (take call.size call.out) ≡ map line_again (map entry_line (listed day entries)))
    registry-back = (
      ap (registry_fault day) registry-text ∙ registry-reads b t day book-was-good,
      ap registry_lines registry-text ∙ registry-holds b t day book-was-good,
    )

  -- the registry of a date that is not after the frozen day is written
  pub registry-gives : book_good b t ≡ true → 65536 ≤ length out → is_day day ≡ true → day_before b.frozen day ≡ false
      → (call.code ≡ 0) × (take call.size call.out ≡ registry_of day entries)
  registry-gives good room date frozen = (zero, registry-text zero)
    where
      zero : call.code ≡ 0
      zero = unfold write_registry list_on in rw (good, le-leb 65536 (length out) room, date, frozen) refl

-- ---- acceptance
module _ (b : Book) (t : BookRows) (n : Number) (kind amount : ℕ) (date : List ℕ) where
  -- well formed fields of an unfrozen day, with a free place in the book, on the day and among the receipts, are the next entry, asked
  pub accept-gives : book_good b t ≡ true → ((i : ℕ) → i < b.used → length (get_or t.nums i []) ≡ 6)
      → is_number n ≡ true → is_kind kind ≡ true → is_amount amount ≡ true → is_written date ≡ true
      → (x : Day) → date_day date ≡ Some x → day_before b.frozen x ≡ true
      → b.used < length t.nums → day_count x (entries_of t b.used) < 512 → is_receipt (b.first + b.used) ≡ true
      → accept b t n kind amount date ≡
      record {
        code = 0;
        book = record { first = b.first; used = b.used + 1; frozen = b.frozen; settled = b.settled };
        rows = book_with t b.used (record { receipt = b.first + b.used; number = n; kind = kind; amount = amount; date = date; state = state_number Asked; authcode = 0 });
        receipt = b.first + b.used;
      }
  unfolding accept accept_fault may_accept has_place is_frozen next_receipt made_entry
  accept-gives good six number kinds amounts written x day unfrozen room few receipt =
      let l = lent-facts _ _ _ _ (good-lent b t good) in
      let e : Entry = record { receipt = b.first + b.used; number = n; kind = kind; amount = amount; date = date; state = state_number Asked; authcode = 0 } in
      let m : book_from t (entries_of t b.used ++ (e ∷ [])) ≡ book_with t b.used e =
      book-more t b.used (good-whole b t good six) e room (omega (arith, room, l.second)) (omega (arith, room, l.third)) in
      rw (good, number, kinds, amounts, written, day, unfrozen, lt-ltb _ _ room, lt-ltb _ _ few, receipt, m) refl

-- ---- freezing
-- the day after the frozen one, once that has its report, is frozen and waits for its own
pub freeze-gives : (b : Book) (t : BookRows) (day : Day) → book_good b t ≡ true → is_day day ≡ true → on_day day (next_day b.frozen) ≡ true → b.settled ≡ true
    → freeze b t day ≡ record { code = 0; book = record { first = b.first; used = b.used; frozen = day; settled = false } }
unfolding freeze freeze_on
freeze-gives b t day good date next settled = rw (good, date, next, settled) refl
