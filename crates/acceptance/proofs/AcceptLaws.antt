-- Laws of a payment that is accepted, at each way out of the call.
use Rattle.std.specs.Prelude.{Option, Some}
use Prim.Native.Nat.{ℕ, ◌+◌, ◌<◌, ◌≤◌}
use native.Mathlib.Omega.{arith}
use mathlib.Core.Path.{◌≡◌, refl, sym, ◌∙◌}
use mathlib.Core.Bool.{Bool, true, false, cond}
use mathlib.Core.List.{List}
use lib.Dec.{ltb}
use lib.ListN.{length}
use borrow.Author.Tests.{lt-ltb, ltb-true, eq-eqb, ne_eqb}
use mir.Syntax.{w64}
use mir.Val.{Fits}
use Rattle.days.specs.declared.calendar.Day.{Day}
use Rattle.fields.specs.declared.number.Number.{Number}
use Rattle.dates.specs.Date.{date_day}
use Rattle.texts.proofs.Tests.{and_left}
use Rattle.texts.proofs.DigitLaws.{within-high}
use Rattle.book.specs.declared.Book.{Book}
use Rattle.book.specs.declared.Entry.{Entry}
use Rattle.book.specs.Entries.{BookRows, entries_of, book_with}
use Rattle.book_validity.specs.BookValid.{day_count, book_good, ReadyBook}
use Rattle.book.proofs.EntryLaws.{book-more, length-entries}
use Rattle.book_validity.proofs.CountLaws.{count-length}
use Rattle.book_validity.proofs.BookLaws.{good_book}
use Rattle.book_validity.proofs.PassedLaws.{good-is, ready-is}
use Rattle.acceptance.specs.Acceptance.{Acceptance, made_entry, may_accept, day_open, has_place, with_entry, accept_fault, accept}

-- ---- a day with fewer than 512 entries
pub open-few : (t : BookRows) (used : ℕ) (s : List ℕ) (r : Option Day) → r ≡ date_day s → (x : Day) → r ≡ Some x → used < 512 → true ≡ day_open (entries_of t used) (date_day s)
open-few t used s r er x e h =
    rw (← er, e) (sym (lt-ltb (day_count x (entries_of t used)) 512 (omega (arith, count-length x (entries_of t used), length-entries t used))))

-- ---- what a good book gives to the functions behind the check
module _ (b : Book) (t : BookRows) (good : book_good b t ≡ true) where
  pub first_below : b.first < 1000000000000000
  first_below = omega (arith, within-high 1 999999999999999 b.first (good_book b t good).first)

  pub receipt-fits : ReadyBook b t → Fits w64 (b.first + b.used)
  receipt-fits y = record { fits = omega (arith, first_below, y.whole.nums, y.size) }

  pub used-most : ReadyBook b t → b.used ≤ 4096
  used-most y = omega (arith, y.whole.nums, y.size)

-- ---- a place that is there
module _ (b : Book) (t : BookRows) (date : List ℕ) (place : has_place b t date ≡ true) where
  pub place-nums : b.used < length t.nums
  unfolding has_place
  place-nums = ltb-true _ _ (and_left (ltb b.used (length t.nums)) _ place)

  pub place-numbers : ReadyBook b t → b.used < length t.numbers
  place-numbers y = omega (arith, place-nums, y.same.numbers)

  pub place-dates : ReadyBook b t → b.used < length t.dates
  place-dates y = omega (arith, place-nums, y.same.dates)

-- ---- the call; r is what is answered and left
module _ (b : Book) (t : BookRows) (n : Number) (kind amount : ℕ) (date : List ℕ) (code : ℕ) (ec : code ≡ accept_fault b t n kind amount date) where
  pub accept-refused : (r : Acceptance) → (code ≡ 0 → ⊥) → r ≡ record { code = code; book = b; rows = t; receipt = 0 } → r ≡ accept b t n kind amount date
  unfolding accept
  accept-refused r h q = q ∙ rw (← ec, ne_eqb code 0 h)

  module _ (none : code ≡ 0) where
    pub fault-good : book_good b t ≡ true
    unfolding accept_fault
    fault-good = go (book_good b t) (sym ec ∙ none)
      where
        go : (g : Bool) → ◌≡◌ {A = ℕ} (cond g (cond (may_accept b n kind amount date) (cond (has_place b t date) 0 61) 60) 68) 0 → g ≡ true
        go true e = refl
        go false e = absurd (omega (arith, e))

    pub fault-room : has_place b t date ≡ true
    unfolding accept_fault
    fault-room = go (book_good b t) (may_accept b n kind amount date) (has_place b t date) (sym ec ∙ none)
      where
        go : (g m p : Bool) → ◌≡◌ {A = ℕ} (cond g (cond m (cond p 0 61) 60) 68) 0 → p ≡ true
        go true true true e = refl
        go true true false e = absurd (omega (arith, e))
        go true false p e = absurd (omega (arith, e))
        go false m p e = absurd (omega (arith, e))

    module _ (y : code ≡ 0 → ReadyBook b t) where
      pub made-room : (b.first < 1000000000000000) × (b.used ≤ 4096)
      made-room = (first_below b t fault-good, used-most b t fault-good (y none))

      pub store-room : (b.used < length t.nums) × (b.used < length t.numbers) × (b.used < length t.dates)
      store-room = (place-nums b t date fault-room, place-numbers b t date fault-room (y none), place-dates b t date fault-room (y none))

      pub store-more : Fits w64 (b.used + 1)
      store-more = record { fits = omega (arith, place-nums b t date fault-room, (y none).size) }

      pub accept-made : (r : Acceptance) (e : Entry) → e ≡ made_entry b n kind amount date → (rows : BookRows) → rows ≡ book_with t b.used e
          → r ≡ record { code = 0; book = with_entry b; rows = rows; receipt = e.receipt } → r ≡ accept b t n kind amount date
      unfolding accept made_entry
      accept-made r e ee rows er q =
          let w = book-more t b.used (y none).whole e store-room.0 store-room.1 store-room.2 in
          q ∙ rw (← ec, eq-eqb code 0 none, er, ← w, ee)

pub ruleset day_open_laws = (open-few)

pub ruleset has_place_laws = (receipt-fits)

pub ruleset accept_fault_laws = (good-is, ready-is)

pub ruleset accept_laws = (accept-refused, accept-made, store-more)
