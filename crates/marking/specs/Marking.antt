-- Document 01, "Agent": the marks of a report, in the order of the day's registry.
use Rattle.std.specs.Prelude.{ℕ, List, [], ◌∷◌, cond, eqb}
use Rattle.days.specs.declared.calendar.Day.{Day}
use Rattle.book.specs.declared.Entry.{Entry}
use Rattle.book.specs.declared.State.{State}
use Rattle.book.specs.declared.State.TheVariants.{Credited, Unposted}
use Rattle.book.specs.Entries.{state_number}
use Rattle.listing.specs.Listing.{is_listed}

-- 1 (49) is credited, 0 (48) unposted
unfoldable pub marked_state : ℕ → State
marked_state m = cond (eqb m 49) Credited Unposted

abbrev pub marked_entry : Entry → ℕ → Entry
marked_entry e m =
    record {
      receipt = e.receipt;
      number = e.number;
      kind = e.kind;
      amount = e.amount;
      date = e.date;
      state = state_number (marked_state m);
      authcode = e.authcode;
    }

-- they go, in order, to the entries that the day's registry lists
unfoldable pub marked : Day → List Entry → List ℕ → List Entry
marked day [] marks = []
marked day (e ∷ es) [] = e ∷ es
marked day (e ∷ es) (m ∷ marks) = cond (is_listed day e) (marked_entry e m ∷ marked day es marks) (e ∷ marked day es (m ∷ marks))
