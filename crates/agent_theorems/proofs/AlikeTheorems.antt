-- The registry of a frozen day is the same bytes at each writing, whatever answers and requests come between.
use Rattle.std.specs.Prelude.{Option}
use Prim.Native.Nat.{ℕ}
use mathlib.Core.Path.{◌≡◌, sym, ap, ◌∙◌}
use mathlib.Core.Bool.{true, false}
use mathlib.Core.List.{List}
use lib.ListN.{set, get_or}
use Rattle.days.specs.declared.calendar.Day.{Day}
use Rattle.days.specs.Calendar.{day_before}
use Rattle.payments.specs.declared.Action.{Action}
use Rattle.book.specs.declared.Book.{Book}
use Rattle.book.specs.declared.Entry.{Entry}
use Rattle.book.specs.Entries.{BookRows, no_entry, entry_at, entries_of}
use Rattle.book_validity.specs.BookValid.{book_good, ReadyBook}
use Rattle.book.proofs.EntryLaws.{EntryRoom, entries-set, get_d-entries}
use Rattle.daybook.specs.Freezing.{is_frozen}
use Rattle.listing.specs.Listing.{is_listed, registry_of, write_registry}
use Rattle.agent_theorems.proofs.ListedTheorems.{registry-same, writing-same, unfrozen-off, listed-set}
use Rattle.answering.specs.Answering.{take_answer}
use Rattle.writing.specs.Writing.{write_request}
use Rattle.book_validity.proofs.PassedLaws.{room_at}
use Rattle.agent_theorems.proofs.MovedLaws.{place_of, Left, kept, moved, good-kept}
use Rattle.agent_theorems.proofs.AnswerTheorems.{answer-left}
use Rattle.agent_theorems.proofs.WritingTheorems.{write-left}

module _ (b : Book) (t : BookRows) (ready : ReadyBook b t) (day : Day) (past : day_before b.frozen day ≡ false) where
  -- an entry of an unfrozen day is in no registry of a frozen one, before and after it is moved
  listed_kept : (p : Option ℕ) (t' : BookRows) → Left b t p t' → registry_of day (entries_of t b.used) ≡ registry_of day (entries_of t' b.used)
  listed_kept p t' (kept e) = ap (λ (r : BookRows). registry_of day (entries_of r b.used)) (sym e)
  listed_kept p t' (moved i e' found l good free same fields e) =
      let r = room_at b t i ready l in
      let room : EntryRoom t i = record { nums = r.0; numbers = r.1; dates = r.2 } in
      let entries : List Entry = entries_of t b.used in
      let there : get_or entries i no_entry ≡ entry_at t i = get_d-entries t b.used i no_entry l in
      let now : is_listed day e' ≡ false = unfrozen-off b day e' past (ap (is_frozen b) same.date ∙ free) in
      let then : is_listed day (get_or entries i no_entry) ≡ false = ap (is_listed day) there ∙ unfrozen-off b day (entry_at t i) past free in
      registry-same day entries (set entries i e') (sym (listed-set day entries i e' no_entry now then))
      ∙ ap (registry_of day) (sym (entries-set t i e' b.used room l))
      ∙ ap (λ (q : BookRows). registry_of day (entries_of q b.used)) (sym e)

  alike : (p : Option ℕ) (t' : BookRows) → Left b t p t' → book_good b t ≡ true → (out : List ℕ) → write_registry b t' day out ≡ write_registry b t day out
  alike p t' left good out =
      sym (writing-same b b t t' day out good (good-kept b t p t' left good) past past (listed_kept p t' left))

  pub answer-writes-alike : book_good b t ≡ true → (a : Action) (receipt : ℕ) (text out : List ℕ)
      → write_registry b (take_answer b t a receipt text).rows day out ≡ write_registry b t day out
  answer-writes-alike good a receipt text out =
      alike (place_of b t receipt) (take_answer b t a receipt text).rows (answer-left b t a receipt text ready) good out

  pub request-writes-alike : book_good b t ≡ true → (a : Action) (receipt reason : ℕ) (buffer out : List ℕ)
      → write_registry b (write_request b t a receipt reason buffer).rows day out ≡ write_registry b t day out
  request-writes-alike good a receipt reason buffer out =
      alike (place_of b t receipt) (write_request b t a receipt reason buffer).rows (write-left b t a receipt reason buffer ready) good out
