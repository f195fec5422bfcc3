-- What a book that is good gives its callers, and what makes a book good again.
use Rattle.std.specs.Prelude.{Option, Some, None}
use mathlib.Core.Path.{◌≡◌, refl, sym, ap, subst⁻¹, ◌∙◌}
use mathlib.Core.Logic.{◌≢◌}
use mathlib.Core.Bool.{Bool, true, ◌&&◌}
use mathlib.Core.List.{List}
use Prim.Native.Nat.{ℕ, ◌+◌, ◌-◌, ◌<◌, ◌≤◌}
use native.Mathlib.Decide.{ℕ_discrete}
use native.Mathlib.Omega.{arith}
use lib.ListN.{length, get_or, length-set}
use borrow.Author.Tests.{eq-eqb, eqb-true}
use Rattle.days.specs.declared.calendar.Day.{Day}
use Rattle.days.specs.Calendar.{is_day}
use Rattle.fields.specs.Amount.{is_amount}
use Rattle.fields.specs.Codes.{is_receipt, is_kind}
use Rattle.fields.specs.Number.{is_number}
use Rattle.dates.specs.Date.{date_day, is_written}
use Rattle.texts.proofs.Tests.{and_left, and_right, no-claim}
use Rattle.lists.specs.Lists.{all_from}
use Rattle.lists.specs.Lent.{Lent}
use Rattle.lists.proofs.LentLaws.{lent-facts, facts-lent}
use Rattle.lists.proofs.ListLaws.{all-at, all_of, search-within, found-fits, found_none}
use Rattle.book.specs.declared.Book.{Book}
use Rattle.book.specs.declared.Entry.{Entry}
use Rattle.book.specs.Entries.{BookRows, entry_at, entries_of, entry_nums, book_with, is_entry, find_entry}
use Rattle.book_validity.specs.BookValid.{entry_fields, in_turn, entry_good, day_count, days_good, book_lent, book_head, book_good, Dated}
use Rattle.book.proofs.EntryLaws.{EntryRoom, entry_other, entry-same, entries-set, entries-more, length-entries, get_d-entries}
use Rattle.book_validity.proofs.CountLaws.{count_set, days-few, days-kept, days-more}

-- ---- a good book, as facts
pub record GoodBook (b : Book) (t : BookRows) : Type 0 where
  pub first : is_receipt b.first ≡ true
  pub frozen : is_day b.frozen ≡ true
  pub entry : (i : ℕ) → i < b.used → entry_fields (entry_at t i) ≡ true
  pub turn : (i : ℕ) → i < b.used → (entry_at t i).receipt ≡ b.first + i
  pub days : (d : Day) → day_count d (entries_of t b.used) ≤ 512

pub fields-dated : (e : Entry) → entry_fields e ≡ true → is_written e.date ≡ true
unfolding entry_fields
fields-dated e h =
    let number = and_right (is_receipt e.receipt) _ h in
    let kind = and_right (is_number e.number) _ number in
    let amount = and_right (is_kind e.kind) _ kind in
    and_left (is_written e.date) _ (and_right (is_amount e.amount) _ amount)

module _ (b : Book) (t : BookRows) where
  abbrev entries : List Entry
  entries = entries_of t b.used

  abbrev all_good : Bool
  all_good = all_from (entry_good b) 0 entries

  pub good-lent : book_good b t ≡ true → book_lent b t ≡ true
  unfolding book_good
  good-lent h = and_left (book_lent b t) (book_head b && (all_good && days_good entries)) h

  good-rest : book_good b t ≡ true → book_head b && (all_good && days_good entries) ≡ true
  unfolding book_good
  good-rest h = and_right (book_lent b t) (book_head b && (all_good && days_good entries)) h

  -- each entry in use
  each-good : all_good ≡ true → (i : ℕ) → i < b.used → in_turn b i (entry_at t i) && entry_fields (entry_at t i) ≡ true
  each-good h i l =
      ap (λ (e : Entry). in_turn b i e && entry_fields e) (sym (get_d-entries t b.used i (entry_at t i) l))
      ∙ (unfold entry_good in all-at (entry_good b) entries (entry_at t i) i h (omega (arith, length-entries t b.used)))

  pub entries-dated : all_good ≡ true → Dated t b.used
  entries-dated good i l =
      fields-dated (entry_at t i) (and_right (in_turn b i (entry_at t i)) (entry_fields (entry_at t i)) (each-good good i l))

  pub good_book : book_good b t ≡ true → GoodBook b t
  good_book h =
      record {
        first = and_left (is_receipt b.first) (is_day b.frozen) head;
        frozen = and_right (is_receipt b.first) (is_day b.frozen) head;
        entry = λ i l. and_right (in_turn b i (entry_at t i)) (entry_fields (entry_at t i)) (one i l);
        turn = λ i l. in-turn i (and_left (in_turn b i (entry_at t i)) (entry_fields (entry_at t i)) (one i l));
        days = days-few entries (and_right all_good (days_good entries) rest);
      }
    where
      head : is_receipt b.first && is_day b.frozen ≡ true
      head = unfold book_head in and_left (book_head b) (all_good && days_good entries) (good-rest h)

      rest : all_good && days_good entries ≡ true
      rest = and_right (book_head b) (all_good && days_good entries) (good-rest h)

      one : (i : ℕ) → i < b.used → in_turn b i (entry_at t i) && entry_fields (entry_at t i) ≡ true
      one = each-good (and_left all_good (days_good entries) rest)

      in-turn : (i : ℕ) → in_turn b i (entry_at t i) ≡ true → (entry_at t i).receipt ≡ b.first + i
      in-turn i q = eqb-true _ _ (unfold in_turn in q)

  pub good-dated : book_good b t ≡ true → Dated t b.used
  good-dated h i l = fields-dated (entry_at t i) ((good_book h).entry i l)

  -- and back
  pub book-again : book_lent b t ≡ true → GoodBook b t → book_good b t ≡ true
  unfolding book_good book_head
  book-again lent g = rw (lent, g.first, g.frozen, all, days-kept entries g.days)
    where
      one : (i : ℕ) → i < b.used → entry_good b i (entry_at t i) ≡ true
      one i l = unfold entry_good in_turn in rw (eq-eqb _ _ (g.turn i l), g.entry i l)

      all : all_good ≡ true
      all =
          all_of (entry_good b) entries (entry_at t 0)
          (λ i l. ap (entry_good b i) (get_d-entries t b.used i (entry_at t 0) (below i l)) ∙ one i (below i l))
        where
          below : (i : ℕ) → i < length entries → i < b.used
          below i l = omega (arith, l, length-entries t b.used)

-- ---- what keeps a book good
module _ (b : Book) (t : BookRows) (good : book_good b t ≡ true) where
  facts : GoodBook b t
  facts = good_book b t good

  lent : Lent b.used (length t.nums) (length t.numbers) (length t.dates)
  lent = lent-facts _ _ _ _ (good-lent b t good)

  pub good-room : (i : ℕ) → i < length t.nums → EntryRoom t i
  good-room i l = record { nums = l; numbers = omega (arith, lent.second); dates = omega (arith, lent.third) }

  -- another frozen day
  pub frozen-good : (d : Day) (s : Bool) → is_day d ≡ true → book_good (record { first = b.first; used = b.used; frozen = d; settled = s }) t ≡ true
  frozen-good d s h =
      let n : Book = record { first = b.first; used = b.used; frozen = d; settled = s } in
      book-again n t (facts-lent _ _ _ _ lent)
      (record { first = facts.first; frozen = h; entry = facts.entry; turn = facts.turn; days = facts.days })

  module _ (i : ℕ) (e : Entry) where
    -- the rows with e at i are as long
    put-lent : (n : Book) → n.used ≤ length t.nums → book_lent n (book_with t i e) ≡ true
    put-lent n u =
        let a : length (book_with t i e).nums ≡ length t.nums = length-set t.nums i (entry_nums e) in
        let v : length (book_with t i e).numbers ≡ length t.numbers = length-set t.numbers i e.number.bytes in
        let w : length (book_with t i e).dates ≡ length t.dates = length-set t.dates i e.date in
        let x = lent in
        facts-lent _ _ _ _ (record { some = omega arith; most = omega arith; second = v ∙ x.second ∙ sym a; third = w ∙ x.third ∙ sym a; room = omega arith })

    -- a property of each entry, where e has it
    put-each : (P : ℕ → Entry → Type 0) (n : ℕ) → i < length t.nums → P i e → ((j : ℕ) → j < n → j ≢ i → P j (entry_at t j))
        → (j : ℕ) → j < n → P j (entry_at (book_with t i e) j)
    put-each P n l p others j k = go (ℕ_discrete j i)
      where
        go : Dec (j ≡ i) → P j (entry_at (book_with t i e) j)
        go (yes q) = subst⁻¹ (λ (m : ℕ). P m (entry_at (book_with t i e) m)) q (subst⁻¹ (P i) (entry-same t i e (good-room i l)) p)
        go (no d) = subst⁻¹ (P j) (entry_other t i e j d) (others j k d)

    -- an entry in use that keeps its receipt and its date
    pub put-good : i < b.used → entry_fields e ≡ true → e.receipt ≡ (entry_at t i).receipt → e.date ≡ (entry_at t i).date → book_good b (book_with t i e) ≡ true
    put-good l fields r d =
        book-again b (book_with t i e) (put-lent b lent.room)
        (record {
          first = facts.first;
          frozen = facts.frozen;
          entry = put-each (λ j v. entry_fields v ≡ true) b.used room fields (λ j k n. facts.entry j k);
          turn = put-each (λ j v. v.receipt ≡ b.first + j) b.used room (r ∙ facts.turn i l) (λ j k n. facts.turn j k);
          days = days;
        })
      where
        room : i < length t.nums
        room = omega (arith, lent.room)

        days : (x : Day) → day_count x (entries_of (book_with t i e) b.used) ≤ 512
        days x =
            rw (entries-set t i e b.used (good-room i room) l)
            (rw (count_set x (entries_of t b.used) i e e (d ∙ ap (λ (v : Entry). v.date) (sym (get_d-entries t b.used i e l))) (omega (arith, length-entries t b.used)))
            (facts.days x))

  -- one entry more, in turn and on a day that has room
  pub added-good : (e : Entry) (x : Day) → b.used < length t.nums → entry_fields e ≡ true → e.receipt ≡ b.first + b.used
      → date_day e.date ≡ Some x → day_count x (entries_of t b.used) < 512
      → book_good (record { first = b.first; used = b.used + 1; frozen = b.frozen; settled = b.settled }) (book_with t b.used e) ≡ true
  added-good e x room fields r q l =
      book-again next (book_with t b.used e) (put-lent b.used e next (omega arith))
      (record {
        first = facts.first;
        frozen = facts.frozen;
        entry = put-each b.used e (λ j v. entry_fields v ≡ true) (b.used + 1) room fields (λ j k n. facts.entry j (before j k n));
        turn = put-each b.used e (λ j v. v.receipt ≡ b.first + j) (b.used + 1) room r (λ j k n. facts.turn j (before j k n));
        days = λ d. rw (entries-more t b.used e (good-room b.used room)) (days-more (entries_of t b.used) e x q l facts.days d);
      })
    where
      next : Book
      next = record { first = b.first; used = b.used + 1; frozen = b.frozen; settled = b.settled }

      before : (j : ℕ) → j < b.used + 1 → j ≢ b.used → j < b.used
      before j k n = omega arith

-- ---- the entry of a receipt
pub entry-within : (t : BookRows) (n x i : ℕ) → find_entry x (entries_of t n) ≡ Some i → i < n
unfolding find_entry
entry-within t n x i e = omega (arith, search-within (is_entry x) 0 (entries_of t n) i e, length-entries t n)

pub entry_found : (t : BookRows) (n x i : ℕ) → find_entry x (entries_of t n) ≡ Some i → (entry_at t i).receipt ≡ x
entry_found t n x i e =
    eqb-true (entry_at t i).receipt x
    (ap (is_entry x) (sym (get_d-entries t n i (entry_at t i) (entry-within t n x i e))) ∙ found-fits (is_entry x) (entries_of t n) (entry_at t i) (unfold find_entry in e))

module _ (b : Book) (t : BookRows) (x : ℕ) (g : GoodBook b t) where
  -- a receipt before the first, at a place in use, and past the last
  outside : ((i : ℕ) → i < b.used → b.first + i ≡ x → ⊥) → None ≡ find_entry x (entries_of t b.used)
  outside n = go (find_entry x (entries_of t b.used)) refl
    where
      go : (f : Option ℕ) → find_entry x (entries_of t b.used) ≡ f → None ≡ f
      go None e = refl
      go (Some i) e =
          let l : i < b.used = entry-within t b.used x i e in
          absurd (n i l (sym (g.turn i l) ∙ entry_found t b.used x i e))

  inside : (i : ℕ) → i < b.used → b.first + i ≡ x → Some i ≡ find_entry x (entries_of t b.used)
  inside i l q = go (find_entry x (entries_of t b.used)) refl
    where
      here : is_entry x (get_or (entries_of t b.used) i (entry_at t i)) ≡ true
      here = ap (is_entry x) (get_d-entries t b.used i (entry_at t i) l) ∙ eq-eqb _ _ (g.turn i l ∙ q)

      go : (f : Option ℕ) → find_entry x (entries_of t b.used) ≡ f → Some i ≡ f
      go None e =
          no-claim (sym (found_none (is_entry x) (entries_of t b.used) (entry_at t i) (unfold find_entry in e) i (omega (arith, l, length-entries t b.used))) ∙ here)
      go (Some k) e =
          let m : k < b.used = entry-within t b.used x k e in
          let w : (entry_at t k).receipt ≡ x = entry_found t b.used x k e in
          let v : (entry_at t k).receipt ≡ b.first + k = g.turn k m in
          let s : i ≡ k = omega arith in
          ap Some s

module _ (b : Book) (t : BookRows) (good : book_good b t ≡ true) (x : ℕ) where
  pub entry-before : x < b.first → None ≡ find_entry x (entries_of t b.used)
  entry-before h = outside b t x (good_book b t good) (λ i l q. omega arith)

  pub entry_here : b.first ≤ x → x - b.first < b.used → Some (x - b.first) ≡ find_entry x (entries_of t b.used)
  entry_here h l = inside b t x (good_book b t good) (x - b.first) l (omega arith)

  pub entry_past : b.first ≤ x → b.used ≤ x - b.first → None ≡ find_entry x (entries_of t b.used)
  entry_past h k = outside b t x (good_book b t good) (λ i l q. omega arith)

pub ruleset find_laws = (entry-before, entry_here, entry_past)
