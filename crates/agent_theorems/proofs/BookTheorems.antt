-- What acceptance and freezing keep: a good book stays good with its receipts consecutive, its entries stay, and a fault changes nothing.
use Rattle.std.specs.Prelude.{Option, Some, None}
use Prim.Native.Nat.{ℕ, ◌+◌, ◌<◌}
use native.Mathlib.Omega.{arith}
use mathlib.Core.Path.{◌≡◌, refl, sym, ap, ◌∙◌}
use mathlib.Core.Bool.{Bool, true, false, cond, not, ◌&&◌}
use mathlib.Core.List.{List, [], ◌∷◌, ◌++◌}
use lib.Dec.{eqb, ltb}
use lib.ListN.{length, get_or, length-append, get_or-append}
use lib.Seq.{get_or_at}
use borrow.Author.Tests.{ltb-true, not-true}
use Rattle.days.specs.declared.calendar.Day.{Day}
use Rattle.fields.specs.declared.number.Number.{Number}
use Rattle.fields.specs.Amount.{is_amount}
use Rattle.days.specs.Calendar.{is_day, day_before, next_day, on_day}
use Rattle.fields.specs.Codes.{is_receipt, is_kind}
use Rattle.dates.specs.Date.{date_day, is_written}
use Rattle.fields.specs.Number.{is_number}
use Rattle.texts.proofs.Tests.{and_left, and_right, cond-elim, no-claim}
use Rattle.days.proofs.DayLaws.{same-day, before-trans, next-after}
use Rattle.dates.proofs.DateLaws.{date-day}
use Rattle.lists.proofs.ColumnLaws.{column-at, column-size}
use Rattle.book.specs.declared.Book.{Book}
use Rattle.book.specs.declared.Entry.{Entry}
use Rattle.book.specs.Entries.{BookRows, state_number, entry_at, entries_of, entry_nums, book_with, book_from}
use Rattle.book_validity.specs.BookValid.{entry_fields, day_count, book_lent, book_good, ReadyBook}
use Rattle.book.proofs.EntryLaws.{length-entries, get_d-entries, entries-more, entry-from, entries_from}
use Rattle.lists.specs.Lent.{Lent}
use Rattle.lists.proofs.LentLaws.{lent-facts, facts-lent}
use Rattle.book_validity.proofs.BookLaws.{good-lent, good_book, good-room, added-good, frozen-good}
use Rattle.daybook.specs.declared.freezing.Freezing.{Freezing}
use Rattle.acceptance.specs.Acceptance.{Acceptance, next_receipt, made_entry, may_accept, day_open, has_place, with_entry, accept_fault, accept}
use Rattle.daybook.specs.Freezing.{is_frozen}
use Rattle.daybook.specs.Freezing.{froze, frozen_on, freeze_on, freeze}
use Rattle.listing.specs.Listing.{registry_of, write_registry}
use Rattle.agent_theorems.proofs.ListedTheorems.{registry-same, writing-same, unfrozen-off, listed_more}

-- ---- one entry more
module _ (b : Book) (t : BookRows) (e : Entry) where
  abbrev more : List Entry
  more = entries_of t b.used ++ (e ∷ [])

  more-length : length more ≡ b.used + 1
  more-length = length-append (entries_of t b.used) (e ∷ []) ∙ ap (λ (k : ℕ). k + 1) (length-entries t b.used)

  entry_new : entry_at (book_from t more) b.used ≡ e
  entry_new =
      entry-from t more b.used e (omega (arith, more-length))
      ∙ get_or_at (entries_of t b.used) e [] e b.used (length-entries t b.used)

  entry_old : (i : ℕ) → i < b.used → entry_at (book_from t more) i ≡ entry_at t i
  entry_old i h =
      entry-from t more i e (omega (arith, more-length))
      ∙ get_or-append (entries_of t b.used) (e ∷ []) e i (omega (arith, length-entries t b.used))
      ∙ get_d-entries t b.used i e h

  entries-now : entries_of (book_from t more) (b.used + 1) ≡ more
  entries-now = ap (entries_of (book_from t more)) (sym more-length) ∙ entries_from t more e

  module _ (good : book_good b t ≡ true) (room : b.used < length t.nums) where
    lent : Lent b.used (length t.nums) (length t.numbers) (length t.dates)
    lent = lent-facts _ _ _ _ (good-lent b t good)

    nums-size : length (book_from t more).nums ≡ length t.nums
    unfolding book_from
    nums-size = omega (arith, column-size entry_nums t.nums more, more-length)

    numbers-size : length (book_from t more).numbers ≡ length t.nums
    unfolding book_from
    numbers-size = omega (arith, column-size (λ (x : Entry). x.number.bytes) t.numbers more, more-length, lent.second)

    dates-size : length (book_from t more).dates ≡ length t.nums
    unfolding book_from
    dates-size = omega (arith, column-size (λ (x : Entry). x.date) t.dates more, more-length, lent.third)

    more-lent : book_lent (with_entry b) (book_from t more) ≡ true
    more-lent =
        let l = lent in
        facts-lent _ _ _ _
        (record {
          some = omega (arith, nums-size);
          most = omega (arith, nums-size, l.most);
          second = numbers-size ∙ sym nums-size;
          third = dates-size ∙ sym nums-size;
          room = omega (arith, nums-size);
        })

    more-good : entry_fields e ≡ true → e.receipt ≡ b.first + b.used → (x : Day) → date_day e.date ≡ Some x → day_count x (entries_of t b.used) < 512
        → book_good (with_entry b) (book_from t more) ≡ true
    unfolding book_good
    more-good f r x q l =
        let w = added-good b t good e x room f r q l in
        let s : entries_of (book_from t more) (b.used + 1) ≡ entries_of (book_with t b.used e) (b.used + 1)
        = entries-now ∙ sym (entries-more t b.used e (good-room b t good b.used room)) in
        rw (more-lent, s) (and_right (book_lent (with_entry b) (book_with t b.used e)) _ w)

    six : (i : ℕ) → i < b.used + 1 → length (get_or (book_from t more).nums i []) ≡ 6
    unfolding book_from
    six i h = ap length (column-at entry_nums t.nums more i [] e (omega (arith, more-length)))

    more-ready : ReadyBook (with_entry b) (book_from t more)
    more-ready =
        let l = lent in
        record {
          whole =
              record {
                nums = omega (arith, nums-size);
                numbers = omega (arith, numbers-size);
                dates = omega (arith, dates-size);
                six = six;
              };
          same = record { numbers = numbers-size ∙ sym nums-size; dates = dates-size ∙ sym nums-size };
          size = omega (arith, nums-size, l.most);
        }

-- ---- acceptance
module _ (b : Book) (t : BookRows) (n : Number) (kind amount : ℕ) (date : List ℕ) where
  abbrev made : Entry
  made = made_entry b n kind amount date

  abbrev after : Acceptance
  after = accept b t n kind amount date

  abbrev success : Acceptance
  success = record { code = 0; book = with_entry b; rows = book_from t (more b t made); receipt = next_receipt b }

  abbrev fault : ℕ → Acceptance
  fault c = record { code = c; book = b; rows = t; receipt = 0 }

  -- a property of what is answered and left, which a fault has and a success has
  pub accept-elim : (P : Acceptance → Type 0) → ((c : ℕ) → 0 < c → P (fault c))
      → (book_good b t ≡ true → may_accept b n kind amount date ≡ true → has_place b t date ≡ true → P success) → P after
  unfolding accept accept_fault
  accept-elim P f s = go (book_good b t) (may_accept b n kind amount date) (has_place b t date) s
    where
      given : ℕ → Acceptance
      given c = cond (eqb c 0) success (fault c)

      go : (g m h : Bool) → (g ≡ true → m ≡ true → h ≡ true → P success) → P (given (cond g (cond m (cond h 0 61) 60) 68))
      go true true true q = q refl refl refl
      go true true false q = f 61 (omega arith)
      go true false h q = f 60 (omega arith)
      go false m h q = f 68 (omega arith)

  -- a fault keeps the book and its rows, and gives no receipt
  pub accept-fault : (after.code ≡ 0 → ⊥) → after ≡ record { code = after.code; book = b; rows = t; receipt = 0 }
  accept-fault =
      accept-elim (λ (r : Acceptance). (r.code ≡ 0 → ⊥) → r ≡ record { code = r.code; book = b; rows = t; receipt = 0 })
      (λ c h k. refl)
      (λ g m h k. absurd (k refl))

  -- every entry that was there stays as it was
  pub accept-keeps : (i : ℕ) → i < b.used → entry_at after.rows i ≡ entry_at t i
  accept-keeps i l =
      accept-elim (λ (r : Acceptance). entry_at r.rows i ≡ entry_at t i)
      (λ c h. refl)
      (λ g m h. entry_old b t made i l)

  -- the new one stands behind them, asked and without an authorization, with the next receipt
  pub accept-new : after.code ≡ 0 → entry_at after.rows b.used ≡ made_entry b n kind amount date
  accept-new =
      accept-elim (λ (r : Acceptance). r.code ≡ 0 → entry_at r.rows b.used ≡ made)
      (λ c h k. absurd (omega arith))
      (λ g m h k. entry_new b t made)

  pub accept-receipt : after.code ≡ 0 → after.receipt ≡ b.first + b.used
  unfolding next_receipt
  accept-receipt =
      accept-elim (λ (r : Acceptance). r.code ≡ 0 → r.receipt ≡ b.first + b.used)
      (λ c h k. absurd (omega arith))
      (λ g m h k. refl)

  pub accept-used : after.code ≡ 0 → after.book ≡ with_entry b
  accept-used =
      accept-elim (λ (r : Acceptance). r.code ≡ 0 → r.book ≡ with_entry b)
      (λ c h k. absurd (omega arith))
      (λ g m h k. refl)

  -- ---- what the two tests say
  module _ (may : may_accept b n kind amount date ≡ true) where
    abbrev tail₃ : Bool
    tail₃ = is_written date && not (is_frozen b date)

    abbrev tail₂ : Bool
    tail₂ = is_amount amount && tail₃

    abbrev tail₁ : Bool
    tail₁ = is_kind kind && tail₂

    may-tail : tail₁ ≡ true
    unfolding may_accept
    may-tail = and_right (is_number n) tail₁ may

    may-number : is_number n ≡ true
    unfolding may_accept
    may-number = and_left (is_number n) tail₁ may

    pub may-amount : is_amount amount ≡ true
    may-amount = and_left (is_amount amount) tail₃ (and_right (is_kind kind) tail₂ may-tail)

    pub may-written : is_written date ≡ true
    may-written = and_left (is_written date) (not (is_frozen b date)) (and_right (is_amount amount) tail₃ (and_right (is_kind kind) tail₂ may-tail))

    pub may-unfrozen : not (is_frozen b date) ≡ true
    may-unfrozen = and_right (is_written date) (not (is_frozen b date)) (and_right (is_amount amount) tail₃ (and_right (is_kind kind) tail₂ may-tail))

    module _ (place : has_place b t date ≡ true) where
      abbrev places : Bool
      places = day_open (entries_of t b.used) (date_day date) && is_receipt (next_receipt b)

      pub place-room : b.used < length t.nums
      unfolding has_place
      place-room = ltb-true _ _ (and_left (ltb b.used (length t.nums)) places place)

      place_rest : places ≡ true
      unfolding has_place
      place_rest = and_right (ltb b.used (length t.nums)) places place

      pub place-day : (x : Day) → date_day date ≡ Some x → day_count x (entries_of t b.used) < 512
      place-day x q =
          ltb-true _ _ (ap (day_open (entries_of t b.used)) (sym q) ∙ and_left (day_open (entries_of t b.used) (date_day date)) (is_receipt (next_receipt b)) place_rest)

      made-fields : entry_fields made ≡ true
      unfolding entry_fields made_entry state_number
      made-fields =
          rw (
            and_right (day_open (entries_of t b.used) (date_day date)) (is_receipt (next_receipt b)) place_rest,
            may-number,
            and_left (is_kind kind) tail₂ may-tail,
            may-amount,
            may-written,
          )

      made-good : book_good b t ≡ true → book_good (with_entry b) (book_from t (more b t made)) ≡ true
      unfolding made_entry next_receipt
      made-good g =
          let d = date-day date may-written in
          more-good b t made g place-room made-fields refl d.day d.is (place-day d.day d.is)

  -- row 68 holds of the book that is left
  pub accept-stays-good : book_good b t ≡ true → book_good after.book after.rows ≡ true
  accept-stays-good good =
      accept-elim (λ (r : Acceptance). book_good r.book r.rows ≡ true)
      (λ c h. good)
      (λ g m h. made-good m h g)

  pub accept-stays-ready : ReadyBook b t → ReadyBook after.book after.rows
  accept-stays-ready y =
      accept-elim (λ (r : Acceptance). ReadyBook r.book r.rows)
      (λ c h. y)
      (λ g m h. more-ready b t made g (place-room m h))

  -- so its receipts are consecutive from the same first one
  pub accept-receipts : book_good b t ≡ true → (i : ℕ) → i < after.book.used → (entry_at after.rows i).receipt ≡ b.first + i
  accept-receipts good i l =
      let f : after.book.first ≡ b.first = accept-elim (λ (r : Acceptance). r.book.first ≡ b.first) (λ c h. refl) (λ g m h. refl) in
      (good_book after.book after.rows (accept-stays-good good)).turn i l ∙ ap (λ (k : ℕ). k + i) f

  -- the registry of a day up to the frozen one stays
  pub accept-keeps-registry : (day : Day) → day_before b.frozen day ≡ false
      → registry_of day (entries_of after.rows after.book.used) ≡ registry_of day (entries_of t b.used)
  unfolding made_entry
  accept-keeps-registry day f =
      accept-elim (λ (r : Acceptance). registry_of day (entries_of r.rows r.book.used) ≡ registry_of day (entries_of t b.used))
      (λ c h. refl)
      (λ g m h.
      ap (registry_of day) (entries-now b t made)
      ∙ registry-same day (more b t made) (entries_of t b.used)
      (listed_more day (entries_of t b.used) made (unfrozen-off b day made f (not-true (is_frozen b date) (may-unfrozen m)))))

  -- and is written alike
  pub accept-writes-alike : book_good b t ≡ true → (day : Day) → day_before b.frozen day ≡ false → (out : List ℕ)
      → write_registry after.book after.rows day out ≡ write_registry b t day out
  accept-writes-alike good day f out =
      let k : after.book.frozen ≡ b.frozen = accept-elim (λ (r : Acceptance). r.book.frozen ≡ b.frozen) (λ c h. refl) (λ g m h. refl) in
      writing-same after.book b after.rows t day out (accept-stays-good good) good (ap (λ (x : Day). day_before x day) k ∙ f) f (accept-keeps-registry day f)

-- ---- freezing
module _ (b : Book) (t : BookRows) (day : Day) where
  pub freeze-elim : (P : Freezing → Type 0) → ((c : ℕ) → 0 < c → P (froze c b))
      → (book_good b t ≡ true → is_day day ≡ true → on_day day (next_day b.frozen) && b.settled ≡ true → P (froze 0 (frozen_on b day))) → P (freeze b t day)
  unfolding freeze freeze_on
  freeze-elim P f s =
      let next = on_day day (next_day b.frozen) && b.settled in
      cond-elim P (book_good b t) (cond (is_day day) (cond next (froze 0 (frozen_on b day)) (froze 66 b)) (froze 55 b)) (froze 68 b)
      (λ g.
      cond-elim P (is_day day) (cond next (froze 0 (frozen_on b day)) (froze 66 b)) (froze 55 b)
      (λ d. cond-elim P next (froze 0 (frozen_on b day)) (froze 66 b) (λ n. s g d n) (λ _. f 66 (omega arith)))
      (λ _. f 55 (omega arith)))
      (λ _. f 68 (omega arith))

  -- a fault keeps the book; the rows are lent to be read alone
  pub freeze-fault : ((freeze b t day).code ≡ 0 → ⊥) → freeze b t day ≡ froze (freeze b t day).code b
  freeze-fault =
      freeze-elim (λ (r : Freezing). (r.code ≡ 0 → ⊥) → r ≡ froze r.code b)
      (λ c h k. refl)
      (λ g d n k. absurd (k refl))

  -- the day after the frozen one, which had its report, is frozen and waits for its own
  pub freeze-book : (freeze b t day).code ≡ 0 → (freeze b t day).book ≡ frozen_on b day
  freeze-book =
      freeze-elim (λ (r : Freezing). r.code ≡ 0 → r.book ≡ frozen_on b day)
      (λ c h k. absurd (omega arith))
      (λ g d n k. refl)

  pub freeze-next : (freeze b t day).code ≡ 0 → on_day day (next_day b.frozen) && b.settled ≡ true
  freeze-next =
      freeze-elim (λ (r : Freezing). r.code ≡ 0 → on_day day (next_day b.frozen) && b.settled ≡ true)
      (λ c h k. absurd (omega arith))
      (λ g d n k. n)

  -- row 68 holds of the book that is left
  pub freeze-stays-good : book_good b t ≡ true → book_good (freeze b t day).book t ≡ true
  freeze-stays-good good =
      freeze-elim (λ (r : Freezing). book_good r.book t ≡ true)
      (λ c h. good)
      (λ g d n. frozen-good b t g day false d)

  -- what was frozen stays frozen
  pub freeze-stays-frozen : (d : Day) → day_before b.frozen d ≡ false → day_before (freeze b t day).book.frozen d ≡ false
  freeze-stays-frozen d f =
      freeze-elim (λ (r : Freezing). day_before r.book.frozen d ≡ false)
      (λ c h. f)
      (λ g y n. go (day_before day d) refl (next-before (next_day b.frozen) refl (and_left (on_day day (next_day b.frozen)) b.settled n)))
    where
      next-before : (r : Option Day) → next_day b.frozen ≡ r → on_day day r ≡ true → day_before b.frozen day ≡ true
      next-before None e h = no-claim h
      next-before (Some x) e h = ap (day_before b.frozen) (sym (same-day x day h)) ∙ next-after b.frozen x e

      go : (u : Bool) → day_before day d ≡ u → day_before b.frozen day ≡ true → day_before day d ≡ false
      go true e h = no-claim (sym f ∙ before-trans b.frozen day d h e)
      go false e h = e

  -- and its registry is written alike
  pub freeze-writes-alike : book_good b t ≡ true → (d : Day) → day_before b.frozen d ≡ false → (out : List ℕ)
      → write_registry (freeze b t day).book t d out ≡ write_registry b t d out
  freeze-writes-alike good d f out =
      let k : (freeze b t day).book.used ≡ b.used = freeze-elim (λ (r : Freezing). r.book.used ≡ b.used) (λ c h. refl) (λ g y n. refl) in
      writing-same (freeze b t day).book b t t d out (freeze-stays-good good) good (freeze-stays-frozen d f) f
      (ap (λ (m : ℕ). registry_of d (entries_of t m)) k)
