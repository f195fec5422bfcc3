-- What a report does to the book, and what it may not.
use Prim.Native.Nat.{ℕ, zero, suc, ◌+◌, ◌-◌, ◌<◌, ◌≤◌}
use native.Mathlib.Omega.{arith}
use mathlib.Core.Path.{◌≡◌, refl, sym, ap, subst, subst⁻¹, ◌∙◌}
use mathlib.Core.Logic.{◌⊎◌, inl, inr}
use mathlib.Core.Bool.{Bool, true, false, cond, not, ◌&&◌}
use mathlib.Core.List.{List, [], ◌∷◌, ◌++◌, map}
use lib.Dec.{eqb, ltb}
use lib.ListN.{length, get_or, drop, length-map}
use lib.Seq.{drop_at, get_or-drop}
use borrow.Author.Tests.{eqb-true, ltb-true, ltb-false, not-true}
use Rattle.days.specs.declared.calendar.Day.{Day}
use Rattle.days.specs.Calendar.{is_day, day_before, same_day, on_day}
use Rattle.dates.specs.Date.{date_day}
use Rattle.texts.specs.Lists.{every}
use Rattle.texts.proofs.Tests.{and_left, and_right, cond-elim, by-test, no-claim}
use Rattle.lists.specs.Lent.{Lent}
use Rattle.lists.proofs.ColumnLaws.{column-size, column-at}
use Rattle.lists.proofs.LentLaws.{lent-facts, facts-lent}
use Rattle.registry.specs.Report.{is_mark, is_report}
use Rattle.book.specs.declared.Book.{Book}
use Rattle.book.specs.declared.Entry.{Entry}
use Rattle.book.specs.declared.State.{State}
use Rattle.book.specs.declared.State.TheVariants.{Credited, Cancelled, Unposted}
use Rattle.book.specs.Entries.{BookRows, state_of, state_number, is_cancelled, no_entry, entry_at, entry_nums, entries_of, book_from}
use Rattle.book_validity.specs.BookValid.{entry_fields, day_count, book_lent, book_good, ReadyBook}
use Rattle.book.proofs.EntryLaws.{length-entries, get_d-entries, entry-from, entries_from}
use Rattle.book_validity.proofs.BookLaws.{good_book, good-lent, book-again}
use Rattle.book.proofs.StateLaws.{state-again, state-range, waits}
use Rattle.book_validity.proofs.PaymentLaws.{SamePayment, same-payment, entry-parts, fields-kept}
use Rattle.listing.specs.Listing.{is_listed, listed, entry_line, registry_of, write_registry}
use Rattle.agent_theorems.proofs.ListedTheorems.{registry-alike, writing-same}
use Rattle.reporting.specs.Reporting.{Reporting, unreported, settled_book, awaits, report_on, take_report}
use Rattle.marking.specs.Marking.{marked_state, marked_entry, marked}
use Rattle.marking.proofs.MarkingLaws.{marked-none, marked-length, marked-skip, marked-take}

-- ---- the entry that a mark leaves
mark-same : (e : Entry) (m : ℕ) → SamePayment e (marked_entry e m)
mark-same e m = record { receipt = refl; number = refl; kind = refl; amount = refl; date = refl }

mark-fields : (e : Entry) (m : ℕ) → entry_fields e ≡ true → entry_fields (marked_entry e m) ≡ true
mark-fields e m h = let p = entry-parts e h in fields-kept e (marked_entry e m) (mark-same e m) p (state-range (marked_state m)) p.authcode

-- it is not cancelled, and waits for nothing
mark-uncancelled : (m : ℕ) → eqb (state_number (marked_state m)) (state_number Cancelled) ≡ false
unfolding marked_state state_number
mark-uncancelled m = go (eqb m 49)
  where
    go : (z : Bool) → eqb (state_number (cond z Credited Unposted)) (state_number Cancelled) ≡ false
    go true = refl
    go false = refl

mark-final : (m : ℕ) → waits (state_of (state_number (marked_state m))) ≡ false
unfolding marked_state
mark-final m = ap waits (state-again (marked_state m)) ∙ go (eqb m 49)
  where
    go : (z : Bool) → waits (cond z Credited Unposted) ≡ false
    go true = refl
    go false = refl

-- a listed entry is not cancelled; one of the day that is not listed is
listed-uncancelled : (day : Day) (e : Entry) → is_listed day e ≡ true → is_cancelled e ≡ false
unfolding is_listed
listed-uncancelled day e h = not-true (is_cancelled e) (and_right (on_day day (date_day e.date)) (not (is_cancelled e)) h)

mark-listed : (day : Day) (e : Entry) (m : ℕ) → is_listed day e ≡ true → is_listed day (marked_entry e m) ≡ true
unfolding is_listed
mark-listed day e m h = rw (and_left (on_day day (date_day e.date)) (not (is_cancelled e)) h, mark-uncancelled m) refl

unlisted-final : (day : Day) (e : Entry) → on_day day (date_day e.date) ≡ true → is_listed day e ≡ false → waits (state_of e.state) ≡ false
unfolding is_listed
unlisted-final day e on off = go (is_cancelled e) refl (ap (λ (z : Bool). z && not (is_cancelled e)) (sym on) ∙ off)
  where
    go : (z : Bool) → is_cancelled e ≡ z → not z ≡ false → waits (state_of e.state) ≡ false
    go true q n = rw (eqb-true e.state (state_number Cancelled) q) (ap waits (state-again Cancelled))
    go false q n = no-claim (sym n)

-- ---- the marks, place by place: an entry stays, or is listed and gets a mark
marked-at : (day : Day) (P : Entry → Entry → Type 0) → ((e : Entry) → P e e) → ((e : Entry) (m : ℕ) → is_listed day e ≡ true → P e (marked_entry e m))
    → (es : List Entry) (ms : List ℕ) (i : ℕ) → P (get_or es i no_entry) (get_or (marked day es ms) i no_entry)
unfolding marked
marked-at day P p q [] ms i = p no_entry
marked-at day P p q (e ∷ es) [] i = p (get_or (e ∷ es) i no_entry)
marked-at day P p q (e ∷ es) (m ∷ ms) zero =
    cond-elim (λ (l : List Entry). P e (get_or l 0 no_entry)) (is_listed day e) _ _ (λ h. q e m h) (λ h. p e)
marked-at day P p q (e ∷ es) (m ∷ ms) (suc i) =
    cond-elim (λ (l : List Entry). P (get_or es i no_entry) (get_or l (suc i) no_entry)) (is_listed day e) _ _
    (λ h. marked-at day P p q es ms i) (λ h. marked-at day P p q es (m ∷ ms) i)

marked-count : (d day : Day) (es : List Entry) (ms : List ℕ) → day_count d (marked day es ms) ≡ day_count d es
unfolding marked day_count
marked-count d day [] ms = refl
marked-count d day (e ∷ es) [] = refl
marked-count d day (e ∷ es) (m ∷ ms) =
    cond-elim (λ (l : List Entry). day_count d l ≡ cond (on_day d (date_day e.date)) (suc (day_count d es)) (day_count d es)) (is_listed day e) _ _
    (λ h. ap (λ (n : ℕ). cond (on_day d (date_day e.date)) (suc n) n) (marked-count d day es ms))
    (λ h. ap (λ (n : ℕ). cond (on_day d (date_day e.date)) (suc n) n) (marked-count d day es (m ∷ ms)))

module _ (day : Day) (e : Entry) (es : List Entry) where
  listed-on : is_listed day e ≡ true → listed day (e ∷ es) ≡ e ∷ listed day es
  unfolding listed
  listed-on h = rw h refl

  listed-off : is_listed day e ≡ false → listed day (e ∷ es) ≡ listed day es
  unfolding listed
  listed-off h = rw h refl

-- as many are listed as were
listed-count : (day : Day) (es : List Entry) (ms : List ℕ) → length (listed day (marked day es ms)) ≡ length (listed day es)
listed-count day [] ms = ap (λ (l : List Entry). length (listed day l)) (unfold marked in refl)
listed-count day (e ∷ es) [] = ap (λ (l : List Entry). length (listed day l)) (marked-none day (e ∷ es))
listed-count day (e ∷ es) (m ∷ ms) =
    by-test (is_listed day e)
    (λ on.
    ap (λ (l : List Entry). length (listed day l)) (marked-take day e es m ms on)
    ∙ ap length (listed-on day (marked_entry e m) (marked day es ms) (mark-listed day e m on))
    ∙ ap suc (listed-count day es ms) ∙ sym (ap length (listed-on day e es on)))
    (λ off.
    ap (λ (l : List Entry). length (listed day l)) (marked-skip day e es (m ∷ ms) off)
    ∙ ap length (listed-off day e (marked day es (m ∷ ms)) off)
    ∙ listed-count day es (m ∷ ms) ∙ sym (ap length (listed-off day e es off)))

-- a mark for each that is listed: the kth has the kth
marked-kth : (day : Day) (es : List Entry) (ms : List ℕ) → length (listed day es) ≡ length ms → (k : ℕ) → k < length ms
    → get_or (listed day (marked day es ms)) k no_entry ≡ marked_entry (get_or (listed day es) k no_entry) (get_or ms k 0)
marked-kth day es [] n k l = absurd (omega arith)
marked-kth day [] (m ∷ ms) n k l = let z : 0 ≡ suc (length ms) = unfold listed in n in absurd (omega arith)
marked-kth day (e ∷ es) (m ∷ ms) n k l =
    by-test (is_listed day e)
    (λ on.
    ap (λ (x : List Entry). get_or x k no_entry)
    (ap (listed day) (marked-take day e es m ms on) ∙ listed-on day (marked_entry e m) (marked day es ms) (mark-listed day e m on))
    ∙ kth k l (λ j h. marked-kth day es ms (omega (arith, n, ap length (listed-on day e es on))) j h)
    ∙ ap (λ (x : List Entry). marked_entry (get_or x k no_entry) (get_or (m ∷ ms) k 0)) (sym (listed-on day e es on)))
    (λ off.
    ap (λ (x : List Entry). get_or x k no_entry) (ap (listed day) (marked-skip day e es (m ∷ ms) off) ∙ listed-off day e (marked day es (m ∷ ms)) off)
    ∙ marked-kth day es (m ∷ ms) (sym (ap length (listed-off day e es off)) ∙ n) k l
    ∙ ap (λ (x : List Entry). marked_entry (get_or x k no_entry) (get_or (m ∷ ms) k 0)) (sym (listed-off day e es off)))
  where
    kth : (j : ℕ) → j < suc (length ms) → ((i : ℕ) → i < length ms → get_or (listed day (marked day es ms)) i no_entry ≡ marked_entry (get_or (listed day es) i no_entry) (get_or ms i 0))
        → get_or (marked_entry e m ∷ listed day (marked day es ms)) j no_entry ≡ marked_entry (get_or (e ∷ listed day es) j no_entry) (get_or (m ∷ ms) j 0)
    kth zero h q = refl
    kth (suc j) h q = q j (omega arith)

-- and every entry of the day is final
abbrev state_in : List Entry → ℕ → State
state_in es i = state_of (get_or es i no_entry).state

none-listed : (day : Day) (e : Entry) (es : List Entry) → length (listed day (e ∷ es)) ≡ 0 → is_listed day e ≡ false
none-listed day e es n = by-test (is_listed day e) (λ on. absurd (omega (arith, n, ap length (listed-on day e es on)))) (λ off. off)

marked-final : (day : Day) (es : List Entry) (ms : List ℕ) → length (listed day es) ≡ length ms → (i : ℕ) → i < length es
    → on_day day (date_day (get_or es i no_entry).date) ≡ true → waits (state_in (marked day es ms) i) ≡ false
marked-final day [] ms n i l on = absurd (omega arith)
marked-final day (e ∷ es) [] n zero l on =
    ap (λ (x : List Entry). waits (state_in x 0)) (marked-none day (e ∷ es)) ∙ unlisted-final day e on (none-listed day e es n)
marked-final day (e ∷ es) [] n (suc i) l on =
    let off : is_listed day e ≡ false = none-listed day e es n in
    ap (λ (x : List Entry). waits (state_in x (suc i))) (marked-skip day e es [] off)
    ∙ marked-final day es [] (sym (ap length (listed-off day e es off)) ∙ n) i (omega arith) on
marked-final day (e ∷ es) (m ∷ ms) n zero l on =
    by-test (is_listed day e)
    (λ yes. ap (λ (x : List Entry). waits (state_in x 0)) (marked-take day e es m ms yes) ∙ mark-final m)
    (λ off. ap (λ (x : List Entry). waits (state_in x 0)) (marked-skip day e es (m ∷ ms) off) ∙ unlisted-final day e on off)
marked-final day (e ∷ es) (m ∷ ms) n (suc i) l on =
    by-test (is_listed day e)
    (λ yes.
    ap (λ (x : List Entry). waits (state_in x (suc i))) (marked-take day e es m ms yes)
    ∙ marked-final day es ms (omega (arith, n, ap length (listed-on day e es yes))) i (omega arith) on)
    (λ off.
    ap (λ (x : List Entry). waits (state_in x (suc i))) (marked-skip day e es (m ∷ ms) off)
    ∙ marked-final day es (m ∷ ms) (sym (ap length (listed-off day e es off)) ∙ n) i (omega arith) on)

-- ---- the rows that hold the marked entries
module _ (b : Book) (t : BookRows) (day : Day) (report : List ℕ) where
  abbrev entries : List Entry
  entries = entries_of t b.used

  abbrev now : List Entry
  now = marked day entries report

  abbrev rows : BookRows
  rows = book_from t now

  now-size : length now ≡ b.used
  now-size = marked-length day entries report ∙ length-entries t b.used

  entries-now : entries_of rows b.used ≡ now
  entries-now = ap (entries_of rows) (sym now-size) ∙ entries_from t now no_entry

  -- past the entries in use they are as they were
  past-column : {A : Type 0} (f : Entry → A) (l : List A) → drop b.used (map f now ++ drop (length now) l) ≡ drop b.used l
  past-column f l = drop_at (map f now) (drop (length now) l) b.used (length-map now f ∙ now-size) ∙ ap (λ (n : ℕ). drop n l) now-size

  past-nums : drop b.used rows.nums ≡ drop b.used t.nums
  unfolding book_from
  past-nums = past-column entry_nums t.nums

  past-numbers : drop b.used rows.numbers ≡ drop b.used t.numbers
  unfolding book_from
  past-numbers = past-column (λ (e : Entry). e.number.bytes) t.numbers

  past-dates : drop b.used rows.dates ≡ drop b.used t.dates
  unfolding book_from
  past-dates = past-column (λ (e : Entry). e.date) t.dates

  past-at : (l m : List (List ℕ)) → drop b.used l ≡ drop b.used m → (j : ℕ) → b.used ≤ j → get_or l j [] ≡ get_or m j []
  past-at l m q j h =
      let k : b.used + (j - b.used) ≡ j = omega arith in
      ap (λ (i : ℕ). get_or l i []) (sym k) ∙ sym (get_or-drop b.used l (j - b.used) [])
      ∙ ap (λ (x : List (List ℕ)). get_or x (j - b.used) []) q
      ∙ get_or-drop b.used m (j - b.used) [] ∙ ap (λ (i : ℕ). get_or m i []) k

  past-entry : (j : ℕ) → b.used ≤ j → entry_at rows j ≡ entry_at t j
  past-entry j h =
      rw (
        past-at rows.nums t.nums past-nums j h,
        past-at rows.numbers t.numbers past-numbers j h,
        past-at rows.dates t.dates past-dates j h,
      ) refl

  -- a property of what was at a place and what is there now
  each-marked : (P : Entry → Entry → Type 0) → ((e : Entry) → P e e) → ((e : Entry) (m : ℕ) → is_listed day e ≡ true → P e (marked_entry e m))
      → (j : ℕ) → P (entry_at t j) (entry_at rows j)
  each-marked P p q j = by-test (ltb j b.used) (λ h. inside (ltb-true j b.used h)) (λ h. subst⁻¹ (P (entry_at t j)) (past-entry j (ltb-false j b.used h)) (p (entry_at t j)))
    where
      inside : j < b.used → P (entry_at t j) (entry_at rows j)
      inside l =
          subst (λ (x : Entry). P x (entry_at rows j)) (get_d-entries t b.used j no_entry l)
          (subst⁻¹ (P (get_or entries j no_entry)) (entry-from t now j no_entry (omega (arith, now-size))) (marked-at day P p q entries report j))

  rows_same : (j : ℕ) → SamePayment (entry_at t j) (entry_at rows j)
  rows_same = each-marked SamePayment same-payment (λ e m h. mark-same e m)

  registry-now : (d : Day) → registry_of d (entries_of rows b.used) ≡ registry_of d entries
  registry-now d =
      ap (registry_of d) entries-now
      ∙ sym (registry-alike d no_entry entries now (sym (marked-length day entries report))
      (λ i l. marked-at day (λ (x y : Entry). entry_line x ≡ entry_line y) (λ e. refl) (λ e m h. refl) entries report i)
      (λ i l on.
      marked-at day (λ (x y : Entry). is_cancelled x ≡ is_cancelled y) (λ e. refl)
      (λ e m h. listed-uncancelled day e h ∙ sym (mark-uncancelled m)) entries report i))

  lines_now : length (listed day (entries_of rows b.used)) ≡ length (listed day entries)
  lines_now = ap (λ (x : List Entry). length (listed day x)) entries-now ∙ listed-count day entries report

  module _ (good : book_good b t ≡ true) where
    lent : Lent b.used (length t.nums) (length t.numbers) (length t.dates)
    lent = lent-facts _ _ _ _ (good-lent b t good)

    nums-size : length rows.nums ≡ length t.nums
    unfolding book_from
    nums-size = omega (arith, column-size entry_nums t.nums now, now-size, lent.room)

    numbers-size : length rows.numbers ≡ length t.nums
    unfolding book_from
    numbers-size = omega (arith, column-size (λ (x : Entry). x.number.bytes) t.numbers now, now-size, lent.room, lent.second)

    dates-size : length rows.dates ≡ length t.nums
    unfolding book_from
    dates-size = omega (arith, column-size (λ (x : Entry). x.date) t.dates now, now-size, lent.room, lent.third)

    rows-lent : book_lent (settled_book b) rows ≡ true
    rows-lent =
        let l = lent in
        facts-lent _ _ _ _
        (record {
          some = omega (arith, nums-size, l.some);
          most = omega (arith, nums-size, l.most);
          second = numbers-size ∙ sym nums-size;
          third = dates-size ∙ sym nums-size;
          room = omega (arith, nums-size, l.room);
        })

    rows-good : book_good (settled_book b) rows ≡ true
    rows-good =
        let f = good_book b t good in
        book-again (settled_book b) rows rows-lent
        (record {
          first = f.first;
          frozen = f.frozen;
          entry =
              λ i l.
              each-marked (λ (x y : Entry). entry_fields x ≡ true → entry_fields y ≡ true) (λ e h. h) (λ e m on h. mark-fields e m h) i (f.entry i l);
          turn = λ i l. (rows_same i).receipt ∙ f.turn i l;
          days = λ d. rw (ap (day_count d) entries-now ∙ marked-count d day entries report) (f.days d);
        })

    rows-six : (i : ℕ) → i < b.used → length (get_or rows.nums i []) ≡ 6
    unfolding book_from
    rows-six i l = ap length (column-at entry_nums t.nums now i [] no_entry (omega (arith, now-size)))

    rows-ready : ReadyBook (settled_book b) rows
    rows-ready =
        let l = lent in
        record {
          whole =
              record {
                nums = omega (arith, nums-size, l.room);
                numbers = omega (arith, numbers-size, l.room);
                dates = omega (arith, dates-size, l.room);
                six = rows-six;
              };
          same = record { numbers = numbers-size ∙ sym nums-size; dates = dates-size ∙ sym nums-size };
          size = omega (arith, nums-size, l.most);
        }

-- ---- what the codes and the tests say
fault-code : (code : ℕ) → (code ≡ 55) ⊎ ((code ≡ 65) ⊎ (code ≡ 68)) → code ≡ 0 → ⊥
fault-code code (inl h) z = omega arith
fault-code code (inr (inl h)) z = omega arith
fault-code code (inr (inr h)) z = omega arith

settled-awaits : (b : Book) (day : Day) → b.settled ≡ true → awaits b day ≡ false
unfolding awaits
settled-awaits b day h = rw h (go (same_day day b.frozen))
  where
    go : (z : Bool) → z && false ≡ false
    go true = refl
    go false = refl

-- a report of n lines has a byte for each
lines_of : (n : ℕ) (s : List ℕ) → is_report n s ≡ true → n ≡ length s
unfolding is_report
lines_of n s h = sym (eqb-true (length s) n (and_left (eqb (length s) n) (every is_mark s) h))

-- a settled book takes a report that fits and stays
settled-takes : (b : Book) (t : BookRows) (day : Day) (report : List ℕ) → b.settled ≡ true → book_good b t ≡ true → is_day day && not (day_before b.frozen day) ≡ true
    → is_report (length (listed day (entries_of t b.used))) report ≡ true → take_report b t day report ≡ unreported 0 b t
unfolding take_report report_on
settled-takes b t day report settled good past fits = rw (good, past, fits, settled-awaits b day settled) refl

-- ---- the call: book and rows stay, or the day's entries are marked and the day is settled
module _ (b : Book) (t : BookRows) (day : Day) (report : List ℕ) where
  abbrev before : List Entry
  before = entries_of t b.used

  abbrev after : Reporting
  after = take_report b t day report

  abbrev settles : Reporting
  settles = record { code = 0; book = settled_book b; rows = rows b t day report }

  module _ (P : Reporting → Type 0)
      (faults : (code : ℕ) → (code ≡ 55) ⊎ ((code ≡ 65) ⊎ (code ≡ 68)) → P (unreported code b t))
      (heard : awaits b day ≡ false → P (unreported 0 b t))
      (taken : book_good b t ≡ true → is_day day && not (day_before b.frozen day) ≡ true → is_report (length (listed day before)) report ≡ true → awaits b day ≡ true → P settles) where
    on-cases : book_good b t ≡ true → is_day day && not (day_before b.frozen day) ≡ true → P (report_on b t day report)
    unfolding report_on
    on-cases good past =
        cond-elim P (is_report (length (listed day before)) report) _ _
        (λ fits. cond-elim P (awaits b day) _ _ (λ waiting. taken good past fits waiting) heard)
        (λ _. faults 65 (inr (inl refl)))

    pub report-cases : P (take_report b t day report)
    unfolding take_report
    report-cases =
        cond-elim P (book_good b t) _ _
        (λ good. cond-elim P (is_day day && not (day_before b.frozen day)) _ _ (on-cases good) (λ _. faults 55 (inl refl)))
        (λ _. faults 68 (inr (inr refl)))

  -- ---- the codes, and what a fault leaves
  pub report-codes : (after.code ≡ 0) ⊎ ((after.code ≡ 55) ⊎ ((after.code ≡ 65) ⊎ (after.code ≡ 68)))
  report-codes =
      report-cases (λ (r : Reporting). (r.code ≡ 0) ⊎ ((r.code ≡ 55) ⊎ ((r.code ≡ 65) ⊎ (r.code ≡ 68))))
      (λ code h. inr h) (λ heard. inl refl) (λ good past fits waiting. inl refl)

  pub report-fault : (after.code ≡ 0 → ⊥) → after ≡ unreported after.code b t
  report-fault =
      report-cases (λ (r : Reporting). (r.code ≡ 0 → ⊥) → r ≡ unreported r.code b t)
      (λ code h n. refl) (λ heard n. refl) (λ good past fits waiting n. absurd (n refl))

  -- ---- row 68 is kept
  pub report-good : book_good b t ≡ true → book_good after.book after.rows ≡ true
  report-good good =
      report-cases (λ (r : Reporting). book_good r.book r.rows ≡ true)
      (λ code h. good) (λ heard. good) (λ good past fits waiting. rows-good b t day report good)

  pub report-ready : ReadyBook b t → ReadyBook after.book after.rows
  report-ready ready =
      report-cases (λ (r : Reporting). ReadyBook r.book r.rows)
      (λ code h. ready) (λ heard. ready) (λ good past fits waiting. rows-ready b t day report good)

  -- ---- what stays: of the book all but whether its day is settled
  pub report-head : after.book ≡ record { first = b.first; used = b.used; frozen = b.frozen; settled = after.book.settled }
  report-head =
      report-cases (λ (r : Reporting). r.book ≡ record { first = b.first; used = b.used; frozen = b.frozen; settled = r.book.settled })
      (λ code h. refl) (λ heard. refl) (λ good past fits waiting. refl)

  report-used : after.book.used ≡ b.used
  report-used = ap (λ (x : Book). x.used) report-head

  -- of an entry, at every place, all but its state
  each-kept : (P : Entry → Entry → Type 0) → ((e : Entry) → P e e) → ((e : Entry) (m : ℕ) → is_listed day e ≡ true → P e (marked_entry e m))
      → (j : ℕ) → P (entry_at t j) (entry_at after.rows j)
  each-kept P p q j =
      report-cases (λ (r : Reporting). P (entry_at t j) (entry_at r.rows j))
      (λ code h. p (entry_at t j)) (λ heard. p (entry_at t j)) (λ good past fits waiting. each-marked b t day report P p q j)

  pub report-payments : (j : ℕ) → SamePayment (entry_at t j) (entry_at after.rows j)
  report-payments = each-kept SamePayment same-payment (λ e m h. mark-same e m)

  pub report-authcodes : (j : ℕ) → (entry_at after.rows j).authcode ≡ (entry_at t j).authcode
  report-authcodes = each-kept (λ (x y : Entry). y.authcode ≡ x.authcode) (λ e. refl) (λ e m h. refl)

  -- of an entry that the day's registry does not list, its state too
  pub report-others : (j : ℕ) → is_listed day (entry_at t j) ≡ false → entry_at after.rows j ≡ entry_at t j
  report-others = each-kept (λ (x y : Entry). is_listed day x ≡ false → y ≡ x) (λ e h. refl) (λ e m h n. no-claim (sym n ∙ h))

  -- of the rows, what is past the entries in use
  pub report-past : (drop b.used after.rows.nums ≡ drop b.used t.nums)
      × (drop b.used after.rows.numbers ≡ drop b.used t.numbers)
      × (drop b.used after.rows.dates ≡ drop b.used t.dates)
  report-past =
      report-cases
      (λ (r : Reporting).
      (drop b.used r.rows.nums ≡ drop b.used t.nums)
      × (drop b.used r.rows.numbers ≡ drop b.used t.numbers)
      × (drop b.used r.rows.dates ≡ drop b.used t.dates))
      (λ code h. (refl, refl, refl)) (λ heard. (refl, refl, refl))
      (λ good past fits waiting. (past-nums b t day report, past-numbers b t day report, past-dates b t day report))

  -- ---- every registry is the same bytes
  pub report-registry : (d : Day) → registry_of d (entries_of after.rows after.book.used) ≡ registry_of d (entries_of t b.used)
  report-registry d =
      report-cases (λ (r : Reporting). registry_of d (entries_of r.rows r.book.used) ≡ registry_of d (entries_of t b.used))
      (λ code h. refl) (λ heard. refl) (λ good past fits waiting. registry-now b t day report d)

  -- and is written alike
  pub report-writes-alike : book_good b t ≡ true → (d : Day) → day_before b.frozen d ≡ false → (out : List ℕ)
      → write_registry after.book after.rows d out ≡ write_registry b t d out
  report-writes-alike good d f out =
      writing-same after.book b after.rows t d out (report-good good) good
      (ap (λ (x : Book). day_before x.frozen d) report-head ∙ f) f (report-registry d)

  -- ---- a report of a day that does not wait for one changes nothing, whatever its bytes
  pub report-again : awaits b day ≡ false → after ≡ unreported after.code b t
  report-again none =
      report-cases (λ (r : Reporting). r ≡ unreported r.code b t)
      (λ code h. refl) (λ heard. refl) (λ good past fits waiting. no-claim (sym none ∙ waiting))

  -- only the last frozen day waits
  pub report-earlier : same_day day b.frozen ≡ false → after ≡ unreported after.code b t
  unfolding awaits
  report-earlier other = report-again (rw other refl)

  -- the day that has its report waits no more
  pub report-heard : after.code ≡ 0 → awaits after.book day ≡ false
  report-heard =
      report-cases (λ (r : Reporting). r.code ≡ 0 → awaits r.book day ≡ false)
      (λ code h z. absurd (fault-code code h z)) (λ none z. none) (λ good past fits waiting z. settled-awaits (settled_book b) day refl)

  -- twice the same report: what once leaves
  pub report-twice : take_report after.book after.rows day report ≡ after
  report-twice =
      report-cases (λ (r : Reporting). after ≡ r → take_report r.book r.rows day report ≡ r)
      (λ code h is. is) (λ none is. is) (λ good past fits waiting is. second good past fits) refl
    where
      second : book_good b t ≡ true → is_day day && not (day_before b.frozen day) ≡ true → is_report (length (listed day before)) report ≡ true
          → take_report (settled_book b) (rows b t day report) day report ≡ settles
      second good past fits =
          settled-takes (settled_book b) (rows b t day report) day report refl (rows-good b t day report good) past
          (ap (λ (n : ℕ). is_report n report) (lines_now b t day report) ∙ fits)

  -- ---- the report that the day waits for
  module _ (waiting : awaits b day ≡ true) (zero : after.code ≡ 0) where
    -- what is known of it, and what it leaves
    taken-cases : (P : Reporting → Type 0) → (length (listed day before) ≡ length report → P settles) → P after
    taken-cases P taken =
        report-cases (λ (r : Reporting). r.code ≡ 0 → P r)
        (λ code h z. absurd (fault-code code h z)) (λ none z. no-claim (sym none ∙ waiting))
        (λ good past fits _ z. taken (lines_of (length (listed day before)) report fits)) zero

    -- the day is settled
    pub report-settles : after.book ≡ settled_book b
    report-settles = taken-cases (λ (r : Reporting). r.book ≡ settled_book b) (λ n. refl)

    -- the report has a byte for each entry that the day's registry lists
    pub report-lines : length (listed day (entries_of t b.used)) ≡ length report
    report-lines = taken-cases (λ _. length (listed day before) ≡ length report) (λ n. n)

    -- in its order: the kth entry has the state of the kth byte, and else is as it was
    pub report-marks : (k : ℕ) → k < length report
        → get_or (listed day (entries_of after.rows b.used)) k no_entry ≡ marked_entry (get_or (listed day (entries_of t b.used)) k no_entry) (get_or report k 0)
    report-marks k l =
        taken-cases (λ (r : Reporting). get_or (listed day (entries_of r.rows b.used)) k no_entry ≡ marked_entry (get_or (listed day before) k no_entry) (get_or report k 0))
        (λ n. ap (λ (x : List Entry). get_or (listed day x) k no_entry) (entries-now b t day report) ∙ marked-kth day before report n k l)

    -- no entry of the day waits any longer: it is credited, cancelled or unposted
    pub report-final : (j : ℕ) → j < b.used → on_day day (date_day (entry_at t j).date) ≡ true → waits (state_of (entry_at after.rows j).state) ≡ false
    report-final j l on =
        taken-cases (λ (r : Reporting). waits (state_of (entry_at r.rows j).state) ≡ false)
        (λ n.
        ap (λ (x : Entry). waits (state_of x.state)) (entry-from t (now b t day report) j no_entry (omega (arith, now-size b t day report)))
        ∙ marked-final day before report n j (omega (arith, length-entries t b.used))
        (ap (λ (x : Entry). on_day day (date_day x.date)) (get_d-entries t b.used j no_entry l) ∙ on))
