-- The registry of a frozen day: it reads back as the day's entries that are not cancelled, and is the same bytes at each writing.
use Rattle.std.specs.Prelude.{Option, Some, None}
use Prim.Native.Nat.{ℕ, zero, suc, ◌+◌, ◌<◌, ◌≤◌}
use native.Mathlib.Omega.{arith}
use mathlib.Core.Path.{◌≡◌, refl, sym, ap, ◌∙◌}
use mathlib.Core.Bool.{Bool, true, false, cond, not, ◌&&◌}
use mathlib.Core.List.{List, [], ◌∷◌, ◌++◌, map}
use lib.Dec.{eqb, leb}
use lib.ListN.{length, get_or, set}
use borrow.Author.Tests.{lt-ltb, eqb-true, leb-true, not-true}
use Rattle.days.specs.declared.calendar.Day.{Day}
use Rattle.texts.specs.Lists.{written, cursor_after}
use Rattle.days.specs.Calendar.{is_day, day_before, same_day, on_day, up_to}
use Rattle.dates.specs.Date.{date_day}
use Rattle.texts.proofs.Tests.{both, and_left, and_right, cond-elim, no-claim}
use Rattle.days.proofs.DayLaws.{same-day}
use Rattle.texts.proofs.DigitLaws.{within_low}
use Rattle.lists.specs.Lists.{all_from}
use Rattle.lines.specs.declared.line.Line.{Line}
use Rattle.lines.specs.Line.{is_line, line_again}
use Rattle.registry.specs.Registry.{registry_fault, registry_lines, registry_bytes, rising}
use Rattle.registry.specs.Registry.{every_line}
use Rattle.registry.proofs.TextAgain.{on_line, lines-again, registry-again}
use Rattle.book.specs.declared.Book.{Book}
use Rattle.book.specs.declared.Entry.{Entry}
use Rattle.book.specs.Entries.{BookRows, is_cancelled, entries_of}
use Rattle.book_validity.specs.BookValid.{entry_fields, in_turn, entry_good, day_count, book_good}
use Rattle.book_validity.proofs.BookLaws.{good_book}
use Rattle.daybook.specs.Freezing.{is_frozen}
use Rattle.listing.specs.Listing.{is_listed, listed, entry_line, registry_of, Listing, unlisted, list_on, write_registry}
use Rattle.listing.proofs.RegistryLaws.{entry-line, entries-all}

-- ---- it reads back
module _ (b : Book) (day : Day) where
  lines-listed : (k : ℕ) (es : List Entry) → all_from (entry_good b) k es ≡ true → every_line day (map entry_line (listed day es)) ≡ true
  unfolding all_from listed is_listed every_line entry_good
  lines-listed k [] h = refl
  lines-listed k (e ∷ es) h =
      let p = both (in_turn b k e && entry_fields e) (all_from (entry_good b) (k + 1) es) h in
      go (on_day day (date_day e.date)) refl (not (is_cancelled e))
      (entry-line e (and_right (in_turn b k e) (entry_fields e) p.0))
      (lines-listed (k + 1) es p.1)
    where
      go : (o : Bool) → on_day day (date_day e.date) ≡ o → (u : Bool) → is_line (entry_line e) ≡ true → every_line day (map entry_line (listed day es)) ≡ true
          → every_line day (map entry_line (cond (o && u) (e ∷ listed day es) (listed day es))) ≡ true
      go true on true l m = rw (on_line day (entry_line e) (record { good = l; on = on }), m)
      go true on false l m = m
      go false on u l m = m

  lines-rise : (n k : ℕ) (es : List Entry) → all_from (entry_good b) k es ≡ true → n < b.first + k → rising n (map entry_line (listed day es)) ≡ true
  unfolding all_from listed rising entry_good in_turn
  lines-rise n k [] h l = refl
  lines-rise n k (e ∷ es) h l =
      let p = both (eqb e.receipt (b.first + k) && entry_fields e) (all_from (entry_good b) (k + 1) es) h in
      let r : e.receipt ≡ b.first + k = eqb-true _ _ (and_left (eqb e.receipt (b.first + k)) (entry_fields e) p.0) in
      go (is_listed day e) r (lines-rise e.receipt (k + 1) es p.1 (omega arith)) (lines-rise n (k + 1) es p.1 (omega arith))
    where
      go : (o : Bool) → e.receipt ≡ b.first + k → rising e.receipt (map entry_line (listed day es)) ≡ true → rising n (map entry_line (listed day es)) ≡ true
          → rising n (map entry_line (cond o (e ∷ listed day es) (listed day es))) ≡ true
      go true r m w = let y : n < e.receipt = omega arith in rw (lt-ltb n e.receipt y, m)
      go false r m w = w

lines-count : (day : Day) (es : List Entry) → length (map entry_line (listed day es)) ≤ day_count day es
unfolding listed is_listed day_count
lines-count day [] = omega arith
lines-count day (e ∷ es) = go (on_day day (date_day e.date)) (not (is_cancelled e)) (lines-count day es)
  where
    go : (o u : Bool) → length (map entry_line (listed day es)) ≤ day_count day es
        → length (map entry_line (cond (o && u) (e ∷ listed day es) (listed day es))) ≤ cond o (suc (day_count day es)) (day_count day es)
    go true true m = omega arith
    go true false m = omega arith
    go false u m = m

-- for a good book
module _ (b : Book) (t : BookRows) (day : Day) (good : book_good b t ≡ true) where
  abbrev entries : List Entry
  entries = entries_of t b.used

  all_lines : every_line day (map entry_line (listed day entries)) ≡ true
  all_lines = lines-listed b day 0 entries (entries-all b t good)

  -- the registry of a day has no fault
  pub registry-reads : registry_fault day (registry_of day entries) ≡ 0
  unfolding registry_of
  registry-reads =
      let first : 1 ≤ b.first = within_low 1 999999999999999 b.first (good_book b t good).first in
      registry-again day (map entry_line (listed day entries)) all_lines
      (lines-rise b day 0 0 entries (entries-all b t good) (omega arith))
      (omega (arith, lines-count day entries, (good_book b t good).days day))

  -- and holds its entries that are not cancelled, in their order
  pub registry-holds : registry_lines (registry_of day entries) ≡ map line_again (map entry_line (listed day entries))
  unfolding registry_of
  registry-holds = lines-again day (map entry_line (listed day entries)) all_lines

-- ---- the call
module _ (b : Book) (t : BookRows) (day : Day) (out : List ℕ) where
  -- what a writing that gives 0 leaves
  abbrev pub wrote : Listing
  wrote = record { code = 0; out = written out 0 (registry_of day (entries_of t b.used)); size = cursor_after out 0 (registry_of day (entries_of t b.used)) }

  -- a property of what a writing gives, which a fault has and a success has
  pub list-elim : (P : Listing → Type 0) → ((c : ℕ) → 0 < c → P (unlisted c out))
      → (65536 ≤ length out → is_day day ≡ true → day_before b.frozen day ≡ false → P wrote) → P (write_registry b t day out)
  unfolding write_registry list_on
  list-elim P f s =
      cond-elim P (book_good b t) _ _
      (λ g. cond-elim P (leb 65536 (length out)) _ _
      (λ r. cond-elim P (is_day day && not (day_before b.frozen day)) _ _
      (λ d. s (leb-true _ _ r) (and_left (is_day day) _ d) (not-true _ (and_right (is_day day) _ d))) (λ _. f 55 (omega arith)))
      (λ _. f 50 (omega arith)))
      (λ _. f 68 (omega arith))

-- ---- it is alike at each writing
-- a registry depends on the entries that it lists alone
pub registry-same : (day : Day) (es xs : List Entry) → listed day es ≡ listed day xs → registry_of day es ≡ registry_of day xs
unfolding registry_of
registry-same day es xs h = ap (λ (l : List Entry). registry_bytes (map entry_line l)) h

-- two good books that list the same entries of a day up to both frozen days are written alike
pub writing-same : (b c : Book) (t u : BookRows) (day : Day) (out : List ℕ) → book_good b t ≡ true → book_good c u ≡ true
    → day_before b.frozen day ≡ false → day_before c.frozen day ≡ false
    → registry_of day (entries_of t b.used) ≡ registry_of day (entries_of u c.used)
    → write_registry b t day out ≡ write_registry c u day out
unfolding write_registry list_on
writing-same b c t u day out g h f k r = rw (g, h, f, k, r)

-- entry by entry: the same lines, and on the day the same ones cancelled
module _ (day : Day) (z : Entry) where
  pub registry-alike : (es xs : List Entry) → length es ≡ length xs
      → ((i : ℕ) → i < length es → entry_line (get_or es i z) ≡ entry_line (get_or xs i z))
      → ((i : ℕ) → i < length es → on_day day (date_day (get_or es i z).date) ≡ true → is_cancelled (get_or es i z) ≡ is_cancelled (get_or xs i z))
      → registry_of day es ≡ registry_of day xs
  unfolding registry_of listed is_listed registry_bytes
  registry-alike [] [] n lines states = refl
  registry-alike [] (x ∷ xs) n lines states = absurd (omega arith)
  registry-alike (e ∷ es) [] n lines states = absurd (omega arith)
  registry-alike (e ∷ es) (x ∷ xs) n lines states =
      ap (λ (u : Bool). registry_bytes (map entry_line (cond u (e ∷ listed day es) (listed day es)))) (test (on_day day (date_day e.date)) refl)
      ∙ pick (on_day day (date_day x.date) && not (is_cancelled x))
      (registry-alike es xs (omega arith) (λ i l. lines (suc i) (omega arith)) (λ i l. states (suc i) (omega arith)))
    where
      line : entry_line e ≡ entry_line x
      line = lines 0 (omega arith)

      dates : e.date ≡ x.date
      dates = ap (λ (y : Line). y.date) line

      pick : (u : Bool) → registry_bytes (map entry_line (listed day es)) ≡ registry_bytes (map entry_line (listed day xs))
          → registry_bytes (map entry_line (cond u (e ∷ listed day es) (listed day es))) ≡ registry_bytes (map entry_line (cond u (x ∷ listed day xs) (listed day xs)))
      pick true m = rw (line, m)
      pick false m = m

      test : (o : Bool) → on_day day (date_day e.date) ≡ o
          → on_day day (date_day e.date) && not (is_cancelled e) ≡ on_day day (date_day x.date) && not (is_cancelled x)
      test true on = rw (← dates, on, states 0 (omega arith) on)
      test false on = rw (← dates, on)

-- ---- an entry of a day that is not frozen is in no registry of a day that is
pub unfrozen-off : (b : Book) (day : Day) (e : Entry) → day_before b.frozen day ≡ false → is_frozen b e.date ≡ false → is_listed day e ≡ false
unfolding is_frozen is_listed
unfrozen-off b day e h f = go (date_day e.date) f
  where
    pick : (x : Day) (u : Bool) → same_day x day ≡ u → not (day_before b.frozen x) ≡ false → u && not (is_cancelled e) ≡ false
    pick x true q g = no-claim (sym g ∙ ap not (ap (day_before b.frozen) (same-day x day q) ∙ h))
    pick x false q g = refl

    go : (r : Option Day) → up_to b.frozen r ≡ false → on_day day r && not (is_cancelled e) ≡ false
    go None g = refl
    go (Some x) g = pick x (same_day x day) refl g

-- so it may be added, and replaced by another such, and the registry stays
module _ (day : Day) where
  pub listed_more : (es : List Entry) (e : Entry) → is_listed day e ≡ false → listed day (es ++ (e ∷ [])) ≡ listed day es
  unfolding listed
  listed_more [] e h = rw h
  listed_more (x ∷ es) e h = ap (λ (l : List Entry). cond (is_listed day x) (x ∷ l) l) (listed_more es e h)

  pub listed-set : (es : List Entry) (i : ℕ) (e z : Entry) → is_listed day e ≡ false → is_listed day (get_or es i z) ≡ false → listed day (set es i e) ≡ listed day es
  unfolding listed
  listed-set [] i e z h k = refl
  listed-set (x ∷ es) zero e z h k = rw (h, k)
  listed-set (x ∷ es) (suc i) e z h k = ap (λ (l : List Entry). cond (is_listed day x) (x ∷ l) l) (listed-set es i e z h k)
