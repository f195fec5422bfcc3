-- Laws of the count of a day's entries, of its limit, and of the slots that the check counts in.
use Rattle.std.specs.Prelude.{Option, Some, None}
use mathlib.Core.Path.{◌≡◌, refl, sym, ap, ◌∙◌}
use mathlib.Core.Logic.{◌⊎◌, inl, inr}
use mathlib.Core.Bool.{Bool, true, false, cond}
use mathlib.Core.List.{List, [], ◌∷◌, ◌++◌}
use Prim.Native.Nat.{ℕ, zero, suc, ◌+◌, ◌-◌, ◌^◌, ◌<◌, ◌≤◌}
use native.Mathlib.Numerals.{add-one}
use native.Mathlib.Omega.{arith}
use lib.Dec.{leb}
use lib.ListN.{length, get_or, set, replicate, length-set, length-replicate, get_or-replicate}
use lib.Seq.{get_or-set_same, get_or-set_other}
use borrow.Author.Tests.{le-leb, leb-true, eq-eqb}
use mir.Syntax.{w64}
use mir.Val.{Fits}
use Rattle.days.specs.declared.calendar.Day.{Day}
use Rattle.days.specs.Calendar.{is_day, same_day, on_day}
use Rattle.dates.specs.Date.{date_day, is_written}
use Rattle.texts.proofs.Tests.{and_left, and_right, no-claim}
use Rattle.days.proofs.DayLaws.{IsDate, is-date, days-high, same-day, same-day-refl}
use Rattle.dates.proofs.DateLaws.{DayOf, date-day}
use Rattle.lists.specs.Lists.{tab, all_from}
use Rattle.lists.proofs.ListLaws.{all_of}
use Rattle.book.specs.declared.Entry.{Entry}
use Rattle.book.specs.Entries.{BookRows, entry_at, entries_of}
use Rattle.book_validity.specs.BookValid.{day_count, day_fits, days_good, Dated}
use Rattle.book_validity.specs.BookWalk.{day_slot}
use Rattle.book.proofs.EntryLaws.{length-entries}

-- ---- one entry more, one replaced
abbrev is_on : Day → Entry → Bool
is_on d e = on_day d (date_day e.date)

cond_more : (t : Bool) (a b c : ℕ) → a ≡ b + c → cond t (suc a) a ≡ cond t (suc b) b + c
cond_more true a b c h = omega arith
cond_more false a b c h = h

cond-one : (t : Bool) → cond t 1 0 ≡ 0 + cond t 1 0
cond-one true = refl
cond-one false = refl

module _ (d : Day) where
  pub count-more : (es : List Entry) (e : Entry) → day_count d (es ++ (e ∷ [])) ≡ day_count d es + cond (on_day d (date_day e.date)) 1 0
  unfolding day_count
  count-more [] e = cond-one (is_on d e)
  count-more (x ∷ es) e = cond_more (is_on d x) (day_count d (es ++ (e ∷ []))) (day_count d es) (cond (is_on d e) 1 0) (count-more es e)

  pub count-length : (es : List Entry) → day_count d es ≤ length es
  unfolding day_count
  count-length [] = omega arith
  count-length (x ∷ es) = go (is_on d x) (count-length es)
    where
      go : (t : Bool) → day_count d es ≤ length es → cond t (suc (day_count d es)) (day_count d es) ≤ suc (length es)
      go true h = omega arith
      go false h = omega arith

  -- an entry of the same date
  pub count_set : (es : List Entry) (i : ℕ) (e z : Entry) → e.date ≡ (get_or es i z).date → i < length es → day_count d (set es i e) ≡ day_count d es
  unfolding day_count
  count_set [] i e z q h = absurd (omega arith)
  count_set (x ∷ es) zero e z q h = ap (λ (s : List ℕ). cond (on_day d (date_day s)) (suc (day_count d es)) (day_count d es)) q
  count_set (x ∷ es) (suc i) e z q h =
      ap (λ (n : ℕ). cond (is_on d x) (suc n) n) (count_set es i e z q (omega arith))

pub entries_next : (t : BookRows) (i : ℕ) → entries_of t (i + 1) ≡ entries_of t i ++ (entry_at t i ∷ [])
unfolding entries_of tab
entries_next t i = ap (λ (k : ℕ). tab k (entry_at t)) (add-one i)

module _ (d : Day) (t : BookRows) where
  pub count_next : (i : ℕ) → day_count d (entries_of t (i + 1)) ≡ day_count d (entries_of t i) + cond (is_on d (entry_at t i)) 1 0
  count_next i = ap (day_count d) (entries_next t i) ∙ count-more d (entries_of t i) (entry_at t i)

  -- more entries are no fewer of the day
  count-grows : (m k : ℕ) → day_count d (entries_of t m) ≤ day_count d (entries_of t (m + k))
  count-grows m zero = let e : m + 0 ≡ m = omega arith in rw e (omega arith)
  count-grows m (suc k) =
      let e : m + suc k ≡ m + k + 1 = omega arith in
      rw e (omega (arith, count_next (m + k), count-grows m k))

  count-mono : (m n : ℕ) → m ≤ n → day_count d (entries_of t m) ≤ day_count d (entries_of t n)
  count-mono m n h = let e : m + (n - m) ≡ n = omega arith in rw (← e) (count-grows m (n - m))

  -- ---- a loop that has counted the first i entries
  module _ (i n : ℕ) (counted : n ≡ day_count d (entries_of t i)) where
    pub count_fits : (u : ℕ) → i < u → u < 2 ^ 64 → Fits w64 (n + 1)
    count_fits u h k = record { fits = omega (arith, count-length d (entries_of t i), length-entries t i) }

-- the date of an entry that was loaded
pub date-known : (t : BookRows) (n i : ℕ) (e : Entry) → Dated t n → i < n → e ≡ entry_at t i → is_written e.date ≡ true
date-known t n i e dated l is = ap (λ (v : Entry). is_written v.date) is ∙ dated i l

pub count_none : (d : Day) (t : BookRows) → 0 ≡ day_count d (entries_of t 0)
unfolding entries_of tab day_count
count_none d t = refl

-- a book of 512 entries or fewer has no day with more
few-fit : (es : List Entry) → length es ≤ 512 → (x : Option Day) → day_fits es x ≡ true
few-fit es h None = refl
few-fit es h (Some d) = le-leb (day_count d es) 512 (omega (arith, count-length d es))

pub few-days : (t : BookRows) (used : ℕ) → used ≤ 512 → true ≡ days_good (entries_of t used)
unfolding days_good
few-days t used h =
    let es = entries_of t used in
    sym (all_of (λ i e. day_fits es (date_day e.date)) es (entry_at t 0)
    (λ i l. few-fit es (omega (arith, length-entries t used)) (date_day (get_or es i (entry_at t 0)).date)))

-- ---- the limit of a day: as a test of each entry's day, and of every day
pub good-day : (s : List ℕ) (x : Day) → date_day s ≡ Some x → is_day x ≡ true
good-day s x e = let g : DayOf s = date-day s (rw e) in let q : g.day ≡ x = same g.is in ap is_day (sym q) ∙ g.good
  where
    same : {y : Day} → date_day s ≡ Some y → y ≡ x
    same h = cc

some_fits : (d : Day) (all es : List Entry) (k : ℕ) → all_from (λ i e. day_fits all (date_day e.date)) k es ≡ true → (day_count d es ≡ 0) ⊎ (day_count d all ≤ 512)
unfolding all_from day_count
some_fits d all [] k h = inl refl
some_fits d all (x ∷ es) k h =
    go (date_day x.date) (and_left (day_fits all (date_day x.date)) rest h)
    (some_fits d all es (k + 1) (and_right (day_fits all (date_day x.date)) rest h))
  where
    rest : Bool
    rest = all_from (λ i e. day_fits all (date_day e.date)) (k + 1) es

    pick : (y : Day) (t : Bool) → same_day y d ≡ t → leb (day_count y all) 512 ≡ true → (day_count d es ≡ 0) ⊎ (day_count d all ≤ 512)
        → (cond t (suc (day_count d es)) (day_count d es) ≡ 0) ⊎ (day_count d all ≤ 512)
    pick y true s f up = inr (leb-true _ _ (ap (λ (v : Day). leb (day_count v all) 512) (sym (same-day y d s)) ∙ f))
    pick y false s f up = up

    go : (r : Option Day) → day_fits all r ≡ true → (day_count d es ≡ 0) ⊎ (day_count d all ≤ 512)
        → (cond (on_day d r) (suc (day_count d es)) (day_count d es) ≡ 0) ⊎ (day_count d all ≤ 512)
    go None f up = up
    go (Some y) f up = pick y (same_day y d) refl f up

pub days-few : (es : List Entry) → days_good es ≡ true → (d : Day) → day_count d es ≤ 512
days-few es h d = go (some_fits d es es 0 (unfold days_good in h))
  where
    go : (day_count d es ≡ 0) ⊎ (day_count d es ≤ 512) → day_count d es ≤ 512
    go (inl z) = omega arith
    go (inr l) = l

all_fit : (all es : List Entry) (k : ℕ) → ((d : Day) → day_count d all ≤ 512) → all_from (λ i e. day_fits all (date_day e.date)) k es ≡ true
unfolding all_from
all_fit all [] k few = refl
all_fit all (x ∷ es) k few = rw (fit (date_day x.date)) (all_fit all es (k + 1) few)
  where
    fit : (r : Option Day) → day_fits all r ≡ true
    fit None = refl
    fit (Some y) = le-leb _ _ (few y)

pub days-kept : (es : List Entry) → ((d : Day) → day_count d es ≤ 512) → days_good es ≡ true
unfolding days_good
days-kept es few = all_fit es es 0 few

-- one entry more, on a day that has room
pub days-more : (es : List Entry) (e : Entry) (x : Day) → date_day e.date ≡ Some x → day_count x es < 512
    → ((d : Day) → day_count d es ≤ 512) → (d : Day) → day_count d (es ++ (e ∷ [])) ≤ 512
days-more es e x q l few d = go (same_day x d) refl
  where
    next : (b : Bool) → same_day x d ≡ b → day_count d (es ++ (e ∷ [])) ≡ day_count d es + cond b 1 0
    next b h = count-more d es e ∙ rw (q, h)

    go : (b : Bool) → same_day x d ≡ b → day_count d (es ++ (e ∷ [])) ≤ 512
    go true h =
        let w : day_count x es ≡ day_count d es = ap (λ (v : Day). day_count v es) (same-day x d h) in
        let k : day_count d (es ++ (e ∷ [])) ≡ day_count d es + 1 = next true h in
        omega arith
    go false h = let k : day_count d (es ++ (e ∷ [])) ≡ day_count d es + 0 = next false h in omega (arith, few d)

-- ---- slots
module _ (d : Day) (g : is_day d ≡ true) where
  parts : IsDate d.year d.month d.day
  parts = is-date d.year d.month d.day g

  pub slot-year : 2000 ≤ d.year
  slot-year = parts.year-low

  pub slot-below : (r : ℕ) → r ≡ day_slot d → r < 38432
  slot-below r e = omega (arith, parts.year-high, parts.month-high, parts.day-high, days-high d.year d.month)

  -- days of one slot are one day
  slot_same : (x : Day) → is_day x ≡ true → day_slot d ≡ day_slot x → same_day x d ≡ true
  unfolding same_day
  slot_same x h e =
      let p = is-date x.year x.month x.day h in
      let a : d.day ≤ 31 = omega (arith, parts.day-high, days-high d.year d.month) in
      let b : x.day ≤ 31 = omega (arith, p.day-high, days-high x.year x.month) in
      let q = parts in
      let y : x.year ≡ d.year = omega arith in
      let m : x.month ≡ d.month = omega arith in
      let k : x.day ≡ d.day = omega arith in
      rw (eq-eqb _ _ y, eq-eqb _ _ m, eq-eqb _ _ k)

-- the slots hold the counts of their days, and no count is past the limit
pub record DayCounts (counts : List ℕ) (es : List Entry) : Type 0 where
  pub size : length counts ≡ 38432
  pub at : (d : Day) → is_day d ≡ true → get_or counts (day_slot d) 0 ≡ day_count d es
  pub few : (d : Day) → day_count d es ≤ 512

pub counts-none : (t : BookRows) (counts : List ℕ) → counts ≡ replicate 38432 0 → DayCounts counts (entries_of t 0)
unfolding entries_of tab day_count
counts-none t counts e =
    record {
      size = ap length e ∙ length-replicate {A = ℕ} 38432 0;
      at = λ d g. ap (λ (l : List ℕ). get_or l (day_slot d) 0) e ∙ get_or-replicate {A = ℕ} 38432 (day_slot d) 0 0 (slot-below d g (day_slot d) refl);
      few = λ d. omega arith;
    }

module _ (counts : List ℕ) (t : BookRows) (i : ℕ) (c : DayCounts counts (entries_of t i)) (e : Entry) (is : e ≡ entry_at t i)
    (x : Day) (q : date_day e.date ≡ Some x) (s : ℕ) (slot : s ≡ day_slot x) where
  on : date_day (entry_at t i).date ≡ Some x
  on = sym (ap (λ (v : Entry). date_day v.date) is) ∙ q

  valid : is_day x ≡ true
  valid = good-day e.date x q

  here : s < length counts
  here = omega (arith, slot-below x valid s slot, c.size)

  value : get_or counts s 0 ≡ day_count x (entries_of t i)
  value = rw slot (c.at x valid)

  pub counts_step : get_or counts s 0 < 512 → DayCounts (set counts s (get_or counts s 0 + 1)) (entries_of t (i + 1))
  counts_step l = record { size = length-set counts s _ ∙ c.size; at = λ d g. at d g (same_day x d) refl; few = few }
    where
      next : (d : Day) (b : Bool) → same_day x d ≡ b → day_count d (entries_of t (i + 1)) ≡ day_count d (entries_of t i) + cond b 1 0
      next d b h = count_next d t i ∙ rw (on, h)

      at : (d : Day) → is_day d ≡ true → (b : Bool) → same_day x d ≡ b → get_or (set counts s (get_or counts s 0 + 1)) (day_slot d) 0 ≡ day_count d (entries_of t (i + 1))
      at d g true h =
          let w : x ≡ d = same-day x d h in
          let k : day_slot d ≡ s = ap day_slot (sym w) ∙ sym slot in
          ap (λ (j : ℕ). get_or (set counts s (get_or counts s 0 + 1)) j 0) k
          ∙ get_or-set_same counts s (get_or counts s 0 + 1) 0 here
          ∙ ap (λ (n : ℕ). n + 1) (value ∙ ap (λ (v : Day). day_count v (entries_of t i)) w) ∙ sym (next d true h)
      at d g false h =
          get_or-set_other counts s (day_slot d) (get_or counts s 0 + 1) 0 (λ k. no-claim (sym h ∙ slot_same d g x valid (k ∙ slot)))
          ∙ c.at d g ∙ sym (next d false h ∙ omega arith)

      few : (d : Day) → day_count d (entries_of t (i + 1)) ≤ 512
      few d = rw (entries_next t i) (days-more (entries_of t i) (entry_at t i) x on (omega (arith, value)) c.few d)

  -- the 513th entry of a day
  pub counts-full : (u : ℕ) → i < u → 512 ≤ get_or counts s 0 → false ≡ days_good (entries_of t u)
  counts-full u h l = go (days_good (entries_of t u)) refl
    where
      over : 512 < day_count x (entries_of t (i + 1))
      over = let k : day_count x (entries_of t (i + 1)) ≡ day_count x (entries_of t i) + 1 = count_next x t i ∙ rw (on, same-day-refl x) in omega (arith, value)

      below : i + 1 ≤ u
      below = omega arith

      go : (b : Bool) → days_good (entries_of t u) ≡ b → false ≡ b
      go true w = absurd (omega (arith, over, count-mono x t (i + 1) u below, days-few (entries_of t u) w x))
      go false w = refl

pub counts_end : (counts : List ℕ) (t : BookRows) (i u : ℕ) → DayCounts counts (entries_of t i) → i ≤ u → u ≤ i → true ≡ days_good (entries_of t u)
counts_end counts t i u c h k = let e : i ≡ u = omega arith in rw (← e) (sym (days-kept (entries_of t i) c.few))

pub ruleset count_laws = (date-known, count_none, count_next, count_fits)
