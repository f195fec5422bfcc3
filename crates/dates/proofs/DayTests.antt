-- Tests of days are tests of their numbers.
use Rattle.std.specs.Prelude.{Option, Some, None}
use Prim.Native.Nat.{ℕ, suc, ◌≤◌}
use native.Mathlib.Omega.{arith}
use mathlib.Core.Path.{◌≡◌, refl, sym, ap, ◌∙◌}
use mathlib.Core.Bool.{Bool, true, false, not}
use mathlib.Core.List.{List}
use lib.Dec.{eqb, leb, ltb}
use borrow.Author.Tests.{eq-eqb, eqb-true, lt-leb, le-leb, le-ltb, ltb-true, ltb-false}
use Rattle.days.specs.declared.calendar.Day.{Day}
use Rattle.days.specs.Calendar.{is_day, day_before, same_day, next_day, on_day, up_to, day_number, day_key}
use Rattle.dates.specs.Date.{date_day, is_written}
use Rattle.texts.proofs.Tests.{no-claim, same_bool}
use Rattle.days.proofs.DayLaws.{before-number, same-day, same-day-refl, number_same, next-number, next-is-day, next-none, is-date, days-high}
use Rattle.dates.proofs.DateLaws.{date-day}

not-less : (a b : ℕ) → not (ltb a b) ≡ leb b a
not-less a b = go (ltb a b) refl
  where
    go : (t : Bool) → ltb a b ≡ t → not t ≡ leb b a
    go true e = sym (lt-leb b a (ltb-true _ _ e))
    go false e = sym (le-leb b a (ltb-false _ _ e))

-- not before a day: up to its number
pub not-before : (x y : Day) → is_day x ≡ true → is_day y ≡ true → not (day_before x y) ≡ leb (day_number y) (day_number x)
not-before x y p q = ap not (before-number x y p q) ∙ not-less (day_number x) (day_number y)

-- the same day: the same number
pub same-number : (x y : Day) → is_day x ≡ true → is_day y ≡ true → same_day x y ≡ eqb (day_number x) (day_number y)
same-number x y p q =
    same_bool (same_day x y) (eqb (day_number x) (day_number y)) (λ h. eq-eqb _ _ (ap day_number (same-day x y h)))
    (λ h. ap (same_day x) (sym (number_same x y p q (eqb-true _ _ h))) ∙ same-day-refl x)

-- ---- a written date's day, by its number; what is no date has none
abbrev pub read_number : Option Day → ℕ
read_number None = 0
read_number (Some d) = day_number d

abbrev pub date_number : List ℕ → ℕ
date_number s = read_number (date_day s)

-- a date up to a day
pub up-to : (last : Day) (date : List ℕ) → is_day last ≡ true → is_written date ≡ true → up_to last (date_day date) ≡ leb (date_number date) (day_number last)
up-to last date p w = let d = date-day date w in rw d.is (not-before last d.day p d.good)

-- a date on a day
pub on-day : (day : Day) (date : List ℕ) → is_day day ≡ true → is_written date ≡ true → on_day day (date_day date) ≡ eqb (date_number date) (day_number day)
on-day day date p w = let d = date-day date w in rw d.is (same-number d.day day d.good p)

-- ---- the next day
-- no day is after one that has no next
last_one : (day last : Day) → is_day day ≡ true → is_day last ≡ true → next_day last ≡ None → day_before last day ≡ false
unfolding day_before
last_one day last p q e =
    let z = next-none last q e in
    let a = is-date day.year day.month day.day p in
    let b : day_key day ≤ day_key last = rw (z.0, z.1.0, z.1.1) (omega (arith, a.year-high, a.month-high, a.day-high, days-high day.year day.month)) in
    le-ltb (day_key last) (day_key day) b

-- the next day: the number after
pub next-test : (day last : Day) → is_day day ≡ true → is_day last ≡ true → on_day day (next_day last) ≡ eqb (day_number day) (suc (day_number last))
next-test day last p q = go (next_day last) refl
  where
    go : (r : Option Day) → next_day last ≡ r → on_day day r ≡ eqb (day_number day) (suc (day_number last))
    go (Some y) e =
        same-number y day (next-is-day last y e) p
        ∙ same_bool (eqb (day_number y) (day_number day)) (eqb (day_number day) (suc (day_number last)))
        (λ h. eq-eqb _ _ (sym (eqb-true _ _ h) ∙ next-number last y e))
        (λ h. eq-eqb _ _ (next-number last y e ∙ sym (eqb-true _ _ h)))
    go None e = sym (no_more (eqb (day_number day) (suc (day_number last))) refl)
      where
        no_more : (t : Bool) → eqb (day_number day) (suc (day_number last)) ≡ t → t ≡ false
        no_more false h = refl
        no_more true h =
            let s : day_number day ≡ suc (day_number last) = eqb-true _ _ h in
            let l : day_number day ≤ day_number last = ltb-false _ _ (sym (before-number last day q p) ∙ last_one day last p q e) in
            absurd (omega arith)

-- what is no date is not the next day
pub next-is-date : (day last : Day) → on_day day (next_day last) ≡ true → is_day day ≡ true
next-is-date day last h = go (next_day last) refl h
  where
    go : (r : Option Day) → next_day last ≡ r → on_day day r ≡ true → is_day day ≡ true
    go None e h = no-claim h
    go (Some y) e h = ap is_day (sym (same-day y day h)) ∙ next-is-day last y e
