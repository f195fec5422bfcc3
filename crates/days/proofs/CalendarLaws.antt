-- Laws of days, at each way out of the calendar's functions.
use Rattle.std.specs.Prelude.{Option, Some, None}
use Prim.Native.Nat.{ℕ, ◌+◌, ◌-◌, ◌*◌, ◌≤◌, ◌<◌}
use native.Mathlib.Omega.{arith}
use mathlib.Core.Path.{◌≡◌, refl, sym, ◌∙◌}
use mathlib.Core.Bool.{Bool, true, false, cond, ◌&&◌, and-false}
use mathlib.Core.Logic.{◌⊎◌, inl, inr}
use mathlib.Core.List.{List}
use mir.Syntax.{w16}
use mir.Val.{Fits}
use lib.Dec.{eqb, leb}
use lib.ListN.{get_or, length}
use borrow.Author.Tests.{le-leb, lt-leb, lt-ltb, le-ltb, eq-eqb, ne_eqb, leb-true}
use Rattle.days.specs.declared.calendar.Day.{Day}
use Rattle.days.specs.Calendar.{leap_year, days_in, is_date, day_of, is_day, next_day, same_day, on_day, two_digits, day_with, day_part}
use Rattle.texts.proofs.Tests.{and_left, and_right, by-test}

module _ (y m : ℕ) where
  pub february-leap : m ≡ 2 → (b : Bool) → b ≡ leap_year y → b ≡ true → 29 ≡ days_in y m
  unfolding days_in
  february-leap e b l t = rw (e, ← l, t)

  pub february : m ≡ 2 → (b : Bool) → b ≡ leap_year y → b ≡ false → 28 ≡ days_in y m
  unfolding days_in
  february e b l t = rw (e, ← l, t)

  pub thirty : (m ≡ 4) ⊎ ((m ≡ 6) ⊎ ((m ≡ 9) ⊎ (m ≡ 11))) → 30 ≡ days_in y m
  unfolding days_in
  thirty (inl e) = rw e
  thirty (inr (inl e)) = rw e
  thirty (inr (inr (inl e))) = rw e
  thirty (inr (inr (inr e))) = rw e

  pub thirty-one : (m ≡ 2 → ⊥) → ((m ≡ 4) ⊎ ((m ≡ 6) ⊎ ((m ≡ 9) ⊎ (m ≡ 11))) → ⊥) → 31 ≡ days_in y m
  unfolding days_in
  thirty-one p q =
      simp (ne_eqb _ _ p, ne_eqb m 4 (λ e. q (inl e)), ne_eqb m 6 (λ e. q (inr (inl e))), ne_eqb m 9 (λ e. q (inr (inr (inl e)))), ne_eqb m 11 (λ e. q (inr (inr (inr e)))))

-- ---- the following day
module _ (x : Day) (t : Bool) (test : t ≡ is_date x.year x.month x.day) where
  pub next-no-date : t ≡ false → None ≡ next_day x
  unfolding next_day
  next-no-date i = rw (← test, i)

  module _ (i : t ≡ true) where
    pub next-year-fits : Fits w16 (x.year + 1)
    unfolding is_date
    next-year-fits =
        let y : Bool = leb x.year 2099 in
        let h : is_date x.year x.month x.day ≡ true = sym test ∙ i in
        omega (arith, leb-true x.year 2099 (and_left y _ (and_right (leb 2000 x.year) _ h)))

    module _ (n : ℕ) (last : n ≡ days_in x.year x.month) where
      pub next-in-month : (r : Option Day) → x.day < n → r ≡ day_of x.year x.month (x.day + 1) → r ≡ next_day x
      unfolding next_day
      next-in-month r h e = e ∙ rw (← test, i, ← last) (simp lt-ltb)

      pub next-month : (r : Option Day) → n ≤ x.day → x.month < 12 → r ≡ day_of x.year (x.month + 1) 1 → r ≡ next_day x
      unfolding next_day
      next-month r h g e = e ∙ rw (← test, i, ← last) (simp (le-ltb, lt-ltb))

      pub next-year : (r : Option Day) → n ≤ x.day → 12 ≤ x.month → r ≡ day_of (x.year + 1) 1 1 → r ≡ next_day x
      unfolding next_day
      next-year r h g e = e ∙ rw (← test, i, ← last) (simp le-ltb)

pub ruleset next_laws = (next-no-date, next-year-fits, next-in-month, next-month, next-year)

-- ---- a day that is read
module _ (a b : ℕ) where
  pub two_good : 48 ≤ a → a ≤ 57 → 48 ≤ b → b ≤ 57 → (a - 48) * 10 + (b - 48) ≡ two_digits a b
  unfolding two_digits
  two_good h i j k = simp le-leb

-- ---- the day of dashes and digits, and another
module _ (day : Day) (a b c y m d : ℕ) where
  abbrev made : Day
  made = record { year = 2000 + y; month = m; day = d }

  on-with : on_day day (day_with a b c y m d) ≡ (eqb a 45 && (eqb b 45 && (eqb c 20 && leb y 99))) && (is_date (2000 + y) m d && same_day made day)
  unfolding day_of
  on-with = go (eqb a 45 && (eqb b 45 && (eqb c 20 && leb y 99))) (is_date (2000 + y) m d)
    where
      go : (p q : Bool) → on_day day (cond p (cond q (Some made) None) None) ≡ p && (q && same_day made day)
      go true true = refl
      go true false = refl
      go false q = refl

  pub on-dash : (a ≡ 45 → ⊥) → false ≡ on_day day (day_with a b c y m d)
  on-dash n = sym (on-with ∙ simp (ne_eqb _ _ n))

  pub on-other : (b ≡ 45 → ⊥) → false ≡ on_day day (day_with a b c y m d)
  on-other n = sym (on-with ∙ simp (ne_eqb _ _ n, and-false))

  pub on-century : (c ≡ 20 → ⊥) → false ≡ on_day day (day_with a b c y m d)
  on-century n = sym (on-with ∙ simp (ne_eqb _ _ n, and-false))

  unlike : same_day made day ≡ false → false ≡ on_day day (day_with a b c y m d)
  unlike e = sym (on-with ∙ simp (e, and-false))

  pub on-year : (2000 + y ≡ day.year → ⊥) → false ≡ on_day day (day_with a b c y m d)
  unfolding same_day
  on-year n = unlike (simp (ne_eqb _ _ n))

  pub on-month : (m ≡ day.month → ⊥) → false ≡ on_day day (day_with a b c y m d)
  unfolding same_day
  on-month n = unlike (simp (ne_eqb _ _ n, and-false))

  pub on-day : (d ≡ day.day → ⊥) → false ≡ on_day day (day_with a b c y m d)
  unfolding same_day
  on-day n = unlike (simp (ne_eqb _ _ n, and-false))

  pub on-all : a ≡ 45 → b ≡ 45 → c ≡ 20 → 2000 + y ≡ day.year → m ≡ day.month → d ≡ day.day
      → (r : Bool) → r ≡ is_day day → r ≡ on_day day (day_with a b c y m d)
  unfolding same_day is_date
  on-all ea eb ec ey em ed r er = er ∙ by-test (is_day day) real unreal ∙ sym whole
    where
      short : Bool
      short = leb y 99 && (is_day day && true)

      whole : on_day day (day_with a b c y m d) ≡ short
      whole = on-with ∙ rw (eq-eqb _ _ ea, eq-eqb _ _ eb, eq-eqb _ _ ec, eq-eqb _ _ ey, eq-eqb _ _ em, eq-eqb _ _ ed, ey, em, ed)

      real : is_day day ≡ true → is_day day ≡ short
      real h =
          let high : Bool = leb day.year 2099 in
          let l : day.year ≤ 2099 = leb-true day.year 2099 (and_left high _ (and_right (leb 2000 day.year) _ h)) in
          let k : y ≤ 99 = omega arith in
          rw (h, le-leb y 99 k)

      unreal : is_day day ≡ false → is_day day ≡ short
      unreal h = rw h (sym (and-false (leb y 99)))

module _ (s : List ℕ) where
  pub part-short : length s < 10 → None ≡ day_part s
  unfolding day_part
  part-short h = simp (lt-leb _ _ h)

  pub part-with : (c y m d : ℕ) (r : Option Day) → 10 ≤ length s
      → c ≡ two_digits (get_or s 0 0) (get_or s 1 0) → y ≡ two_digits (get_or s 2 0) (get_or s 3 0)
      → m ≡ two_digits (get_or s 5 0) (get_or s 6 0) → d ≡ two_digits (get_or s 8 0) (get_or s 9 0)
      → r ≡ day_with (get_or s 4 0) (get_or s 7 0) c y m d → r ≡ day_part s
  unfolding day_part
  part-with c y m d r l ec ey em ed er = er ∙ rw (le-leb _ _ l, ← ec, ← ey, ← em, ← ed)

pub ruleset with_laws = (on-dash, on-other, on-century, on-year, on-month, on-day, on-all)

pub ruleset month_laws = (february-leap, february, thirty, thirty-one)

pub ruleset part_laws = (part-short, part-with)
