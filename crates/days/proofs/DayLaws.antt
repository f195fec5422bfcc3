-- Laws of days: what a date is, the next day, and that days are ordered as their numbers are.
use Rattle.std.specs.Prelude.{Option, Some, None}
use Prim.Native.Nat.{ℕ, zero, suc, ◌+◌, ◌-◌, ◌*◌, ◌≤◌, ◌<◌}
use native.Mathlib.Nat.{add-zero, add-suc, le_refl, lt_trans}
use native.Mathlib.Numerals.{sub-one}
use native.Mathlib.Omega.{arith}
use mathlib.Core.Path.{◌≡◌, refl, sym, ◌∙◌}
use mathlib.Core.Bool.{Bool, true, false, cond, ◌&&◌, ◌||◌}
use lib.Dec.{ltb, leb, eqb}
use borrow.Author.Tests.{lt-ltb, le-ltb, le-leb, eq-eqb, ltb-true, ltb-false, leb-true, eqb-true}
use borrow.Author.Rules.{rules}
use Rattle.days.specs.declared.calendar.Day.{Day}
use Rattle.days.specs.Calendar.{leap_year, days_in, is_date, day_of, is_day, next_day, day_key, day_before, same_day, months_days, years_days, day_number}
use Rattle.texts.proofs.Tests.{both, cond-elim}

-- ---- dates
-- what the test `is_date` says, as numbers: `omega` reads its fields
pub record IsDate (y m d : ℕ) : Type 0 where
  pub year-low : 2000 ≤ y
  pub year-high : y ≤ 2099
  pub month-low : 1 ≤ m
  pub month-high : m ≤ 12
  pub day-low : 1 ≤ d
  pub day-high : d ≤ days_in y m

pub is-date : (y m d : ℕ) → is_date y m d ≡ true → IsDate y m d
unfolding is_date
is-date y m d h =
    let t₅ = leb d (days_in y m) in
    let t₄ = leb 1 d && t₅ in
    let t₃ = leb m 12 && t₄ in
    let t₂ = leb 1 m && t₃ in
    let t₁ = leb y 2099 && t₂ in
    let a = both (leb 2000 y) t₁ h in
    let b = both (leb y 2099) t₂ a.1 in
    let c = both (leb 1 m) t₃ b.1 in
    let e = both (leb m 12) t₄ c.1 in
    let f = both (leb 1 d) t₅ e.1 in
    record { year-low = leb-true _ _ a.0; year-high = leb-true _ _ b.0; month-low = leb-true _ _ c.0; month-high = leb-true _ _ e.0; day-low = leb-true _ _ f.0; day-high = leb-true _ _ f.1 }

pub date-is : (y m d : ℕ) → IsDate y m d → is_date y m d ≡ true
unfolding is_date
date-is y m d h =
    simp (le-leb _ _ h.year-low, le-leb _ _ h.year-high, le-leb _ _ h.month-low, le-leb _ _ h.month-high, le-leb _ _ h.day-low, le-leb _ _ h.day-high)

day-is : (x : Day) → is_day x ≡ true → IsDate x.year x.month x.day
day-is x = is-date x.year x.month x.day

-- ---- the days of a month
days-range : (y m : ℕ) → (28 ≤ days_in y m) × (days_in y m ≤ 31)
unfolding days_in
days-range y m =
    let P : ℕ → Type 0 = λ n. (28 ≤ n) × (n ≤ 31) in
    cond-elim P (eqb m 2) _ _
    (λ _. cond-elim P (leap_year y) _ _ (λ _. (omega arith, omega arith)) (λ _. (omega arith, omega arith)))
    (λ _.
    cond-elim P (eqb m 4 || (eqb m 6 || (eqb m 9 || eqb m 11))) _ _ (λ _. (omega arith, omega arith)) (λ _. (omega arith, omega arith)))

pub days-low : (y m : ℕ) → 28 ≤ days_in y m
days-low y m = (days-range y m).0

pub days-high : (y m : ℕ) → days_in y m ≤ 31
days-high y m = (days-range y m).1

-- ---- the days before a month and before a year
months-next : (y m : ℕ) → 1 ≤ m → months_days y m ≡ months_days y (m - 1) + days_in y m
unfolding months_days
months-next y zero h = absurd (omega arith)
months-next y (suc m) h = rw sub-one

years-next : (y : ℕ) → 2000 ≤ y → years_days (y + 1 - 2000) ≡ years_days (y - 2000) + months_days y 12
unfolding years_days
years-next y h =
    let e : y + 1 - 2000 ≡ suc (y - 2000) = omega arith in
    let f : 2000 + (y - 2000) ≡ y = omega arith in
    rw (e, f)

-- what no step lessens grows
module _ (f : ℕ → ℕ) (step : (k : ℕ) → f k ≤ f (suc k)) where
  grows-by : (m k : ℕ) → f m ≤ f (m + k)
  grows-by m zero = rw add-zero (le_refl (f m))
  grows-by m (suc k) = rw add-suc (omega (arith, grows-by m k, step (m + k)))

  grows : (m n : ℕ) → m ≤ n → f m ≤ f n
  grows m n h =
      let e : m + (n - m) ≡ n = omega arith in
      rw e at (grows-by m (n - m))

months-grow : (y m n : ℕ) → m ≤ n → months_days y m ≤ months_days y n
unfolding months_days
months-grow y = grows (months_days y) (λ k. omega arith)

years-grow : (j k : ℕ) → j ≤ k → years_days j ≤ years_days k
unfolding years_days
years-grow = grows years_days (λ k. omega arith)

-- ---- days are ordered as their numbers are
-- at k = 1 these say "before", at k = 0 "before or the same": one proof for both
module _ (k : ℕ) (small : k ≤ 1) where
  in-year : (y m d n e : ℕ) → IsDate y m d → IsDate y n e → m * 256 + d + k ≤ n * 256 + e
      → months_days y (m - 1) + d + k ≤ months_days y (n - 1) + e
  in-year y m d n e p q h = go (ltb m n) refl
    where
      go : (t : Bool) → ltb m n ≡ t → months_days y (m - 1) + d + k ≤ months_days y (n - 1) + e
      go true t =
          let l : m < n = ltb-true _ _ t in
          omega (arith, months-next y m p.month-low, months-grow y m (n - 1) (omega arith))
      go false t =
          let l : n ≤ m = ltb-false _ _ t in
          let s : m ≡ n = omega (arith, days-high y n) in
          rw s (omega arith)

  number-order : (x y : Day) → is_day x ≡ true → is_day y ≡ true → day_key x + k ≤ day_key y → day_number x + k ≤ day_number y
  unfolding day_number
  number-order x y p q h = go (ltb x.year y.year) refl
    where
      a : IsDate x.year x.month x.day
      a = day-is x p

      b : IsDate y.year y.month y.day
      b = day-is y q

      go : (t : Bool) → ltb x.year y.year ≡ t → day_number x + k ≤ day_number y
      go true t =
          let l : x.year < y.year = ltb-true _ _ t in
          omega (arith, a, b, months-next x.year x.month a.month-low, months-grow x.year x.month 12 a.month-high, years-next x.year a.year-low, years-grow (x.year + 1 - 2000) (y.year - 2000) (omega arith))
      go false t =
          let l : y.year ≤ x.year = ltb-false _ _ t in
          let s : y.year ≡ x.year = omega (arith, a, b, days-high y.year y.month) in
          let i = in-year x.year x.month x.day y.month y.day a (rw s at b) (omega arith) in
          rw s (omega arith)

-- the order of keys, which the code compares, is the order of the calendar
pub before-number : (x y : Day) → is_day x ≡ true → is_day y ≡ true → day_before x y ≡ ltb (day_number x) (day_number y)
unfolding day_before
before-number x y p q = go (ltb (day_key x) (day_key y)) refl
  where
    go : (t : Bool) → ltb (day_key x) (day_key y) ≡ t → ltb (day_key x) (day_key y) ≡ ltb (day_number x) (day_number y)
    go true t =
        let l : day_key x < day_key y = ltb-true _ _ t in
        t ∙ sym (lt-ltb (day_number x) (day_number y) (omega (arith, number-order 1 (omega arith) x y p q (omega arith))))
    go false t =
        let l : day_key y ≤ day_key x = ltb-false _ _ t in
        t ∙ sym (le-ltb (day_number x) (day_number y) (omega (arith, number-order 0 (omega arith) y x q p (omega arith))))

before-less : (x y : Day) → is_day x ≡ true → is_day y ≡ true → day_before x y ≡ true → day_number x < day_number y
before-less x y p q h = ltb-true _ _ (sym (before-number x y p q) ∙ h)

-- ---- the same day
same-fields : (x y : Day) → x.year ≡ y.year → x.month ≡ y.month → x.day ≡ y.day → x ≡ y
same-fields x y p q r = λ i. record { year = p i; month = q i; day = r i }

pub same-day : (x y : Day) → same_day x y ≡ true → x ≡ y
unfolding same_day
same-day x y h =
    let t = eqb x.day y.day in
    let a = both (eqb x.year y.year) (eqb x.month y.month && t) h in
    let b = both (eqb x.month y.month) t a.1 in
    same-fields x y (eqb-true _ _ a.0) (eqb-true _ _ b.0) (eqb-true _ _ b.1)

pub same-day-refl : (x : Day) → same_day x x ≡ true
unfolding same_day
same-day-refl x = simp (eq-eqb x.year _ refl, eq-eqb x.month _ refl, eq-eqb x.day _ refl)

-- ---- a total order
pub before-irrefl : (x : Day) → day_before x x ≡ false
unfolding day_before
before-irrefl x = le-ltb (day_key x) (day_key x) (le_refl (day_key x))

pub before-trans : (x y z : Day) → day_before x y ≡ true → day_before y z ≡ true → day_before x z ≡ true
unfolding day_before
before-trans x y z p q =
    lt-ltb (day_key x) (day_key z) (lt_trans (ltb-true _ _ p) (ltb-true _ _ q))

-- of dates only: days past 255 give two days one key
pub before-total : (x y : Day) → is_day x ≡ true → is_day y ≡ true → (day_before x y ≡ false) → (day_before y x ≡ false) → x ≡ y
unfolding day_before
before-total x y p q h i =
    let a = day-is x p in
    let b = day-is y q in
    let j : day_key y ≤ day_key x = ltb-false _ _ h in
    let k : day_key x ≤ day_key y = ltb-false _ _ i in
    let l = days-high x.year x.month in
    let m = days-high y.year y.month in
    same-fields x y (omega arith) (omega arith) (omega arith)

same-not-before : (x y : Day) → is_day x ≡ true → is_day y ≡ true → day_number x ≡ day_number y → day_before x y ≡ false
same-not-before x y p q e = before-number x y p q ∙ le-ltb (day_number x) (day_number y) (omega arith)

-- a day is known by its number
pub number_same : (x y : Day) → is_day x ≡ true → is_day y ≡ true → day_number x ≡ day_number y → x ≡ y
number_same x y p q e = before-total x y p q (same-not-before x y p q e) (same-not-before y x q p (sym e))

-- ---- the next day
-- what a test lets through was tested
pub read-good : (t : Bool) (r : Option Day) {y : Day} → cond t r None ≡ Some y → (t ≡ true) × (r ≡ Some y)
read-good true r e = (refl, e)
read-good false r e = let z : ◌≡◌ {A = ℕ} 0 1 = cc in absurd (omega arith)

pub next-of-day : (x y : Day) → next_day x ≡ Some y → is_day x ≡ true
unfolding next_day
next-of-day x y h = (read-good (is_day x) _ h).0

-- the last month is full at 31, whatever the year
december : (y m : ℕ) → m ≡ 12 → days_in y m ≡ 31
unfolding days_in
december y m e = rw e

-- a date that was read keeps its number
pub made : (n : ℕ) (z y : Day) → day_number z ≡ n → day_of z.year z.month z.day ≡ Some y → (is_day y ≡ true) × (day_number y ≡ n)
unfolding day_of
made n z y h e =
    let g = read-good (is_day z) (Some z) e in
    let s : z ≡ y = cc in
    (rw s at g.0, rw s at h)

module _ (x : Day) (p : is_day x ≡ true) where
  -- the next day is in the month, at the start of a month, or at the start of a year
  next-cases : (P : Option Day → Type 0)
      → (x.day < days_in x.year x.month → P (day_of x.year x.month (x.day + 1)))
      → (x.day ≡ days_in x.year x.month → x.month < 12 → P (day_of x.year (x.month + 1) 1))
      → (x.day ≡ days_in x.year x.month → x.month ≡ 12 → P (day_of (x.year + 1) 1 1))
      → P (next_day x)
  unfolding next_day
  next-cases P inside month year =
      let a = day-is x p in
      rw p
      (cond-elim P (ltb x.day (days_in x.year x.month)) _ _ (λ t. inside (ltb-true _ _ t))
      (λ t.
      let e : x.day ≡ days_in x.year x.month = omega (arith, ltb-false) in
      cond-elim P (ltb x.month 12) _ _ (λ u. month e (ltb-true _ _ u)) (λ u. year e (omega (arith, ltb-false)))))

  next-step : (y : Day) → next_day x ≡ Some y → (is_day y ≡ true) × (day_number y ≡ suc (day_number x))
  unfolding day_number months_days
  next-step y =
      let a = day-is x p in
      let full = months-next x.year x.month a.month-low in
      let i : x.month + 1 - 1 ≡ x.month = omega arith in
      next-cases (λ r. r ≡ Some y → (is_day y ≡ true) × (day_number y ≡ suc (day_number x)))
      (λ l. made (suc (day_number x)) (record { year = x.year; month = x.month; day = x.day + 1 }) y (omega arith))
      (λ e l. made (suc (day_number x)) (record { year = x.year; month = x.month + 1; day = 1 }) y (rw i (omega arith)))
      (λ e l.
      let g : months_days x.year x.month ≡ months_days x.year 12 = rw l in
      made (suc (day_number x)) (record { year = x.year + 1; month = 1; day = 1 }) y (omega (arith, years-next x.year a.year-low)))

pub next-is-day : (x y : Day) → next_day x ≡ Some y → is_day y ≡ true
next-is-day x y h = (next-step x (next-of-day x y h) y h).0

pub next-number : (x y : Day) → next_day x ≡ Some y → day_number y ≡ suc (day_number x)
next-number x y h = (next-step x (next-of-day x y h) y h).1

pub next-after : (x y : Day) → next_day x ≡ Some y → day_before x y ≡ true
next-after x y h =
    before-number x y (next-of-day x y h) (next-is-day x y h) ∙ lt-ltb (day_number x) (day_number y) (omega (arith, next-number x y h))

-- so no day of the calendar is left out
pub none_between : (x y z : Day) → next_day x ≡ Some y → is_day z ≡ true → day_before x z ≡ true → day_before z y ≡ true → ⊥
none_between x y z h p b c =
    omega (arith, next-number x y h, before-less x z (next-of-day x y h) p b, before-less z y p (next-is-day x y h) c)

-- a date is always read
not_none : (y m d : ℕ) → IsDate y m d → day_of y m d ≡ None → ⊥
unfolding day_of
not_none y m d h e =
    let f = rw (date-is y m d h) at e in
    let z : ◌≡◌ {A = ℕ} 0 1 = cc in
    omega arith

-- only the last day of the calendar has no next
pub next-none : (x : Day) → is_day x ≡ true → next_day x ≡ None → (x.year ≡ 2099) × ((x.month ≡ 12) × (x.day ≡ 31))
next-none x p =
    let a = day-is x p in
    let b = days-low x.year (x.month + 1) in
    let c = days-low (x.year + 1) 1 in
    next-cases x p (λ r. r ≡ None → (x.year ≡ 2099) × ((x.month ≡ 12) × (x.day ≡ 31)))
    (λ l e. absurd (not_none _ _ _ (search rules) e))
    (λ f l e. absurd (not_none _ _ _ (search rules) e))
    (λ f l e.
    let n : x.year < 2099 → ⊥ = λ k. not_none _ _ _ (search rules) e in
    (omega arith, (l, f ∙ december x.year x.month l)))
