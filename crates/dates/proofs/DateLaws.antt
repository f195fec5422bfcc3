-- Laws of written dates.
use Rattle.std.specs.Prelude.{Option, Some, None}
use Prim.Native.Nat.{ℕ, ◌+◌, ◌-◌, ◌*◌, ◌≤◌, ◌<◌}
use native.Mathlib.Nat.{add_assoc, le_trans}
use native.Mathlib.Omega.{arith}
use mathlib.Core.Path.{◌≡◌, refl, sym, ap, ◌∙◌}
use mathlib.Core.Bool.{Bool, true, false, ◌&&◌, and-false}
use mathlib.Core.List.{List}
use mir.Syntax.{w8}
use mir.Val.{Fits}
use lib.Dec.{eqb, leb}
use lib.ListN.{get_or, length, drop}
use borrow.Author.Tests.{eq-eqb, ne_eqb, leb-true, eqb-true}
use Rattle.days.specs.declared.calendar.Day.{Day}
use Rattle.texts.specs.Lists.{every}
use Rattle.texts.specs.Digits.{is_digit}
use Rattle.days.specs.Calendar.{is_date, day_of, is_day, on_day, two_digits, two_at, day_with, day_part}
use Rattle.dates.specs.Date.{clock_time, date_day, found, is_written, date_read}
use Rattle.texts.proofs.Tests.{both, cond-elim}
use Rattle.texts.proofs.ListLaws.{every-step, every-all}
use Rattle.days.proofs.CalendarLaws.{two_good, part-with}
use Rattle.days.proofs.DayLaws.{is-date, days-high, read-good, made}

module _ (s : List ℕ) where
  module _ (t : Bool) (test : t ≡ clock_time s) where
    pub date-no-time : t ≡ false → None ≡ date_day s
    unfolding date_day
    date-no-time f = rw (← test, f) (simp and-false)

    pub date-good : t ≡ true → length s ≡ 19 → (c y m d : ℕ) (r : Option Day)
        → c ≡ two_digits (get_or s 0 0) (get_or s 1 0) → y ≡ two_digits (get_or s 2 0) (get_or s 3 0)
        → m ≡ two_digits (get_or s 5 0) (get_or s 6 0) → d ≡ two_digits (get_or s 8 0) (get_or s 9 0)
        → r ≡ day_with (get_or s 4 0) (get_or s 7 0) c y m d → r ≡ date_day s
    unfolding date_day
    date-good f l c y m d r ec ey em ed e =
        let ten : 10 ≤ length s = omega arith in part-with s c y m d r ten ec ey em ed e ∙ rw (← test, f, eq-eqb _ _ l)

    -- the same of a day that it is compared with
    pub on-no-time : t ≡ false → (day : Day) → false ≡ on_day day (date_day s)
    on-no-time f day = ap (on_day day) (date-no-time f)

    pub on-good : t ≡ true → length s ≡ 19 → (day : Day) (c y m d : ℕ) (r : Bool)
        → c ≡ two_digits (get_or s 0 0) (get_or s 1 0) → y ≡ two_digits (get_or s 2 0) (get_or s 3 0)
        → m ≡ two_digits (get_or s 5 0) (get_or s 6 0) → d ≡ two_digits (get_or s 8 0) (get_or s 9 0)
        → r ≡ on_day day (day_with (get_or s 4 0) (get_or s 7 0) c y m d) → r ≡ on_day day (date_day s)
    on-good f l day c y m d r ec ey em ed e = e ∙ ap (on_day day) (date-good f l c y m d _ ec ey em ed refl)

-- ---- a field that holds one
module _ (s : List ℕ) where
  pub date-size : (length s ≡ 19 → ⊥) → None ≡ date_read s
  unfolding date_read date_day
  date-size n = simp (ne_eqb _ _ n)

  module _ (d : List ℕ) (same : d ≡ s) (t : Bool) (judged : t ≡ is_written d) where
    pub date-held : t ≡ true → Some d ≡ date_read s
    unfolding date_read
    date-held y = rw (← same, ← judged, y)

    pub date-not : t ≡ false → None ≡ date_read s
    unfolding date_read
    date-not n = rw (← same, ← judged, n)

  -- what is no date is on no day
  pub size-written : (length s ≡ 19 → ⊥) → false ≡ is_written s
  unfolding date_day
  size-written n = simp (ne_eqb _ _ n)

  pub text-written : (d : List ℕ) → d ≡ s → (t : Bool) → t ≡ is_written d → t ≡ is_written s
  text-written d same t e = e ∙ rw same

  module _ (day : Day) where
    pub size-on : (length s ≡ 19 → ⊥) → false ≡ on_day day (date_day s)
    unfolding date_day
    size-on n = simp (ne_eqb _ _ n)

    pub text-on : (d : List ℕ) → d ≡ s → (t : Bool) → t ≡ on_day day (date_day d) → t ≡ on_day day (date_day s)
    text-on d same t e = e ∙ rw same

    pub on-written : on_day day (date_day s) ≡ true → is_written s ≡ true
    on-written = go (date_day s)
      where
        go : (x : Option Day) → on_day day x ≡ true → found x ≡ true
        go (Some y) h = refl
        go None h = h

  -- a written date is read back
  pub date-again : is_written s ≡ true → date_read s ≡ Some s
  unfolding date_read
  date-again f = rw f

pub ruleset read_date_laws = (date-size, date-held, date-not)

-- ---- the day of a written date
-- the tests that a day which was read has passed
module _ (s : List ℕ) (x : Day) where
  part-tests : day_part s ≡ Some x
      → (eqb (get_or s 4 0) 45 && (eqb (get_or s 7 0) 45 && (eqb (two_at s 0) 20 && leb (two_at s 2) 99)) ≡ true)
      × (day_of (2000 + two_at s 2) (two_at s 5) (two_at s 8) ≡ Some x)
  unfolding day_part
  part-tests e = read-good _ _ (read-good (leb 10 (length s)) _ e).1

  date-tests : date_day s ≡ Some x → (eqb (length s) 19 && clock_time s ≡ true) × (day_part s ≡ Some x)
  unfolding date_day
  date-tests = read-good _ _

  pub part-is-day : day_part s ≡ Some x → is_day x ≡ true
  part-is-day e =
      (made _ (record { year = 2000 + two_at s 2; month = two_at s 5; day = two_at s 8 }) x refl (part-tests e).1).0

pub record DayOf (s : List ℕ) : Type 0 where
  pub day : Day
  pub is : date_day s ≡ Some day
  pub good : is_day day ≡ true

pub date-day : (s : List ℕ) → is_written s ≡ true → DayOf s
date-day s = go (date_day s) refl
  where
    go : (r : Option Day) → date_day s ≡ r → found r ≡ true → DayOf s
    go (Some x) e h = record { day = x; is = e; good = part-is-day s x (date-tests s x e).1 }
    go None e h = let z : ◌≡◌ {A = ℕ} 0 1 = cc in absurd (omega arith)

-- ---- what stands where
-- what the test `is_written` says
pub record WrittenParts (s : List ℕ) : Type 0 where
  pub size : length s ≡ 19
  pub dash : get_or s 4 0 ≡ 45
  pub dash-2 : get_or s 7 0 ≡ 45
  pub mark : get_or s 10 0 ≡ 84
  pub colon : get_or s 13 0 ≡ 58
  pub colon-2 : get_or s 16 0 ≡ 58
  pub century : two_at s 0 ≡ 20
  pub year : two_at s 2 ≤ 99
  pub month : two_at s 5 ≤ 12
  pub day : two_at s 8 ≤ 31
  pub hour : two_at s 11 ≤ 23
  pub minute : two_at s 14 ≤ 59
  pub second : two_at s 17 ≤ 59

pub written-parts : (s : List ℕ) → is_written s ≡ true → WrittenParts s
unfolding clock_time day_of
written-parts s h =
    let x = date-day s h in
    let whole = date-tests s x.day x.is in
    let part = part-tests s x.day whole.1 in
    let date = is-date _ _ _ (read-good (is_date (2000 + two_at s 2) (two_at s 5) (two_at s 8)) _ part.1).0 in
    let size = both (eqb (length s) 19) _ whole.0 in
    let mark = both (eqb (get_or s 10 0) 84) _ size.1 in
    let colon = both (eqb (get_or s 13 0) 58) _ mark.1 in
    let colon-2 = both (eqb (get_or s 16 0) 58) _ colon.1 in
    let hour = both (leb (two_at s 11) 23) _ colon-2.1 in
    let minute = both (leb (two_at s 14) 59) _ hour.1 in
    let dash = both (eqb (get_or s 4 0) 45) _ part.0 in
    let dash-2 = both (eqb (get_or s 7 0) 45) _ dash.1 in
    let century = both (eqb (two_at s 0) 20) _ dash-2.1 in
    record {
      size = eqb-true _ _ size.0;
      dash = eqb-true _ _ dash.0;
      dash-2 = eqb-true _ _ dash-2.0;
      mark = eqb-true _ _ mark.0;
      colon = eqb-true _ _ colon.0;
      colon-2 = eqb-true _ _ colon-2.0;
      century = eqb-true _ _ century.0;
      year = leb-true _ _ century.1;
      month = date.month-high;
      day = le_trans date.day-high (days-high _ _);
      hour = leb-true _ _ hour.0;
      minute = leb-true _ _ minute.0;
      second = leb-true _ _ minute.1;
    }

-- ---- its bytes
pub two-digits : (a b : ℕ) → two_digits a b ≤ 99 → (is_digit a ≡ true) × (is_digit b ≡ true)
unfolding two_digits
two-digits a b h =
    let t = is_digit a && is_digit b in
    both (is_digit a) (is_digit b) (cond-elim (λ n. n ≤ 99 → t ≡ true) t _ 100 (λ e l. e) (λ e l. absurd (omega arith)) h)

module _ (p : ℕ → Bool) (s : List ℕ) (digit : (b : ℕ) → is_digit b ≡ true → p b ≡ true) where
  pair_step : (i : ℕ) → i + 1 < length s → two_at s i ≤ 99 → every p s ≡ every p (drop i s) → every p s ≡ every p (drop (i + 2) s)
  pair_step i l h passed =
      let d = two-digits (get_or s i 0) (get_or s (i + 1) 0) h in
      let one = every-step p s i passed (omega arith) (digit _ d.0) in
      let two = every-step p s (i + 1) one l (digit _ d.1) in
      rw add_assoc at two

  -- a written date has digits and its marks only
  pub date-bytes : p 45 ≡ true → p 84 ≡ true → p 58 ≡ true → is_written s ≡ true → every p s ≡ true
  date-bytes dash mark colon h =
      let w = written-parts s h in
      let a = pair_step 0 (omega arith) (omega arith) refl in
      let b = pair_step 2 (omega arith) w.year a in
      let c = every-step p s 4 b (omega arith) (rw w.dash dash) in
      let d = pair_step 5 (omega arith) (omega arith) c in
      let e = every-step p s 7 d (omega arith) (rw w.dash-2 dash) in
      let f = pair_step 8 (omega arith) (omega arith) e in
      let g = every-step p s 10 f (omega arith) (rw w.mark mark) in
      let i = pair_step 11 (omega arith) (omega arith) g in
      let j = every-step p s 13 i (omega arith) (rw w.colon colon) in
      let k = pair_step 14 (omega arith) (omega arith) j in
      let m = every-step p s 16 k (omega arith) (rw w.colon-2 colon) in
      let n = pair_step 17 (omega arith) (omega arith) m in
      every-all p s 19 n (omega arith)

-- ---- the day of a date that is known to be written
module _ (a b : ℕ) (h : two_digits a b ≤ 99) where
  pub tens-least : 48 ≤ a
  tens-least = leb-true _ _ (both (leb 48 a) _ (two-digits a b h).0).0

  pub ones-least : 48 ≤ b
  ones-least = leb-true _ _ (both (leb 48 b) _ (two-digits a b h).1).0

  tens-most : a ≤ 57
  tens-most = leb-true _ _ (both (leb 48 a) _ (two-digits a b h).0).1

  ones-most : b ≤ 57
  ones-most = leb-true _ _ (both (leb 48 b) _ (two-digits a b h).1).1

  pub tens-fit : Fits w8 ((a - 48) * 10)
  tens-fit = omega (arith, tens-most)

  pub pair_fits : Fits w8 ((a - 48) * 10 + (b - 48))
  pair_fits = omega (arith, tens-most, ones-most)

  pub pair_is : (a - 48) * 10 + (b - 48) ≡ two_digits a b
  pair_is = two_good a b tens-least tens-most ones-least ones-most

module _ (s : List ℕ) (h : is_written s ≡ true) where
  pub year-pair : two_digits (get_or s 2 0) (get_or s 3 0) ≤ 99
  year-pair = (written-parts s h).year

  pub month-pair : two_digits (get_or s 5 0) (get_or s 6 0) ≤ 99
  month-pair = omega (arith, (written-parts s h).month)

  pub day-pair : two_digits (get_or s 8 0) (get_or s 9 0) ≤ 99
  day-pair = omega (arith, (written-parts s h).day)

  pub day-written : (y m d : ℕ)
      → y ≡ two_digits (get_or s 2 0) (get_or s 3 0) → m ≡ two_digits (get_or s 5 0) (get_or s 6 0) → d ≡ two_digits (get_or s 8 0) (get_or s 9 0)
      → date_day s ≡ Some (record { year = 2000 + y; month = m; day = d })
  unfolding day_of
  day-written y m d ey em ed =
      let x = date-day s h in
      let part = part-tests s x.day (date-tests s x.day x.is).1 in
      let own = (read-good (is_date (2000 + two_at s 2) (two_at s 5) (two_at s 8)) _ part.1).1 in
      x.is ∙ sym own ∙ rw (← ey, ← em, ← ed)

pub ruleset day_laws = (date-no-time, date-good)

pub ruleset on_laws = (on-no-time, on-good)

pub ruleset text_laws = (size-written, text-written, size-on, text-on)

pub ruleset pair_laws = (tens-least, ones-least, tens-fit, pair_fits, pair_is)

pub ruleset written_laws = (year-pair, month-pair, day-pair, day-written)
