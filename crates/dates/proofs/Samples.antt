-- Document 01, "Sample cases": K3 to K6, over the definitions.
use Rattle.std.specs.Prelude.{Some}
use Prim.Native.Nat.{ℕ}
use mathlib.Core.Path.{◌≡◌, refl}
use mathlib.Core.List.{List, [], ◌∷◌}
use Rattle.texts.specs.Lists.{every, find}
use Rattle.texts.specs.Digits.{digits_read, range_read}
use Rattle.fields.specs.Amount.{kopecks_after, amount_read, amount_fault}
use Rattle.fields.specs.Codes.{receipt_read, receipt_fault}
use Rattle.days.specs.Calendar.{leap_year, days_in, is_date, day_of, two_digits, day_part}
use Rattle.dates.specs.Date.{clock_time, date_day, date_read, date_fault}

-- 9999999.99
abbrev pub amount_most : List ℕ
amount_most = 57 ∷ 57 ∷ 57 ∷ 57 ∷ 57 ∷ 57 ∷ 57 ∷ 46 ∷ 57 ∷ 57 ∷ []

-- 10000000
abbrev pub amount_over : List ℕ
amount_over = 49 ∷ 48 ∷ 48 ∷ 48 ∷ 48 ∷ 48 ∷ 48 ∷ 48 ∷ []

pub k3 : (amount_read amount_most ≡ Some 999999999) × (amount_fault (amount_read amount_over) ≡ 3)
unfolding every find digits_read kopecks_after amount_read
k3 = (refl, refl)

-- 0.01
abbrev pub one_kopeck : List ℕ
one_kopeck = 48 ∷ 46 ∷ 48 ∷ 49 ∷ []

-- 0.00
abbrev pub no_kopecks : List ℕ
no_kopecks = 48 ∷ 46 ∷ 48 ∷ 48 ∷ []

-- 10.
abbrev pub point_alone : List ℕ
point_alone = 49 ∷ 48 ∷ 46 ∷ []

-- 10.125
abbrev pub three_decimals : List ℕ
three_decimals = 49 ∷ 48 ∷ 46 ∷ 49 ∷ 50 ∷ 53 ∷ []

-- 7.5
abbrev pub one_decimal : List ℕ
one_decimal = 55 ∷ 46 ∷ 53 ∷ []

pub k4 : (amount_read one_kopeck ≡ Some 1) × (amount_fault (amount_read no_kopecks) ≡ 3) × (amount_fault (amount_read point_alone) ≡ 3)
    × (amount_fault (amount_read three_decimals) ≡ 3) × (amount_read one_decimal ≡ Some 750)
unfolding every find digits_read kopecks_after amount_read
k4 = (refl, refl, refl, refl, refl)

-- 999999999999999
abbrev pub receipt_most : List ℕ
receipt_most = 57 ∷ 57 ∷ 57 ∷ 57 ∷ 57 ∷ 57 ∷ 57 ∷ 57 ∷ 57 ∷ 57 ∷ 57 ∷ 57 ∷ 57 ∷ 57 ∷ 57 ∷ []

-- 9999999999999999
abbrev pub receipt_long : List ℕ
receipt_long = 57 ∷ 57 ∷ 57 ∷ 57 ∷ 57 ∷ 57 ∷ 57 ∷ 57 ∷ 57 ∷ 57 ∷ 57 ∷ 57 ∷ 57 ∷ 57 ∷ 57 ∷ 57 ∷ []

-- 0
abbrev pub receipt_zero : List ℕ
receipt_zero = 48 ∷ []

pub k5 : (receipt_read receipt_most ≡ Some 999999999999999) × (receipt_fault (receipt_read receipt_long) ≡ 4) × (receipt_fault (receipt_read receipt_zero) ≡ 4)
unfolding every digits_read range_read
k5 = (refl, refl, refl)

-- 2024-02-29T00:00:00
abbrev pub leap_date : List ℕ
leap_date = 50 ∷ 48 ∷ 50 ∷ 52 ∷ 45 ∷ 48 ∷ 50 ∷ 45 ∷ 50 ∷ 57 ∷ 84 ∷ 48 ∷ 48 ∷ 58 ∷ 48 ∷ 48 ∷ 58 ∷ 48 ∷ 48 ∷ []

-- 2023-02-29T00:00:00
abbrev pub no_leap_date : List ℕ
no_leap_date = 50 ∷ 48 ∷ 50 ∷ 51 ∷ 45 ∷ 48 ∷ 50 ∷ 45 ∷ 50 ∷ 57 ∷ 84 ∷ 48 ∷ 48 ∷ 58 ∷ 48 ∷ 48 ∷ 58 ∷ 48 ∷ 48 ∷ []

pub k6 : (date_fault (date_read leap_date) ≡ 0) × (date_read leap_date ≡ Some leap_date) × (date_fault (date_read no_leap_date) ≡ 5)
unfolding leap_year days_in is_date day_of two_digits day_part clock_time date_day date_read
k6 = (refl, refl, refl)
