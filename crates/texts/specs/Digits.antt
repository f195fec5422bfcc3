-- Document 01, "Fields": digit fields, held by value, over any width.
use Rattle.std.specs.Prelude.{ℕ, zero, suc, ◌+◌, ◌-◌, ◌*◌, ◌/◌, ◌%◌, ◌^◌, List, [], ◌∷◌, ◌++◌, Bool, cond, ◌&&◌, length, drop, ltb, leb, eqb, Option, Some, None}
use Rattle.texts.specs.Lists.{every}

-- 48 to 57 are the digits 0 to 9
abbrev pub is_digit : ℕ → Bool
is_digit b = leb 48 b && leb b 57

-- the value of the digits of s after a value `before`
abbrev pub value_after : ℕ → List ℕ → ℕ
value_after before [] = before
value_after before (b ∷ s) = value_after (before * 10 + (b - 48)) s

-- 1 to `most` digits whose value fits 64 bits; leading zeros are read
unfoldable pub digits_read : ℕ → List ℕ → Option ℕ
digits_read most s =
    cond (leb 1 (length s) && (leb (length s) most && (every is_digit s && ltb (value_after 0 s) (2 ^ 64)))) (Some (value_after 0 s)) None

-- whether a value lies from low to high
abbrev pub within : ℕ → ℕ → ℕ → Bool
within low high v = leb low v && leb v high

abbrev pub bounded : ℕ → ℕ → Option ℕ → Option ℕ
bounded low high None = None
bounded low high (Some v) = cond (within low high v) (Some v) None

-- 1 to `most` digits whose value lies from low to high
unfoldable pub range_read : ℕ → ℕ → ℕ → List ℕ → Option ℕ
range_read most low high s = bounded low high (digits_read most s)

-- the fault number of a field whose own is `code`: 0 where it holds a value
abbrev pub fault_of : ℕ → Option ℕ → ℕ
fault_of code None = code
fault_of code (Some v) = 0

-- the k low digits of n, highest first
unfoldable pub fixed : ℕ → ℕ → List ℕ
fixed zero n = []
fixed (suc k) n = fixed k (n / 10) ++ ((48 + n % 10) ∷ [])

-- how many zeros lead, at least one digit kept
abbrev pub lead_zeros : List ℕ → ℕ
lead_zeros [] = 0
lead_zeros (b ∷ []) = 0
lead_zeros (b ∷ (c ∷ s)) = cond (eqb b 48) (suc (lead_zeros (c ∷ s))) 0

abbrev pub drop_zeros : List ℕ → List ℕ
drop_zeros s = drop (lead_zeros s) s

-- a number as writers give it, without leading zeros
unfoldable pub decimal : ℕ → List ℕ
decimal n = drop_zeros (fixed 20 n)
