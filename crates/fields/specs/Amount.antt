-- Document 01, "Fields": amounts, in kopecks.
use Rattle.std.specs.Prelude.{ℕ, ◌+◌, ◌*◌, ◌/◌, ◌%◌, List, [], ◌∷◌, ◌++◌, Bool, true, false, cond, length, take, drop, eqb, Option, Some, None}
use Rattle.texts.specs.Lists.{find}
use Rattle.texts.specs.Digits.{digits_read, within, fault_of, fixed, decimal}

-- kopecks of one payment or draw
abbrev pub is_amount : ℕ → Bool
is_amount = within 1 999999999

-- one digit after the point stands for tens of kopecks
abbrev pub tenfold : Option ℕ → Bool → Option ℕ
tenfold None t = None
tenfold (Some v) true = Some (v * 10)
tenfold (Some v) false = Some v

-- the kopecks of the one or two digits after the point
unfoldable pub kopecks_after : List ℕ → Option ℕ
kopecks_after f = tenfold (digits_read 2 f) (eqb (length f) 1)

-- the kopecks of what stands from the point on, or of nothing
abbrev pub kopecks_from : List ℕ → Option ℕ
kopecks_from [] = Some 0
kopecks_from (p ∷ f) = kopecks_after f

abbrev pub amount_of : Option ℕ → Option ℕ → Option ℕ
amount_of None f = None
amount_of (Some w) None = None
amount_of (Some w) (Some v) = cond (eqb (w * 100 + v) 0) None (Some (w * 100 + v))

-- roubles in at most 7 digits, and kopecks in one or two behind a point (46), or none; 0 is no amount
unfoldable pub amount_read : List ℕ → Option ℕ
amount_read s = amount_of (digits_read 7 (take (find 46 s) s)) (kopecks_from (drop (find 46 s) s))

-- its number where it is malformed
abbrev pub amount_fault : Option ℕ → ℕ
amount_fault d = fault_of 3 d

-- an amount as writers give it, with two decimals
unfoldable pub amount_bytes : ℕ → List ℕ
amount_bytes k = decimal (k / 100) ++ (46 ∷ fixed 2 (k % 100))
