-- Laws of signed numbers of small magnitude.
use mathlib.Core.Path.{◌≡◌}
use mathlib.Core.Bool.{Bool, true, false, cond}
use Prim.Native.Nat.{ℕ, zero, suc, ◌+◌, ◌-◌, ◌^◌, ◌<◌, ◌≤◌}
use native.Mathlib.Omega.{arith}
use lib.Dec.{ltb}
use lib.IntN.{ℤ, pos, negsuc, sub_ℕ, ◌+ℤ◌, ◌-ℤ◌}
use lib.Signed.{mag}
use mir.Syntax.{w64}
use mir.Val.{SFits, to_z, of_z}
use mir.Facts.{to_z-of_z}

pub small : {z : ℤ} → mag z < 2 ^ 63 → SFits w64 z
small h = record { sfits = h }

-- written and read back
pub back : (z : ℤ) → mag z < 2 ^ 63 → to_z w64 (of_z w64 z) ≡ z
back z h = to_z-of_z {w = w64} {z = z} (small {z = z} h)

pub back-pos : (n : ℕ) → n < 2 ^ 63 → to_z w64 n ≡ pos n
back-pos n h = back (pos n) h

mag-sub : (a b : ℕ) → mag (sub_ℕ a b) ≤ a + b
mag-sub a b = pick (ltb a b)
  where
    pick : (t : Bool) → mag (cond t (negsuc (b - suc a)) (pos (a - b))) ≤ a + b
    pick true = omega arith
    pick false = omega arith

pub mag_up : (z : ℤ) (n : ℕ) → mag (z +ℤ pos n) ≤ mag z + n + 1
mag_up (pos a) n = omega arith
mag_up (negsuc a) n = omega (arith, mag-sub n (suc a))

pub mag_down : (z : ℤ) (n : ℕ) → mag (z -ℤ pos n) ≤ mag z + n + 1
mag_down (pos a) zero = omega arith
mag_down (negsuc a) zero = omega (arith, mag-sub 0 (suc a))
mag_down (pos a) (suc n) = omega (arith, mag-sub a (suc n))
mag_down (negsuc a) (suc n) = omega arith
