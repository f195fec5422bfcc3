-- Tests of a byte that go by ranges.
use Prim.Native.Nat.{ℕ, suc, ◌≤◌, ◌<◌}
use native.Mathlib.Omega.{arith}
use mathlib.Core.Path.{◌≡◌, refl}
use mathlib.Core.Bool.{Bool, true, false, cond, ◌||◌, and-false}
use lib.Dec.{leb, ltb}
use borrow.Author.Tests.{le-leb, lt-leb, leb-true, ltb-true}
use Rattle.texts.specs.Digits.{within}

-- ---- a byte in a range, or out of it: what a `match` knows on each way
module _ (low high b : ℕ) where
  pub inside : low ≤ b → b < suc high → true ≡ within low high b
  inside p q = simp (le-leb low b p, le-leb b high (omega arith))

  pub below : (n : ℕ) → b < n → leb n low ≡ true → false ≡ within low high b
  below n p l = let k : n ≤ low = leb-true n low l in simp (lt-leb low b (omega arith))

  pub above : (n : ℕ) → n ≤ b → ltb high n ≡ true → false ≡ within low high b
  above n p l = let k : high < n = ltb-true high n l in simp (lt-leb b high (omega arith), and-false)

-- ---- a test of several ranges, and a value that the first range with the byte picks
pub or-first : (t u : Bool) → true ≡ t → true ≡ t || u
or-first t u e = rw (← e)

pub or-second : (t u : Bool) → true ≡ u → true ≡ t || u
or-second true u e = refl
or-second false u e = e

pub or-none : (t u : Bool) → false ≡ t → false ≡ u → false ≡ t || u
or-none t u e q = rw (← e) q

module _ {A : Type 0} (t : Bool) (x y z : A) where
  pub cond-here : true ≡ t → x ≡ y → x ≡ cond t y z
  cond-here e q = rw (← e) q

  pub cond-next : false ≡ t → x ≡ z → x ≡ cond t y z
  cond-next e q = rw (← e) q
