-- Tests that are joined, and values that a test picks.
use Prim.Native.Nat.{ℕ, ◌≤◌}
use native.Mathlib.Omega.{arith}
use mathlib.Core.Path.{◌≡◌, refl, sym}
use mathlib.Core.Bool.{Bool, true, false, cond, ◌&&◌, ◌||◌}

-- a test that failed shows nothing
pub no-claim : {A : Type 0} → false ≡ true → A
no-claim e = let z : ◌≡◌ {A = ℕ} 0 1 = cc in absurd (omega arith)

-- two tests that hold of the same are one
pub same_bool : (a b : Bool) → (a ≡ true → b ≡ true) → (b ≡ true → a ≡ true) → a ≡ b
same_bool true b f g = sym (f refl)
same_bool false true f g = g refl
same_bool false false f g = refl

pub and_left : (t u : Bool) → t && u ≡ true → t ≡ true
and_left true u h = refl
and_left false u h = h

pub and_right : (t u : Bool) → t && u ≡ true → u ≡ true
and_right true u h = h
and_right false u h = no-claim h

pub both : (t u : Bool) → t && u ≡ true → (t ≡ true) × (u ≡ true)
both t u h = (and_left t u h, and_right t u h)

-- two tests that hold
pub and_both : (t u : Bool) → t ≡ true → u ≡ true → t && u ≡ true
and_both t u p q = rw (p, q)

pub and_then : (t : Bool) {u w : Bool} → (u ≡ true → w ≡ true) → t && u ≡ true → t && w ≡ true
and_then true f k = f k
and_then false f k = k

-- what each of two tests shows, one that either passes shows
pub or_elim : {P : Type 0} (t u : Bool) → (t ≡ true → P) → (u ≡ true → P) → t || u ≡ true → P
or_elim true u f g h = f refl
or_elim false u f g h = g h

-- what is picked has a property that both choices have
pub cond-elim : {A : Type 0} (P : A → Type 0) (t : Bool) (a b : A) → (t ≡ true → P a) → (t ≡ false → P b) → P (cond t a b)
cond-elim P true a b f g = f refl
cond-elim P false a b f g = g refl

pub cond-le : (t : Bool) {a b n : ℕ} → a ≤ n → b ≤ n → cond t a b ≤ n
cond-le true p q = p
cond-le false p q = q

-- both ways of a test
pub by-test : {P : Type 0} (t : Bool) → (t ≡ true → P) → (t ≡ false → P) → P
by-test true f g = f refl
by-test false f g = g refl
