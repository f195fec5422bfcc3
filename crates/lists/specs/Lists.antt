-- Lists at any element type: a list by its places, the first element that fits, a test of every element at its place.
use Rattle.std.specs.Prelude.{Bool, true, false, cond, ◌&&◌, List, [], ◌∷◌, ◌++◌, ℕ, zero, suc, ◌+◌, Option, Some, None}

-- f 0, f 1, .. f (n - 1)
unfoldable pub tab : {A : Type 0} → ℕ → (ℕ → A) → List A
tab zero f = []
tab (suc n) f = tab n f ++ (f n ∷ [])

-- the place of the first element that fits, counted from i
unfoldable pub first_from : {A : Type 0} → (A → Bool) → ℕ → List A → Option ℕ
first_from p i [] = None
first_from p i (y ∷ ys) = cond (p y) (Some i) (first_from p (i + 1) ys)

abbrev pub is_found : Option ℕ → Bool
is_found (Some i) = true
is_found None = false

-- whether a test holds of each element at its place, counted from i
unfoldable pub all_from : {A : Type 0} → (ℕ → A → Bool) → ℕ → List A → Bool
all_from p i [] = true
all_from p i (y ∷ ys) = p i y && all_from p (i + 1) ys
