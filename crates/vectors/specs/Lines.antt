-- The input of a program of vectors: headings, and words by their place.
use Rattle.std.specs.Prelude.{ℕ, suc, List, [], ◌∷◌, Bool, true, cond, eqb}
use Rattle.texts.specs.Lists.{eq_list}
use Rattle.coding.specs.Params.{split_at}

-- a line that is empty, or begins with # (35)
unfoldable pub is_heading : List ℕ → Bool
is_heading [] = true
is_heading (b ∷ s) = eqb b 35

-- words that one space splits
abbrev pub spaced : List ℕ → List (List ℕ)
spaced s = split_at 32 s

-- the place of the first that is w, or their number
unfoldable pub place_of : List ℕ → List (List ℕ) → ℕ
place_of w [] = 0
place_of w (x ∷ xs) = cond (eq_list x w) 0 (suc (place_of w xs))
