-- Document 01, "Requests": where a request's parameters stand, and their pieces.
use Rattle.std.specs.Prelude.{ℕ, suc, List, [], ◌∷◌, Bool, cond, length, take, drop, eqb, ltb}
use Rattle.coding.specs.declared.params.Method.{Method}
use Rattle.coding.specs.declared.params.Method.TheVariants.{Get, Post}
use Rattle.texts.specs.Lists.{find}

-- a GET gives what follows the first ? (63) of its target, a POST its body
unfoldable pub param_part : Method → List ℕ → List ℕ → List ℕ
param_part Get target body = drop (suc (find 63 target)) target
param_part Post target body = body

-- a byte put before the first piece
abbrev pub longer : ℕ → List (List ℕ) → List (List ℕ)
longer b [] = (b ∷ []) ∷ []
longer b (p ∷ ps) = (b ∷ p) ∷ ps

-- a text split at each separator; a text with none is one piece
unfoldable pub split_at : ℕ → List ℕ → List (List ℕ)
split_at c [] = [] ∷ []
split_at c (b ∷ s) = cond (eqb b c) ([] ∷ split_at c s) (longer b (split_at c s))

-- the pieces of the parameters stand between & (38)
abbrev pub pieces : List ℕ → List (List ℕ)
pieces s = split_at 38 s

-- a piece is a name and a value around its first = (61)
abbrev pub has_value : List ℕ → Bool
has_value p = ltb (find 61 p) (length p)

abbrev pub name_of : List ℕ → List ℕ
name_of p = take (find 61 p) p

abbrev pub value_of : List ℕ → List ℕ
value_of p = drop (suc (find 61 p)) p
