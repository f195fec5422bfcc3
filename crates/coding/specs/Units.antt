-- What the walk of the code and the laws need: the unit at the head of coded text, how many bytes code a byte, and which bytes coded text has. Cited by inner contracts only: it needs no belief.
-- No public contract cites these.
use Rattle.std.specs.Prelude.{ℕ, ◌+◌, ◌*◌, List, [], ◌∷◌, Bool, cond, not, ◌&&◌, ◌||◌, eqb}
use Rattle.coding.specs.declared.url.Unit.{Unit}
use Rattle.coding.specs.Url.{is_hex, hex_value, is_plain}

-- a byte that stands alone; a % may not
abbrev pub single : ℕ → Unit
single b = record { byte = b; len = 1; good = not (eqb b 37) }

-- a % and two bytes behind it
abbrev pub escape : ℕ → ℕ → Unit
escape h l = record { byte = hex_value h * 16 + hex_value l; len = 3; good = is_hex h && is_hex l }

-- the first unit of a text that is not empty
unfoldable pub unit_of : List ℕ → Unit
unit_of [] = single 0
unit_of (b ∷ []) = single b
unit_of (b ∷ (h ∷ [])) = single b
unit_of (b ∷ (h ∷ (l ∷ s))) = cond (eqb b 37) (escape h l) (single b)

-- how many bytes code a byte
abbrev pub code_size : ℕ → ℕ
code_size b = cond (is_plain b) 1 3

-- the bytes of which coded text is made: plain ones and %
unfoldable pub is_code : ℕ → Bool
is_code b = is_plain b || eqb b 37
