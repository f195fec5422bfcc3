-- Document 01, "Requests": url coding.
use Rattle.std.specs.Prelude.{ℕ, ◌+◌, ◌-◌, ◌*◌, ◌/◌, ◌%◌, List, [], ◌∷◌, ◌++◌, Bool, true, cond, not, ◌&&◌, ◌||◌, length, leb, ltb, eqb}
use Rattle.texts.specs.Digits.{within}
use Rattle.texts.specs.Lists.{over}

-- what a byte holds
abbrev pub is_byte : ℕ → Bool
is_byte b = ltb b 256

-- ---- decoding
-- 0 to 9, A to F, a to f
unfoldable pub is_hex : ℕ → Bool
is_hex b = within 48 57 b || (within 65 70 b || within 97 102 b)

-- the value of a hexadecimal digit; of any other byte 0
unfoldable pub hex_value : ℕ → ℕ
hex_value b = cond (within 48 57 b) (b - 48) (cond (within 65 70 b) (b - 55) (cond (within 97 102 b) (b - 87) 0))

-- whether each % (37) has two hexadecimal digits behind it
unfoldable pub well_coded : List ℕ → Bool
well_coded [] = true
well_coded (b ∷ []) = not (eqb b 37)
well_coded (b ∷ (h ∷ [])) = not (eqb b 37) && not (eqb h 37)
well_coded (b ∷ (h ∷ (l ∷ s))) = cond (eqb b 37) (is_hex h && (is_hex l && well_coded s)) (well_coded (h ∷ (l ∷ s)))

-- the bytes that a well coded text stands for; every byte but % stands for itself
unfoldable pub decoded : List ℕ → List ℕ
decoded [] = []
decoded (b ∷ []) = b ∷ []
decoded (b ∷ (h ∷ [])) = b ∷ (h ∷ [])
decoded (b ∷ (h ∷ (l ∷ s))) = cond (eqb b 37) ((hex_value h * 16 + hex_value l) ∷ decoded s) (b ∷ decoded (h ∷ (l ∷ s)))

-- decoding into a lent buffer, which has to have room for the coded text: what it then holds, and how many bytes
unfoldable pub decoded_into : List ℕ → List ℕ → List ℕ
decoded_into d s = cond (leb (length s) (length d)) (over d 0 (decoded s)) d

unfoldable pub decoded_count : List ℕ → List ℕ → ℕ
decoded_count d s = cond (leb (length s) (length d)) (length (decoded s)) 0

-- the same where the text is only read: nothing without the room
unfoldable pub decoded_within : ℕ → List ℕ → List ℕ
decoded_within room s = cond (leb (length s) room) (decoded s) []

-- ---- coding
-- A to Z, a to z, digits, - . :
unfoldable pub is_plain : ℕ → Bool
is_plain b = within 65 90 b || (within 97 122 b || (within 48 58 b || within 45 46 b))

-- the capital hexadecimal digit of a value below 16
abbrev pub hex_digit : ℕ → ℕ
hex_digit v = cond (ltb v 10) (48 + v) (55 + v)

unfoldable pub coded_byte : ℕ → List ℕ
coded_byte b = cond (is_plain b) (b ∷ []) (37 ∷ (hex_digit (b / 16) ∷ (hex_digit (b % 16) ∷ [])))

unfoldable pub coded : List ℕ → List ℕ
coded [] = []
coded (b ∷ s) = coded_byte b ++ coded s
