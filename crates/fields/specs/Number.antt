-- Document 01, "Fields": numbers, which name an account together with a type.
use Rattle.std.specs.Prelude.{ℕ, List, ◌++◌, Bool, cond, ◌&&◌, ◌||◌, length, take, drop, replicate, leb, eqb, Option, Some, None}
use Rattle.fields.specs.declared.number.Number.{Number}
use Rattle.texts.specs.Digits.{within}
use Rattle.texts.specs.Lists.{every, eq_list}

-- the bytes that a number may have: 21 to 7E, A8, B8, C0 to FF
unfoldable pub number_byte : ℕ → Bool
number_byte b = within 33 126 b || (eqb b 168 || (eqb b 184 || within 192 255 b))

-- the bytes that count: those past the length are never looked at
abbrev pub number_text : Number → List ℕ
number_text x = take x.len x.bytes

-- 1 to 30 bytes, held in thirty
unfoldable pub is_number : Number → Bool
is_number x = eqb (length x.bytes) 30 && (leb 1 x.len && (leb x.len 30 && every number_byte (number_text x)))

unfoldable pub is_number_text : List ℕ → Bool
is_number_text s = leb 1 (length s) && (leb (length s) 30 && every number_byte s)

-- s, and zeros up to thirty bytes
abbrev pub padded : List ℕ → List ℕ
padded s = s ++ drop (length s) (replicate 30 0)

abbrev pub number_of : List ℕ → Number
number_of s = record { bytes = padded s; len = length s }

-- what stands in a record that has no number
abbrev pub empty_number : Number
empty_number = record { bytes = replicate 30 0; len = 0 }

unfoldable pub number_read : List ℕ → Option Number
number_read s = cond (is_number_text s) (Some (number_of s)) None

-- its number where it is malformed
abbrev pub number_fault : Option Number → ℕ
number_fault None = 2
number_fault (Some x) = 0

-- the one equality of numbers
unfoldable pub same_number : Number → Number → Bool
same_number x y = eqb x.len y.len && eq_list (number_text x) (number_text y)
