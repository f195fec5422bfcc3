-- How the code compares bytes: eight at a time as one word. Cited by inner contracts only: it needs no belief.
use Rattle.std.specs.Prelude.{ℕ, ◌+◌, ◌*◌, ◌/◌, List, [], ◌∷◌, length, take, drop}

-- bytes as one number, the first the lowest
unfoldable pub word_of : List ℕ → ℕ
word_of [] = 0
word_of (b ∷ s) = b + 256 * word_of s

-- the word of eight bytes from a place on
unfoldable pub word_at : List ℕ → ℕ → ℕ
word_at s i = word_of (take 8 (drop i s))

-- the bytes that fill whole words of eight
unfoldable pub whole_words : List ℕ → List ℕ
whole_words s = take (length s / 8 * 8) s
