-- Texts written one after the other at a cursor: what the buffer then holds, and where the cursor is. Cited by inner contracts only: it needs no belief.
use Rattle.std.specs.Prelude.{ℕ, List, [], ◌∷◌, ◌++◌}
use Rattle.texts.specs.Lists.{written, cursor_after}

unfoldable pub buffer_all : List (List ℕ) → List ℕ → ℕ → List ℕ
buffer_all [] d at = d
buffer_all (xs ∷ xss) d at = buffer_all xss (written d at xs) (cursor_after d at xs)

unfoldable pub cursor_all : List (List ℕ) → List ℕ → ℕ → ℕ
cursor_all [] d at = at
cursor_all (xs ∷ xss) d at = cursor_all xss (written d at xs) (cursor_after d at xs)

-- all the texts as one
unfoldable pub joined : List (List ℕ) → List ℕ
joined [] = []
joined (xs ∷ xss) = xs ++ joined xss
