-- Lists of bytes: a test of every byte, the first place of one, equality, and a text written into a lent buffer.
use Rattle.std.specs.Prelude.{ℕ, suc, ◌+◌, List, [], ◌∷◌, ◌++◌, Bool, true, false, cond, ◌&&◌, length, take, drop, leb, eqb}

-- whether each byte passes a test
unfoldable pub every : (ℕ → Bool) → List ℕ → Bool
every p [] = true
every p (b ∷ s) = p b && every p s

-- the index of the first b, or the length where there is none
unfoldable pub find : ℕ → List ℕ → ℕ
find b [] = 0
find b (x ∷ s) = cond (eqb x b) 0 (suc (find b s))

-- whether two lists are equal
unfoldable pub eq_list : List ℕ → List ℕ → Bool
eq_list [] [] = true
eq_list [] (y ∷ t) = false
eq_list (x ∷ s) [] = false
eq_list (x ∷ s) (y ∷ t) = eqb x y && eq_list s t

-- d with xs written over it from `at` on
abbrev pub over : List ℕ → ℕ → List ℕ → List ℕ
over d at xs = take at d ++ (xs ++ drop (at + length xs) d)

-- whether xs has room in d from `at` on
abbrev pub room : List ℕ → ℕ → List ℕ → Bool
room d at xs = leb (at + length xs) (length d)

-- what a lent buffer d holds once a writer has put the text xs at the cursor `at`: a text without room is not written at all
unfoldable pub written : List ℕ → ℕ → List ℕ → List ℕ
written d at xs = cond (room d at xs) (over d at xs) d

-- the cursor that the writer hands back: behind the text, or where it was
unfoldable pub cursor_after : List ℕ → ℕ → List ℕ → ℕ
cursor_after d at xs = cond (room d at xs) (at + length xs) at
