-- Document 01, the session program: the fields of a line.
use Rattle.std.specs.Prelude.{ℕ, suc, List, [], ◌∷◌, Bool, length, take, drop, get_or}
use Rattle.texts.specs.Lists.{find, eq_list}
use Rattle.coding.specs.Params.{split_at}

-- the line that begins at a place of a text ends before the next 0A
unfoldable pub line_at : ℕ → List ℕ → List ℕ
line_at at s = take (find 10 (drop at s)) (drop at s)

-- every space (32) splits
abbrev pub spaced : List ℕ → List (List ℕ)
spaced l = split_at 32 l

abbrev pub field_count : List ℕ → ℕ
field_count l = length (spaced l)

abbrev pub field_at : ℕ → List ℕ → List ℕ
field_at i l = get_or (spaced l) i []

-- a line of this letter
abbrev pub has_letter : ℕ → List ℕ → Bool
has_letter letter l = eq_list (field_at 0 l) (letter ∷ [])

-- the rest of an R behind its second space
abbrev pub after_space : List ℕ → List ℕ
after_space s = drop (suc (find 32 s)) s

abbrev pub params_in : List ℕ → List ℕ
params_in l = after_space (after_space l)
