-- The escapes of a line: \t, \r, \n, \\ and \xHH give a byte; another backslash (92) is itself.
use Rattle.std.specs.Prelude.{ℕ, zero, suc, ◌+◌, ◌-◌, ◌*◌, List, [], ◌∷◌, cond, ◌&&◌, eqb, leb, length, get_or}
use Rattle.texts.specs.Lists.{over}
use Rattle.coding.specs.Url.{is_hex, hex_value}
use Rattle.vectors.specs.declared.escape.Unit.{Unit}

-- a byte that so many bytes give
abbrev pub gives : ℕ → ℕ → Unit
gives b n = record { byte = b; width = n }

unfoldable pub hex_unit : ℕ → ℕ → Unit
hex_unit h l = cond (is_hex h && is_hex l) (gives (hex_value h * 16 + hex_value l) 4) (gives 92 1)

-- behind a backslash: t, r, n, another one, x
unfoldable pub escaped : ℕ → ℕ → ℕ → Unit
escaped c h l =
    cond (eqb c 116) (gives 9 2) (cond (eqb c 114) (gives 13 2) (cond (eqb c 110) (gives 10 2) (cond (eqb c 92) (gives 92 2) (cond (eqb c 120) (hex_unit h l) (gives 92 1)))))

-- what the first of four bytes gives
unfoldable pub unit_of : ℕ → ℕ → ℕ → ℕ → Unit
unit_of b c h l = cond (eqb b 92) (escaped c h l) (gives b 1)

-- what the byte at i of a text gives; 0 stands for each byte past its end
unfoldable pub unit_in : List ℕ → ℕ → Unit
unit_in s i = unit_of (get_or s i 0) (get_or s (i + 1) 0) (get_or s (i + 2) 0) (get_or s (i + 3) 0)

abbrev pub unit_at : ℕ → List ℕ → Unit
unit_at b s = unit_of b (get_or s 0 0) (get_or s 1 0) (get_or s 2 0)

-- the bytes that a text gives, once k more are passed
unfoldable pub unescaped_from : ℕ → List ℕ → List ℕ
unescaped_from zero [] = []
unescaped_from (suc k) [] = []
unescaped_from (suc k) (b ∷ s) = unescaped_from k s
unescaped_from zero (b ∷ s) = (unit_at b s).byte ∷ unescaped_from ((unit_at b s).width - 1) s

abbrev pub unescaped : List ℕ → List ℕ
unescaped s = unescaped_from 0 s

-- decoding into a lent buffer, which has to have room for the escaped text: what it then holds, and how many bytes
unfoldable pub unescaped_into : List ℕ → List ℕ → List ℕ
unescaped_into d s = cond (leb (length s) (length d)) (over d 0 (unescaped s)) d

unfoldable pub unescaped_count : List ℕ → List ℕ → ℕ
unescaped_count d s = cond (leb (length s) (length d)) (length (unescaped s)) 0
