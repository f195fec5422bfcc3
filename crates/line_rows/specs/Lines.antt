-- The lines of a registry once they are read. Cited by inner contracts only: it needs no belief.
use Rattle.std.specs.Prelude.{ℕ, ◌<◌, ◌≤◌, List, [], length, get_or}
use Rattle.lines.specs.declared.line.Line.{Line}

-- what stands past the end of a list of lines
abbrev pub no_line : Line
no_line = record { number = record { bytes = []; len = 0 }; kind = 0; date = []; amount = 0; receipt = 0 }

-- no more lines than a registry may have, with amounts in their range
pub record Read (xs : List Line) : Type 0 where
  pub few : length xs ≤ 512
  pub small : (i : ℕ) → i < length xs → (get_or xs i no_line).amount < 1000000000
