-- Document 01, "Registry" and row 65: a report, one byte a line, `1` (49) or `0` (48).
use Rattle.std.specs.Prelude.{ℕ, List, Bool, ◌&&◌, ◌||◌, length, eqb}
use Rattle.texts.specs.Lists.{every}

abbrev pub is_mark : ℕ → Bool
is_mark b = eqb b 48 || eqb b 49

-- a report of n lines
unfoldable pub is_report : ℕ → List ℕ → Bool
is_report n s = eqb (length s) n && every is_mark s
