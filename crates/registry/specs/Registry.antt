-- Document 01, "Registry", and the rows 53, 52 and 54 of "What a fault gives": the text of a registry.
use Rattle.std.specs.Prelude.{ℕ, suc, List, [], ◌∷◌, ◌++◌, Bool, true, false, cond, ◌&&◌, leb, ltb, eqb}
use Rattle.days.specs.declared.calendar.Day.{Day}
use Rattle.days.specs.Calendar.{on_day}
use Rattle.dates.specs.Date.{date_day}
use Rattle.lines.specs.declared.line.Line.{Line}
use Rattle.lines.specs.Line.{line_read, is_read_on, line_or_zeros, line_bytes, is_line}
pub use Rattle.registry.specs.declared.text.Fault.{Fault}
pub use Rattle.registry.specs.declared.text.Fault.TheVariants.{BadLine, TooMany, Unordered}

-- where the first line ends: the index of the first 0D that a 0A follows, or the length
unfoldable pub line_end : List ℕ → ℕ
line_end [] = 0
line_end (b ∷ []) = 1
line_end (b ∷ (c ∷ s)) = cond (eqb b 13 && eqb c 10) 0 (suc (line_end (c ∷ s)))

-- a byte put before the first of some texts
abbrev pub onto : ℕ → List (List ℕ) → List (List ℕ)
onto b [] = (b ∷ []) ∷ []
onto b (l ∷ ls) = (b ∷ l) ∷ ls

-- the lines that are ended by 0D 0A, and at last the rest that is not, which may be empty
unfoldable pub split_lines : List ℕ → List (List ℕ)
split_lines [] = [] ∷ []
split_lines (b ∷ []) = (b ∷ []) ∷ []
split_lines (b ∷ (c ∷ s)) = cond (eqb b 13 && eqb c 10) ([] ∷ split_lines s) (onto b (split_lines (c ∷ s)))

-- how many lines: an unended rest counts as one
unfoldable pub count_of : List (List ℕ) → ℕ
count_of [] = 0
count_of ([] ∷ []) = 0
count_of ((b ∷ l) ∷ []) = 1
count_of (l ∷ (m ∷ ls)) = suc (count_of (m ∷ ls))

unfoldable pub line_count : List ℕ → ℕ
line_count s = count_of (split_lines s)

-- a line is well formed and its date is on the day
unfoldable pub good_line : Day → List ℕ → Bool
good_line day l = is_read_on day (line_read l)

-- every ended line is good, and the rest is empty
unfoldable pub good_lines : Day → List (List ℕ) → Bool
good_lines day [] = true
good_lines day ([] ∷ []) = true
good_lines day ((b ∷ l) ∷ []) = false
good_lines day (l ∷ (m ∷ ls)) = good_line day l && good_lines day (m ∷ ls)

-- what the ended lines hold
unfoldable pub held_lines : List (List ℕ) → List Line
held_lines [] = []
held_lines (l ∷ []) = []
held_lines (l ∷ (m ∷ ls)) = line_or_zeros (line_read l) ∷ held_lines (m ∷ ls)

unfoldable pub registry_lines : List ℕ → List Line
registry_lines s = held_lines (split_lines s)

-- receipts rise strictly
unfoldable pub rising : ℕ → List Line → Bool
rising before [] = true
rising before (x ∷ xs) = ltb before x.receipt && rising x.receipt xs

-- the code of each fault
abbrev pub fault_code : Fault → ℕ
fault_code BadLine = 52
fault_code TooMany = 53
fault_code Unordered = 54

-- 53, then 52 over the whole text, then 54
unfoldable pub registry_fault : Day → List ℕ → ℕ
registry_fault day s =
    cond (leb (line_count s) 512) (cond (good_lines day (split_lines s)) (cond (rising 0 (registry_lines s)) 0 54) 52) 53

-- ---- the text of a list of lines
unfoldable pub registry_bytes : List Line → List ℕ
registry_bytes [] = []
registry_bytes (x ∷ xs) = line_bytes x ++ registry_bytes xs

-- ---- the lists of lines that a registry of the day may hold
unfoldable pub line_on : Day → Line → Bool
line_on day x = is_line x && on_day day (date_day x.date)

unfoldable pub every_line : Day → List Line → Bool
every_line day [] = true
every_line day (x ∷ xs) = line_on day x && every_line day xs
