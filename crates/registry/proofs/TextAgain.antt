-- The text of a list of lines: how long it is, and that it is a good registry which holds these lines.
use Rattle.std.specs.Prelude.{Some}
use Prim.Native.Nat.{ℕ, suc, ◌+◌, ◌*◌, ◌≤◌, ◌<◌}
use native.Mathlib.Nat.{le_refl}
use native.Mathlib.Omega.{arith}
use mathlib.Core.Path.{◌≡◌, refl, ap, ◌∙◌}
use mathlib.Core.List.{List, [], ◌∷◌, ◌++◌, append_assoc, map}
use mathlib.Core.Bool.{true, ◌&&◌}
use lib.Dec.{ltb, eqb}
use lib.ListN.{length, take, drop, length-append}
use lib.Seq.{take-append_seam, drop-append-add}
use borrow.Author.Tests.{le-leb, not-true}
use Rattle.days.specs.declared.calendar.Day.{Day}
use Rattle.texts.specs.Lists.{every}
use Rattle.days.specs.Calendar.{on_day}
use Rattle.dates.specs.Date.{date_day}
use Rattle.texts.proofs.Tests.{both}
use Rattle.lines.specs.declared.line.Line.{Line}
use Rattle.lines.specs.Line.{is_line, line_read, line_body, line_bytes, line_again}
use Rattle.registry.specs.Registry.{line_end, split_lines, count_of, line_count, good_line, good_lines, held_lines, registry_lines, rising, registry_fault, registry_bytes}
use Rattle.registry.specs.Registry.{line_on, every_line}
use Rattle.lines.proofs.LineParts.{line-length}
use Rattle.lines.proofs.LineAgain.{other, body-other, line-again}
use Rattle.registry.proofs.SplitLaws.{held-line, count-line, good-line}

-- what the test of a day's line says
pub record LineOn (day : Day) (x : Line) : Type 0 where
  pub good : is_line x ≡ true
  pub on : on_day day (date_day x.date) ≡ true

pub line-on : (day : Day) (x : Line) → line_on day x ≡ true → LineOn day x
unfolding line_on
line-on day x h =
    let b = both (is_line x) _ h in
    record { good = b.0; on = b.1 }

pub on_line : (day : Day) (x : Line) → LineOn day x → line_on day x ≡ true
unfolding line_on
on_line day x h = rw (h.good, h.on)

pub every-line : (day : Day) (x : Line) (xs : List Line) → every_line day (x ∷ xs) ≡ true → (LineOn day x) × (every_line day xs ≡ true)
unfolding every_line
every-line day x xs h = let p = both (line_on day x) (every_line day xs) h in (line-on day x p.0, p.1)

-- ---- how long it is
pub registry-length : (day : Day) (xs : List Line) → every_line day xs ≡ true → length (registry_bytes xs) ≤ 83 * length xs
unfolding registry_bytes
registry-length day [] h = le_refl 0
registry-length day (x ∷ xs) h =
    let p = every-line day x xs h in
    rw length-append (omega (arith, line-length x p.0.good, registry-length day xs p.1))

-- so every registry has room in 65,536 bytes
pub registry-room : (day : Day) (xs : List Line) → every_line day xs ≡ true → length xs ≤ 512 → length (registry_bytes xs) ≤ 65536
registry-room day xs h l = omega (arith, registry-length day xs h)

-- ---- the end of a text without a 0D
end-behind : (xs ys : List ℕ) → every (other 13) xs ≡ true → line_end (xs ++ (13 ∷ (10 ∷ ys))) ≡ length xs
unfolding line_end every
end-behind [] ys h = refl
end-behind (x ∷ []) ys h = let p = both (other 13 x) true h in rw (not-true (eqb x 13) p.0)
end-behind (x ∷ (y ∷ xs)) ys h =
    let p = both (other 13 x) (every (other 13) (y ∷ xs)) h in
    rw (not-true (eqb x 13) p.0, end-behind (y ∷ xs) ys p.1)

-- ---- a line before other bytes
module _ (day : Day) (x : Line) (ok : LineOn day x) (ys : List ℕ) where
  seam : line_bytes x ++ ys ≡ line_body x ++ (13 ∷ (10 ∷ ys))
  unfolding line_bytes
  seam = append_assoc (line_body x) (13 ∷ (10 ∷ [])) ys

  ends : line_end (line_bytes x ++ ys) ≡ length (line_body x)
  ends = rw seam (end-behind (line_body x) ys (body-other x ok.good))

  ended : line_end (line_bytes x ++ ys) < length (line_bytes x ++ ys)
  ended = rw (ends, seam, length-append) (omega arith)

  first : take (line_end (line_bytes x ++ ys)) (line_bytes x ++ ys) ≡ line_body x
  first = rw (ends, seam) (take-append_seam (line_body x) (13 ∷ (10 ∷ ys)))

  rest : drop (line_end (line_bytes x ++ ys) + 2) (line_bytes x ++ ys) ≡ ys
  rest = rw (ends, seam) (drop-append-add (line_body x) (13 ∷ (10 ∷ ys)) 2)

  read : line_read (line_body x) ≡ Some (line_again x)
  read = line-again x ok.good

  held_first : registry_lines (line_bytes x ++ ys) ≡ line_again x ∷ registry_lines ys
  unfolding registry_lines
  held_first = held-line (line_bytes x ++ ys) ended ∙ rw (first, rest, read)

  count-first : line_count (line_bytes x ++ ys) ≡ suc (line_count ys)
  count-first = count-line (line_bytes x ++ ys) ended ∙ rw rest

  good-first : good_lines day (split_lines (line_bytes x ++ ys)) ≡ good_lines day (split_lines ys)
  unfolding good_line line_again
  good-first = good-line day (line_bytes x ++ ys) ended ∙ rw (first, rest, read, ok.on)

-- ---- the lines of a day
module _ (day : Day) where
  pub lines-again : (xs : List Line) → every_line day xs ≡ true → registry_lines (registry_bytes xs) ≡ map line_again xs
  unfolding registry_bytes registry_lines held_lines split_lines
  lines-again [] h = refl
  lines-again (x ∷ xs) h = let p = every-line day x xs h in held_first day x p.0 (registry_bytes xs) ∙ rw (lines-again xs p.1)

  count-again : (xs : List Line) → every_line day xs ≡ true → line_count (registry_bytes xs) ≡ length xs
  unfolding registry_bytes line_count count_of split_lines
  count-again [] h = refl
  count-again (x ∷ xs) h = let p = every-line day x xs h in count-first day x p.0 (registry_bytes xs) ∙ ap suc (count-again xs p.1)

  good-again : (xs : List Line) → every_line day xs ≡ true → good_lines day (split_lines (registry_bytes xs)) ≡ true
  unfolding registry_bytes good_lines split_lines
  good-again [] h = refl
  good-again (x ∷ xs) h = let p = every-line day x xs h in good-first day x p.0 (registry_bytes xs) ∙ good-again xs p.1

rise-again : (n : ℕ) (xs : List Line) → rising n (map line_again xs) ≡ rising n xs
unfolding rising line_again
rise-again n [] = refl
rise-again n (x ∷ xs) = ap (λ t. ltb n x.receipt && t) (rise-again x.receipt xs)

pub registry-again : (day : Day) (xs : List Line) → every_line day xs ≡ true → rising 0 xs ≡ true → length xs ≤ 512 → registry_fault day (registry_bytes xs) ≡ 0
unfolding registry_fault
registry-again day xs h r l =
    rw (count-again day xs h, le-leb (length xs) 512 l, good-again day xs h, lines-again day xs h, rise-again 0 xs, r)
