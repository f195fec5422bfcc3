-- Laws of the count of lines and of the check of a registry, at each way out.
use Rattle.std.specs.Prelude.{Some, None}
use Prim.Native.Nat.{ℕ, suc, ◌+◌, ◌-◌, ◌≤◌, ◌<◌}
use native.Mathlib.Omega.{arith}
use mathlib.Core.Path.{◌≡◌, refl, sym, ◌∙◌}
use mathlib.Core.List.{List}
use mathlib.Core.Bool.{Bool, true, false, cond, ◌&&◌, and_assoc, and-true}
use lib.Dec.{ltb, leb}
use lib.ListN.{length, take, drop, length-drop, drop_of_length-le}
use lib.Seq.{drop-drop}
use borrow.Author.Tests.{le-leb, lt-leb, ltb-true, ltb-false}
use Rattle.days.specs.declared.calendar.Day.{Day}
use Rattle.lines.specs.declared.line.Line.{Line}
use Rattle.lines.specs.Line.{line_read, is_read_on}
use Rattle.lines.specs.LineText.{line_read_on}
use Rattle.lines.proofs.LineLaws.{off-read, on_read}
use Rattle.registry.specs.Registry.{line_end, split_lines, count_of, line_count, good_line, good_lines, held_lines, registry_lines, rising, Fault, BadLine, TooMany, fault_code, registry_fault}
use Rattle.registry.proofs.SplitLaws.{end-room, count-line, count-rest, good-line, good-rest, held-line}

-- ---- one line
pub line-here : (s : List ℕ) (at e : ℕ) → e ≡ at + line_end (drop at s) → (t f : List ℕ) → t ≡ drop at s → f ≡ take (e - at) t
    → f ≡ take (line_end (drop at s)) (drop at s)
line-here s at e ends t f et ef =
    let n : e - at ≡ line_end (drop at s) = omega arith in
    ef ∙ rw (et, n)

-- ---- a walk over the lines, at the line that begins at `at` and ends at e
module _ (s : List ℕ) (at e : ℕ) (here : at < length s) (ends : e ≡ at + line_end (drop at s)) where
  some_left : 0 < length (drop at s)
  some_left = rw length-drop (omega arith)

  rest-left : length s ≤ e → length (drop at s) ≤ line_end (drop at s)
  rest-left h = rw length-drop (omega arith)

  pub line-left : e < length s → line_end (drop at s) < length (drop at s)
  line-left h = rw length-drop (omega arith)

  -- the next line begins behind the end
  pub behind : drop (line_end (drop at s) + 2) (drop at s) ≡ drop (e + 2) s
  behind =
      let n : at + (line_end (drop at s) + 2) ≡ e + 2 = omega arith in
      drop-drop (line_end (drop at s) + 2) at s ∙ rw n

  pub next-in : e < length s → e + 2 ≤ length s
  next-in h =
      let r = end-room (drop at s) (line-left h) in
      let q : line_end (drop at s) + 2 ≤ length s - at = rw length-drop at r in
      omega arith

  -- ---- the count
  module _ (n : ℕ) (passed : line_count s ≡ n + line_count (drop at s)) where
    pub count-at-rest : length s ≤ e → n + 1 ≡ line_count s
    count-at-rest h = omega (arith, count-rest (drop at s) some_left (rest-left h))

    pub count-pass : e < length s → line_count s ≡ n + 1 + line_count (drop (e + 2) s)
    count-pass h =
        let c : line_count (drop at s) ≡ suc (line_count (drop (e + 2) s)) = rw (← behind) (count-line (drop at s) (line-left h)) in
        omega arith

  -- ---- the check: every line good, and receipts that rise
  module _ (day : Day) (passed : good_lines day (split_lines s) ≡ good_lines day (split_lines (drop at s))) where
    rest-bad : length s ≤ e → good_lines day (split_lines s) ≡ false
    rest-bad h = passed ∙ good-rest day (drop at s) some_left (rest-left h)

    abbrev own : List ℕ
    own = take (line_end (drop at s)) (drop at s)

    first_good : e < length s → good_lines day (split_lines s) ≡ is_read_on day (line_read own) && good_lines day (split_lines (drop (e + 2) s))
    unfolding good_line
    first_good h = passed ∙ good-line day (drop at s) (line-left h) ∙ rw behind

    pub good-pass : e < length s → (x : Line) → Some x ≡ line_read_on day own → good_lines day (split_lines s) ≡ good_lines day (split_lines (drop (e + 2) s))
    good-pass h x read = let r = on_read day own x read in first_good h ∙ rw (← r.0, r.1)

    line-bad : e < length s → None ≡ line_read_on day own → good_lines day (split_lines s) ≡ false
    line-bad h none = first_good h ∙ rw (off-read day own none)

  pub rise-pass : (rose : Bool) (last : ℕ) → rising 0 (registry_lines s) ≡ rose && rising last (registry_lines (drop at s))
      → (x : Line) → Some x ≡ line_read (take (line_end (drop at s)) (drop at s)) → e < length s
      → (q : Bool) → q ≡ rose && ltb last x.receipt
      → rising 0 (registry_lines s) ≡ q && rising x.receipt (registry_lines (drop (e + 2) s))
  unfolding registry_lines rising
  rise-pass rose last passed x read h q eq = passed ∙ rw (held-line (drop at s) (line-left h), behind, ← read, eq) (sym (and_assoc rose _ _))

some-line : (t : List ℕ) → 0 < length t → 0 < line_count t
some-line t h = go (ltb (line_end t) (length t)) refl
  where
    go : (b : Bool) → ltb (line_end t) (length t) ≡ b → 0 < line_count t
    go true e = omega (arith, count-line t (ltb-true (line_end t) (length t) e))
    go false e = omega (arith, count-rest t h (ltb-false (line_end t) (length t) e))

-- nothing is left
module _ (s : List ℕ) (at : ℕ) (h : length s ≤ at) where
  pub count-end : (n : ℕ) → line_count s ≡ n + line_count (drop at s) → n ≡ line_count s
  unfolding line_count count_of split_lines
  count-end n passed = let z : line_count (drop at s) ≡ 0 = rw (drop_of_length-le s h) in omega arith

  good-end : (day : Day) → good_lines day (split_lines s) ≡ good_lines day (split_lines (drop at s)) → good_lines day (split_lines s) ≡ true
  unfolding good_lines split_lines
  good-end day passed = passed ∙ rw (drop_of_length-le s h)

  rise-end : (rose : Bool) (last : ℕ) → rising 0 (registry_lines s) ≡ rose && rising last (registry_lines (drop at s)) → rising 0 (registry_lines s) ≡ rose
  unfolding registry_lines held_lines split_lines rising
  rise-end rose last passed = passed ∙ rw (drop_of_length-le s h) (and-true rose)

-- ---- the fault
module _ (s : List ℕ) (at n c : ℕ) (few : n ≤ 512) (t : List ℕ) (rest : t ≡ drop at s) (count : c ≡ line_count t) where
  pub behind-many : 512 - n < c → TooMany ≡ cond (leb (n + line_count (drop at s)) 512) BadLine TooMany
  behind-many h = let l : 512 < n + c = omega arith in rw (← rest, ← count, lt-leb (n + c) 512 l)

  pub behind-few : c ≤ 512 - n → BadLine ≡ cond (leb (n + line_count (drop at s)) 512) BadLine TooMany
  behind-few h = let l : n + c ≤ 512 = omega arith in rw (← rest, ← count, le-leb (n + c) 512 l)

module _ (day : Day) (s : List ℕ) (n at : ℕ) (count : line_count s ≡ n + line_count (drop at s)) where
  -- 512 lines and another
  pub too_many : 512 ≤ n → at < length s → (r : Fault) → r ≡ cond (leb (n + line_count (drop at s)) 512) BadLine TooMany → registry_fault day s ≡ fault_code r
  unfolding registry_fault
  too_many h g r q =
      let c = some-line (drop at s) (rw length-drop (omega arith)) in
      let l : 512 < n + line_count (drop at s) = omega arith in
      rw (q, count, lt-leb (n + line_count (drop at s)) 512 l)

  bad : good_lines day (split_lines s) ≡ false → (r : Fault) → r ≡ cond (leb (n + line_count (drop at s)) 512) BadLine TooMany → registry_fault day s ≡ fault_code r
  unfolding registry_fault
  bad g r q = rw (q, ← count, g) (go (leb (line_count s) 512))
    where
      go : (b : Bool) → ◌≡◌ {A = ℕ} (cond b 52 53) (fault_code (cond b BadLine TooMany))
      go true = refl
      go false = refl

  module _ (passed : good_lines day (split_lines s) ≡ good_lines day (split_lines (drop at s))) where
    module _ (e : ℕ) (here : at < length s) (ends : e ≡ at + line_end (drop at s)) where
      pub fault-rest : length s ≤ e → (r : Fault) → r ≡ cond (leb (n + line_count (drop at s)) 512) BadLine TooMany → registry_fault day s ≡ fault_code r
      fault-rest h = bad (rest-bad s at e here ends day passed h)

      pub fault-line : None ≡ line_read_on day (take (line_end (drop at s)) (drop at s)) → e < length s
          → (r : Fault) → r ≡ cond (leb (n + line_count (drop at s)) 512) BadLine TooMany → registry_fault day s ≡ fault_code r
      fault-line none h = bad (line-bad s at e here ends day passed h none)

    pub fault-end : n ≤ 512 → (rose : Bool) (last : ℕ) → rising 0 (registry_lines s) ≡ rose && rising last (registry_lines (drop at s))
        → length s ≤ at → registry_fault day s ≡ cond rose 0 54
    unfolding registry_fault
    fault-end few rose last rises h =
        let l : line_count s ≤ 512 = omega (arith, count-end s at h n count) in
        rw (le-leb (line_count s) 512 l, good-end s at h day passed, rise-end s at h rose last rises)

pub ruleset fault_behind_laws = (behind-many, behind-few)
