-- Laws of the report.
use Rattle.std.specs.Prelude.{Option}
use Prim.Native.Nat.{ℕ, ◌+◌, ◌≤◌, ◌<◌}
use native.Mathlib.Omega.{arith}
use mathlib.Core.Path.{◌≡◌, refl, sym, ap, ◌∙◌}
use mathlib.Core.Bool.{Bool, cond}
use mathlib.Core.List.{List}
use lib.ListN.{length, get_or, drop, set, drop_of_length-le}
use Rattle.texts.specs.Lists.{over}
use Rattle.texts.proofs.OutLaws.{over-step, over_none}
use Rattle.lines.specs.declared.line.Line.{Line}
use Rattle.table.specs.declared.Record.{Record}
use Rattle.lists.specs.Lists.{first_from, is_found}
use Rattle.index.proofs.WalkLaws.{found-any}
use Rattle.posting.specs.declared.lookup.Sought.TheVariants.{MatchedDone}
use Rattle.posting.specs.Lookup.{fits}
use Rattle.clearing.specs.Clearing.{any_done, report_of}
use Rattle.line_rows.specs.Lines.{no_line}
use Rattle.line_rows.proofs.ReadLaws.{next-line}

-- ---- a line that matches a done record
pub done-found : (x : Line) (rs : List Record) (f : Option ℕ) → f ≡ first_from (fits MatchedDone x) 0 rs → (b : Bool) → b ≡ is_found f → b ≡ any_done x rs
unfolding any_done
done-found x rs f e b eb = eb ∙ ap is_found e ∙ found-any (fits MatchedDone x) (any_done x) refl (λ r l. refl) 0 rs

-- ---- a loop that has written the bytes of i lines
module _ (xs : List Line) (rs : List Record) (d₀ d : List ℕ) (i : ℕ) (left : over d₀ 0 (report_of xs rs) ≡ over d i (report_of (drop i xs) rs)) where
  pub report-end : length xs ≤ i → d ≡ over d₀ 0 (report_of xs rs)
  unfolding report_of
  report-end h = sym (left ∙ rw (drop_of_length-le xs h) (over_none d i))

  pub report-on : i < length xs → length xs ≤ length d → (y : Bool) → y ≡ any_done (get_or xs i no_line) rs → (b : ℕ) → b ≡ cond y 49 48
      → over d₀ 0 (report_of xs rs) ≡ over (set d i b) (i + 1) (report_of (drop (i + 1) xs) rs)
  unfolding report_of
  report-on h room y ey b eb =
      let p : i < length d = omega arith in
      left ∙ rw (next-line xs i (get_or xs i no_line) refl h, ← ey, ← eb) (over-step d i b (report_of (drop (i + 1) xs) rs) p)
