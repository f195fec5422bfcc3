-- Laws of the lines of a text that are read once.
use Rattle.std.specs.Prelude.{Option, Some, None}
use Prim.Native.Nat.{ℕ, zero, suc, ◌+◌, ◌≤◌, ◌<◌}
use native.Mathlib.Numerals.{add-one}
use native.Mathlib.Nat.{zero-add}
use native.Mathlib.Omega.{arith}
use mathlib.Core.Path.{◌≡◌, refl, sym, ap, ◌∙◌}
use mathlib.Core.Bool.{Bool, true, cond, ◌&&◌}
use mathlib.Core.List.{List, [], ◌∷◌, ◌++◌, append-nil}
use lib.Dec.{ltb, leb}
use lib.ListN.{length, get_or, set, take, drop, length-set, drop_of_length-le}
use lib.Seq.{length-take-le, drop-cons, append_snoc, take-suc-set}
use Rattle.fields.specs.declared.number.Number.{Number}
use Rattle.fields.specs.Amount.{amount_read}
use Rattle.fields.specs.Codes.{receipt_read, kind_read}
use Rattle.fields.specs.Number.{number_read}
use Rattle.fields.proofs.AmountLaws.{amount-within}
use Rattle.texts.proofs.DigitLaws.{within-high}
use Rattle.lines.specs.declared.line.Line.{Line}
use Rattle.lines.specs.Line.{field, after_field, line_of, line_read, line_or_zeros}
use Rattle.lines.specs.declared.line.Found.{Found}
use Rattle.lines.specs.LineText.{line_read_on, line_in, line_found, FoundIn}
use Rattle.lines.proofs.LineLaws.{on_read}
use Rattle.days.specs.declared.calendar.Day.{Day}
use Rattle.dates.specs.Date.{date_read}
use Rattle.registry.specs.Registry.{line_end, split_lines, line_count, held_lines, registry_lines, good_lines, rising, fault_code, registry_fault}
use Rattle.registry.specs.declared.text.Fault.{Fault}
use Rattle.registry.specs.declared.text.Fault.TheVariants.{BadLine, TooMany}
use Rattle.registry.proofs.SplitLaws.{held-line}
use Rattle.registry.proofs.CheckLaws.{line-left, behind, count-pass, good-pass, rise-pass, too_many, fault-rest, fault-line, fault-end}
use Rattle.line_rows.specs.Lines.{no_line, Read}

-- ---- the amount of a line that was read
of-small : (n : Option Number) (k : Option ℕ) (d : Option (List ℕ)) (a r : Option ℕ) → ((v : ℕ) → Some v ≡ a → v < 1000000000) → (line_or_zeros (line_of n k d a r)).amount < 1000000000
of-small None k d a r h = omega arith
of-small (Some n) None d a r h = omega arith
of-small (Some n) (Some k) None a r h = omega arith
of-small (Some n) (Some k) (Some d) None r h = omega arith
of-small (Some n) (Some k) (Some d) (Some a) None h = omega arith
of-small (Some n) (Some k) (Some d) (Some a) (Some r) h = h a refl

line_small : (l : List ℕ) → (line_or_zeros (line_read l)).amount < 1000000000
unfolding line_read
line_small l =
    let s₁ = after_field l in
    let s₂ = after_field s₁ in
    let s₃ = after_field s₂ in
    of-small (number_read (field l)) (kind_read (field s₁)) (date_read (field s₂)) (amount_read (field s₃)) (receipt_read (after_field s₃))
    (λ v q. omega (arith, within-high 1 999999999 v (amount-within (field s₃) v q)))

-- every line of a text has an amount in its range
held_small : (ls : List (List ℕ)) (i : ℕ) (z : Line) → i < length (held_lines ls) → (get_or (held_lines ls) i z).amount < 1000000000
unfolding held_lines
held_small [] i z h = absurd (omega arith)
held_small (l ∷ []) i z h = absurd (omega arith)
held_small (l ∷ (m ∷ ls)) zero z h = line_small l
held_small (l ∷ (m ∷ ls)) (suc i) z h = held_small (m ∷ ls) i z (omega arith)

-- ---- the line that begins at `at` and ends at e
first-line : (s : List ℕ) (at e : ℕ) → at < length s → e ≡ at + line_end (drop at s)
    → (x : Line) → Some x ≡ line_read (take (line_end (drop at s)) (drop at s)) → e < length s
    → registry_lines (drop at s) ≡ x ∷ registry_lines (drop (e + 2) s)
unfolding registry_lines
first-line s at e here ends x read h = held-line (drop at s) (line-left s at e here ends h) ∙ rw (behind s at e here ends, ← read)

none_left : (s : List ℕ) (at : ℕ) → length s ≤ at → registry_lines (drop at s) ≡ []
unfolding registry_lines held_lines split_lines
none_left s at h = rw (drop_of_length-le s h)

-- ---- a walk over lines that were read
pub next-line : (xs : List Line) (i : ℕ) (x : Line) → x ≡ get_or xs i no_line → i < length xs → drop i xs ≡ x ∷ drop (i + 1) xs
next-line xs i x ex h = drop-cons xs i no_line h ∙ rw (← ex, add-one i)

pub read_small : (xs : List Line) → Read xs → (i : ℕ) → i < length xs → (x : Line) → x ≡ get_or xs i no_line → x.amount < 1000000000
read_small xs read i h x e = let a : x.amount ≡ (get_or xs i no_line).amount = ap (λ (y : Line). y.amount) e in omega (arith, read.small i h)

-- ---- a loop that has read n lines, up to `at`; the last had the receipt `last`
pub record Reading (day : Day) (s : List ℕ) (u : List Line) (n at : ℕ) (rose : Bool) (last : ℕ) : Type 0 where
  pub lines : take n u ++ registry_lines (drop at s) ≡ registry_lines s
  pub count : line_count s ≡ n + line_count (drop at s)
  pub good : good_lines day (split_lines s) ≡ good_lines day (split_lines (drop at s))
  pub rises : rising 0 (registry_lines s) ≡ rose && rising last (registry_lines (drop at s))
  pub few : n ≤ 512
  pub size : length u ≡ 512
  pub within : at ≤ length s

pub reading-start : (day : Day) (s : List ℕ) (u : List Line) → 512 ≡ length u → Reading day s u 0 0 true 0
reading-start day s u a =
    record { lines = refl; count = sym (zero-add (line_count s)); good = refl; rises = refl; few = omega arith; size = sym a; within = omega arith }

module _ {day : Day} {s : List ℕ} {u : List Line} {n at : ℕ} {rose : Bool} {last : ℕ} (reading : Reading day s u n at rose last) where
  -- ---- the end of the text
  module _ (h : length s ≤ at) where
    pub read-end : take n u ≡ registry_lines s
    read-end = sym (append-nil (take n u)) ∙ rw (← none_left s at h) reading.lines

    pub read_whole : Read (take n u)
    unfolding registry_lines
    read_whole =
        record {
          few = omega (arith, length-take-le n u (omega (arith, reading.few, reading.size)), reading.few);
          small = λ i h. rw read-end (held_small (split_lines s) i no_line (rw read-end at h));
        }

    pub read-fault : registry_fault day s ≡ cond rose 0 54
    read-fault = fault-end day s n at reading.count reading.good reading.few rose last reading.rises h

  pub full : 512 ≤ n → at < length s → (r : Fault) → r ≡ cond (leb (n + line_count (drop at s)) 512) BadLine TooMany → registry_fault day s ≡ fault_code r
  full = too_many day s n at reading.count

  module _ (e : ℕ) (here : at < length s) (ends : e ≡ at + line_end (drop at s)) where
    pub rest-fault : length s ≤ e → (r : Fault) → r ≡ cond (leb (n + line_count (drop at s)) 512) BadLine TooMany → registry_fault day s ≡ fault_code r
    rest-fault = fault-rest day s n at reading.count reading.good e here ends

    module _ (h : e < length s) (l : List ℕ) (own : l ≡ take (line_end (drop at s)) (drop at s)) (o : Option Found) (found : FoundIn day l o) where
      -- the line, as its definition has it
      read : line_found l o ≡ line_read_on day (take (line_end (drop at s)) (drop at s))
      read = found.line ∙ ap (line_read_on day) own

      pub line-fault : o ≡ None → (r : Fault) → r ≡ cond (leb (n + line_count (drop at s)) 512) BadLine TooMany → registry_fault day s ≡ fault_code r
      line-fault none = fault-line day s n at reading.count reading.good e here ends (sym (ap (line_found l) none) ∙ read) h

      pub reading-on : (f : Found) → o ≡ Some f → n < 512 → e + 2 ≤ length s → (x : Line) → x ≡ line_in l f → (q : Bool) → q ≡ rose && ltb last f.receipt
          → Reading day s (set u n x) (n + 1) (e + 2) q f.receipt
      reading-on f some room next x ex q eq =
          let y : Line = line_in l f in
          let kept : Some y ≡ line_read_on day (take (line_end (drop at s)) (drop at s)) = sym (ap (line_found l) some) ∙ read in
          let whole = (on_read day _ y kept).0 in
          rw ex
          (record {
            lines = ap (λ (xs : List Line). xs ++ registry_lines (drop (e + 2) s)) (ap (λ (k : ℕ). take k (set u n y)) (add-one n) ∙ take-suc-set u n y (omega (arith, reading.size)))
                ∙ append_snoc (take n u) y (registry_lines (drop (e + 2) s))
                ∙ ap (λ (xs : List Line). take n u ++ xs) (sym (first-line s at e here ends y whole h)) ∙ reading.lines;
            count = count-pass s at e here ends n reading.count h;
            good = good-pass s at e here ends day reading.good h y kept;
            rises = rise-pass s at e here ends rose last reading.rises y whole h q eq;
            few = omega arith;
            size = length-set u n y ∙ reading.size;
            within = next;
          })
