-- What a text without a fault holds: lines of the day, well formed, with rising receipts, 512 at most.
use Rattle.std.specs.Prelude.{Option, Some, None}
use Prim.Native.Nat.{ℕ, suc, ◌≤◌, ◌<◌}
use native.Mathlib.Omega.{arith}
use mathlib.Core.Path.{◌≡◌, refl, sym, ap, ◌∙◌}
use mathlib.Core.List.{List, [], ◌∷◌}
use mathlib.Core.Bool.{Bool, true, false, cond}
use lib.Dec.{leb}
use lib.ListN.{length}
use borrow.Author.Tests.{leb-true}
use Rattle.days.specs.declared.calendar.Day.{Day}
use Rattle.fields.specs.declared.number.Number.{Number}
use Rattle.lines.specs.declared.line.Line.{Line}
use Rattle.fields.specs.Amount.{is_amount, amount_read}
use Rattle.fields.specs.Codes.{is_receipt, receipt_read, is_kind, kind_read}
use Rattle.fields.specs.Number.{is_number, is_number_text, number_of, number_read}
use Rattle.dates.specs.Date.{is_written, date_read}
use Rattle.texts.proofs.Tests.{both, no-claim}
use Rattle.texts.proofs.DigitLaws.{range-within}
use Rattle.fields.proofs.AmountLaws.{amount-within}
use Rattle.fields.proofs.NumberLaws.{text-number}
use Rattle.lines.specs.Line.{field, after_field, line_of, line_read, is_read_on, line_or_zeros, is_line}
use Rattle.registry.specs.Registry.{split_lines, count_of, line_count, good_line, good_lines, held_lines, registry_lines, rising, registry_fault}
use Rattle.registry.specs.Registry.{line_on, every_line}
use Rattle.lines.proofs.LineParts.{line-is}
use Rattle.registry.proofs.SplitLaws.{count-more, good_more}
use Rattle.registry.proofs.TextAgain.{on_line}

-- ---- fields that were read
number-good : (f : List ℕ) (x : Number) → number_read f ≡ Some x → is_number x ≡ true
unfolding number_read
number-good f x = go (is_number_text f) refl
  where
    go : (t : Bool) → is_number_text f ≡ t → cond t (Some (number_of f)) None ≡ Some x → is_number x ≡ true
    go true e q = let p : number_of f ≡ x = cc in ap is_number (sym p) ∙ text-number f e
    go false e q = cc

date-good : (f d : List ℕ) → date_read f ≡ Some d → is_written d ≡ true
unfolding date_read
date-good f d = go (is_written f) refl
  where
    go : (t : Bool) → is_written f ≡ t → cond t (Some f) None ≡ Some d → is_written d ≡ true
    go true e q = let p : f ≡ d = cc in ap is_written (sym p) ∙ e
    go false e q = cc

-- ---- a line that was read
abbrev LineGood : Option Line → Type 0
LineGood z = (x : Line) → z ≡ Some x → is_line x ≡ true

of-good : (n : Option Number) (k : Option ℕ) (d : Option (List ℕ)) (a r : Option ℕ) → ((x : Number) → n ≡ Some x → is_number x ≡ true) → ((v : ℕ) → Some v ≡ k → is_kind v ≡ true)
    → ((x : List ℕ) → d ≡ Some x → is_written x ≡ true) → ((v : ℕ) → Some v ≡ a → is_amount v ≡ true) → ((v : ℕ) → Some v ≡ r → is_receipt v ≡ true)
    → LineGood (line_of n k d a r)
of-good None k d a r gn gk gd ga gr x e = cc
of-good (Some n) None d a r gn gk gd ga gr x e = cc
of-good (Some n) (Some k) None a r gn gk gd ga gr x e = cc
of-good (Some n) (Some k) (Some d) None r gn gk gd ga gr x e = cc
of-good (Some n) (Some k) (Some d) (Some a) None gn gk gd ga gr x e = cc
of-good (Some n) (Some k) (Some d) (Some a) (Some r) gn gk gd ga gr x e =
    let y : Line = record { number = n; kind = k; date = d; amount = a; receipt = r } in
    let p : y ≡ x = cc in
    ap is_line (sym p) ∙ line-is y (record { number = gn n refl; kind = gk k refl; date = gd d refl; amount = ga a refl; receipt = gr r refl })

line-good : (l : List ℕ) → LineGood (line_read l)
unfolding line_read
line-good l =
    let s₁ = after_field l in
    let s₂ = after_field s₁ in
    let s₃ = after_field s₂ in
    of-good (number_read (field l)) (kind_read (field s₁)) (date_read (field s₂)) (amount_read (field s₃)) (receipt_read (after_field s₃))
    (number-good (field l))
    (λ v. range-within 3 0 999 (field s₁) v)
    (date-good (field s₂))
    (λ v. amount-within (field s₃) v)
    (λ v. range-within 15 1 999999999999999 (after_field s₃) v)

-- ---- the lines of a good text
module _ (day : Day) where
  good-on : (l : List ℕ) → good_line day l ≡ true → line_on day (line_or_zeros (line_read l)) ≡ true
  unfolding good_line
  good-on l = go (line_read l) (line-good l)
    where
      go : (z : Option Line) → LineGood z → is_read_on day z ≡ true → line_on day (line_or_zeros z) ≡ true
      go None g h = no-claim h
      go (Some x) g h = on_line day x (record { good = g x refl; on = h })

  held-good : (ls : List (List ℕ)) → good_lines day ls ≡ true → every_line day (held_lines ls) ≡ true
  unfolding every_line held_lines
  held-good [] h = refl
  held-good (l ∷ []) h = refl
  held-good (l ∷ (m ∷ ls)) h =
      let p = both (good_line day l) _ (sym (good_more day l m ls) ∙ h) in
      rw (good-on l p.0, held-good (m ∷ ls) p.1)

  held-count : (ls : List (List ℕ)) → good_lines day ls ≡ true → length (held_lines ls) ≡ count_of ls
  unfolding good_lines held_lines count_of
  held-count [] h = refl
  held-count ([] ∷ []) h = refl
  held-count ((b ∷ l) ∷ []) h = no-claim h
  held-count (l ∷ (m ∷ ls)) h =
      let p = both (good_line day l) _ (sym (good_more day l m ls) ∙ h) in
      rw (count-more l m ls) (ap suc (held-count (m ∷ ls) p.1))

-- ---- no fault
picked : (t : Bool) (a b : ℕ) → 0 < b → cond t a b ≡ 0 → (t ≡ true) × (a ≡ 0)
picked true a b p e = (refl, e)
picked false a b p e = absurd (omega arith)

pub record GoodLines (day : Day) (s : List ℕ) : Type 0 where
  pub lines : every_line day (registry_lines s) ≡ true
  pub rise : rising 0 (registry_lines s) ≡ true
  pub few : length (registry_lines s) ≤ 512
  pub count : length (registry_lines s) ≡ line_count s

pub lines-good : (day : Day) (s : List ℕ) → registry_fault day s ≡ 0 → GoodLines day s
unfolding registry_fault registry_lines line_count
lines-good day s h =
    let a = picked (leb (line_count s) 512) _ 53 (omega arith) h in
    let b = picked (good_lines day (split_lines s)) _ 52 (omega arith) a.1 in
    let c = picked (rising 0 (registry_lines s)) 0 54 (omega arith) b.1 in
    let n : length (registry_lines s) ≡ line_count s = held-count day (split_lines s) b.0 in
    record {
      lines = held-good day (split_lines s) b.0;
      rise = c.0;
      few = omega (arith, leb-true (line_count s) 512 a.0);
      count = n;
    }
