-- Laws of what a call writes: its text is that of the steps that fit, whatever the buffer held.
use Prim.Native.Nat.{ℕ, zero, suc, ◌+◌, ◌-◌, ◌≤◌, ◌<◌}
use native.Mathlib.Nat.{not-suc-le-zero, le_of_suc-le-suc}
use native.Mathlib.Numerals.{add-one}
use native.Mathlib.Omega.{arith}
use mathlib.Core.Path.{◌≡◌, refl, sym, ap, ◌∙◌}
use mathlib.Core.List.{List, [], ◌++◌}
use mathlib.Core.Bool.{Bool, true, false, cond}
use lib.Dec.{leb, ltb}
use lib.ListN.{length, drop, length-append}
use lib.Seq.{take-append_seam}
use borrow.Author.Tests.{le-leb, leb-true, leb-false, ltb-true, ltb-false}
use Rattle.texts.proofs.Tests.{by-test, cond-elim}
use Rattle.generator.specs.Generator.{value_after}
use Rattle.workload.specs.Given.{Load, is_load}
use Rattle.workload.specs.Lines.{line_after}
use Rattle.workload.specs.Load.{after_steps, lines_from, steps_within, filled_by, not_filled, write_steps, write_load}
use Rattle.workload.proofs.LoadLaws.{lines_more, line-some, within-few}
use Rattle.workload_theorems.specs.LoadClaims.{text_in}

-- ---- how many steps fit
module _ (l : Load) where
  -- their lines have room
  lines_fit : (most room v : ℕ) → length (lines_from l (steps_within l most room v) v) ≤ room
  unfolding steps_within lines_from
  lines_fit zero room v = omega arith
  lines_fit (suc most) room v =
      let rest = lines_fit most (room - length (line_after l v)) (value_after 4 v) in
      cond-elim (λ (n : ℕ). length (lines_from l n v) ≤ room) (leb (length (line_after l v)) room) _ 0
      (λ t. rw length-append (omega (arith, leb-true (length (line_after l v)) room t, rest)))
      (λ _. omega arith)

  -- where more are allowed and more has room, no fewer fit
  steps-grow : (most more room wide v : ℕ) → most ≤ more → room ≤ wide → steps_within l most room v ≤ steps_within l more wide v
  unfolding steps_within
  steps-grow zero more room wide v h k = omega arith
  steps-grow (suc most) zero room wide v h k = absurd (not-suc-le-zero h)
  steps-grow (suc most) (suc more) room wide v h k =
      let size = length (line_after l v) in
      let rest = steps-grow most more (room - size) (wide - size) (value_after 4 v) (le_of_suc-le-suc h) (omega arith) in
      by-test (leb size room)
      (λ t. let fits : size ≤ wide = omega (arith, leb-true size room t) in rw (t, le-leb _ _ fits) (omega (arith, rest)))
      (λ f. rw f (omega arith))

  -- and where one more is allowed, its line has no room
  next-size : (n v : ℕ) → length (lines_from l (suc n) v) ≡ length (line_after l v) + length (lines_from l n (value_after 4 v))
  unfolding lines_from
  next-size n v = length-append (line_after l v) (lines_from l n (value_after 4 v))

  next-long : (most room v n : ℕ) → steps_within l most room v ≡ n → n < most → room < length (lines_from l (suc n) v)
  unfolding steps_within
  next-long zero room v n e h = absurd (not-suc-le-zero h)
  next-long (suc most) room v n e h =
      let size = length (line_after l v) in
      by-test (leb size room)
      (λ t.
      let m = steps_within l most (room - size) (value_after 4 v) in
      let is : suc m ≡ n = rw t at e in
      let rest = next-long most (room - size) (value_after 4 v) m refl (omega (arith, is)) in
      rw (← is, next-size (suc m) v) (omega (arith, rest)))
      (λ f. rw (next-size n v) (omega (arith, leb-false size room f)))

-- ---- a call for a good load
module _ (l : Load) (good : is_load l ≡ true) (most v : ℕ) (d : List ℕ) where
  pub call-steps : (write_steps l most v d).steps ≡ steps_within l most (length d) v
  unfolding write_steps
  call-steps = rw good

  pub call_next : (write_steps l most v d).next ≡ after_steps (steps_within l most (length d) v) v
  unfolding write_steps
  call_next = rw good

  pub call-text : text_in (write_steps l most v d) ≡ lines_from l (steps_within l most (length d) v) v
  unfolding write_steps
  call-text =
      let text = lines_from l (steps_within l most (length d) v) v in
      rw good (take-append_seam text (drop (0 + length text) d))

  pub call-few : (write_steps l most v d).steps ≤ most
  call-few = rw call-steps (within-few l most (length d) v)

  pub call-full : (write_steps l most v d).steps < most → length d < length (lines_from l ((write_steps l most v d).steps + 1) v)
  call-full h = rw add-one (next-long l most (length d) v (write_steps l most v d).steps (sym call-steps) h)

-- n lines have n bytes at least, so that a buffer's bytes are no bound on the steps that fit it
lines_long : (l : Load) (n v : ℕ) → n ≤ length (lines_from l n v)
unfolding lines_from
lines_long l zero v = omega arith
lines_long l (suc n) v = rw length-append (omega (arith, line-some l v, lines_long l n (value_after 4 v)))

pub load_full : (l : Load) → is_load l ≡ true → (v : ℕ) (d : List ℕ) → length d < length (lines_from l ((write_load l v d).steps + 1) v)
unfolding write_load
load_full l good v d =
    let n = (write_steps l (length d) v d).steps in
    by-test (ltb n (length d))
    (λ t. call-full l good (length d) v d (ltb-true n (length d) t))
    (λ f. omega (arith, ltb-false n (length d) f, lines_long l (n + 1) v))

-- of another load nothing is written
none_written : (l : Load) → is_load l ≡ false → (most v : ℕ) (d : List ℕ) → text_in (write_steps l most v d) ≡ []
unfolding write_steps
none_written l bad most v d = rw bad

-- ---- the claims of a call
pub load-begins : (l : Load) (v : ℕ) (d e : List ℕ) → length d ≤ length e
    → (rest : List ℕ) × (text_in (write_load l v e) ≡ text_in (write_load l v d) ++ rest)
unfolding write_load
load-begins l v d e h =
    by-test (is_load l)
    (λ good.
    let n = steps_within l (length d) (length d) v in
    let m = steps_within l (length e) (length e) v in
    let grown : n ≤ m = steps-grow l (length d) (length e) (length d) (length e) v h h in
    let all : m ≡ n + (m - n) = omega arith in
    let rest = lines_from l (m - n) (after_steps n v) in (
      rest,
      call-text l good (length e) v e ∙ ap (λ (k : ℕ). lines_from l k v) all ∙ lines_more l n (m - n) v
          ∙ ap (λ (t : List ℕ). t ++ rest) (sym (call-text l good (length d) v d)),
    ))
    (λ bad. ([], none_written l bad (length e) v e ∙ ap (λ (t : List ℕ). t ++ []) (sym (none_written l bad (length d) v d))))

module _ (l : Load) (v : ℕ) (d e : List ℕ) (same : length d ≡ length e) where
  pub alike-text : text_in (write_load l v d) ≡ text_in (write_load l v e)
  unfolding write_load
  alike-text =
      by-test (is_load l)
      (λ good. call-text l good (length d) v d ∙ ap (λ (k : ℕ). lines_from l (steps_within l k k v) v) same ∙ sym (call-text l good (length e) v e))
      (λ bad. none_written l bad (length d) v d ∙ sym (none_written l bad (length e) v e))

  -- the rest of an answer depends on the buffer's length alone
  pub alike-answer : ((write_load l v d).code ≡ (write_load l v e).code)
      × ((write_load l v d).size ≡ (write_load l v e).size)
      × ((write_load l v d).steps ≡ (write_load l v e).steps)
      × ((write_load l v d).next ≡ (write_load l v e).next)
  unfolding write_load write_steps
  alike-answer = rw same (go (is_load l) (steps_within l (length e) (length e) v))
    where
      go : (t : Bool) (n : ℕ)
          → ((cond t (filled_by l v d n) (not_filled v d)).code ≡ (cond t (filled_by l v e n) (not_filled v e)).code)
          × ((cond t (filled_by l v d n) (not_filled v d)).size ≡ (cond t (filled_by l v e n) (not_filled v e)).size)
          × ((cond t (filled_by l v d n) (not_filled v d)).steps ≡ (cond t (filled_by l v e n) (not_filled v e)).steps)
          × ((cond t (filled_by l v d n) (not_filled v d)).next ≡ (cond t (filled_by l v e n) (not_filled v e)).next)
      go true n = (refl, refl, refl, refl)
      go false n = (refl, refl, refl, refl)

pub goes-onward : (l : Load) → is_load l ≡ true → (v most more : ℕ) (d e : List ℕ)
    → text_in (write_steps l most v d) ++ text_in (write_steps l more (write_steps l most v d).next e)
    ≡ lines_from l ((write_steps l most v d).steps + (write_steps l more (write_steps l most v d).next e).steps) v
goes-onward l good v most more d e =
    let n = steps_within l most (length d) v in
    let m = steps_within l more (length e) (after_steps n v) in
    rw (call_next l good most v d, call-text l good most v d, call-text l good more (after_steps n v) e, call-steps l good most v d, call-steps l good more (after_steps n v) e)
    (sym (lines_more l n m v))
