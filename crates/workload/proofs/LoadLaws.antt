-- Laws of a load's text, and of the loop that writes it.
use Prim.Native.Nat.{ℕ, zero, suc, ◌+◌, ◌-◌, ◌%◌, ◌≤◌, ◌<◌}
use native.Mathlib.Nat.{mod-lt, sub-zero, add-zero, zero-add, suc-add, add_assoc}
use native.Mathlib.Omega.{arith}
use mathlib.Core.Path.{◌≡◌, refl, sym, ap, ◌∙◌}
use mathlib.Core.List.{List, [], ◌∷◌, ◌++◌, append_assoc, append-nil}
use lib.Dec.{leb}
use lib.ListN.{length, length-append}
use borrow.Author.Tests.{le-leb, lt-leb, leb-true, leb-false}
use Rattle.texts.specs.Lists.{over, written, cursor_after}
use Rattle.texts.proofs.Tests.{by-test, cond-le, cond-elim}
use Rattle.texts.proofs.OutLaws.{over_none, over-length, over-over, cursor-stays, cursor-moves, buffer-stays, written_over}
use Rattle.generator.specs.declared.Rolls.{Rolls}
use Rattle.generator.specs.Generator.{value_after, rolls_from}
use Rattle.workload.specs.declared.given.AccountName.{AccountName}
use Rattle.workload.specs.declared.load.Written.{Written}
use Rattle.workload.specs.Given.{Load, load_of, account_at, is_load, GoodLoad}
use Rattle.workload.specs.Lines.{step_of, step_text, line_after}
use Rattle.workload.specs.Load.{after_steps, lines_from, steps_within, Filled, filled_of, filled_by, not_filled, write_steps}
use Rattle.workload.proofs.GivenLaws.{has-names}

-- ---- steps one after the other
module _ (l : Load) where
  pub lines_more : (n m v : ℕ) → lines_from l (n + m) v ≡ lines_from l n v ++ lines_from l m (after_steps n v)
  unfolding lines_from after_steps
  lines_more zero m v = ap (λ (k : ℕ). lines_from l k v) (zero-add m)
  lines_more (suc n) m v =
      ap (λ (k : ℕ). lines_from l k v) (suc-add n m)
      ∙ ap (λ (t : List ℕ). line_after l v ++ t) (lines_more n m (value_after 4 v))
      ∙ sym (append_assoc (line_after l v) (lines_from l n (value_after 4 v)) (lines_from l m (after_steps n (value_after 4 v))))

  pub one_line : (v : ℕ) → lines_from l 1 v ≡ line_after l v
  unfolding lines_from
  one_line v = append-nil (line_after l v)

  -- a line has its 0A at least
  pub line-some : (v : ℕ) → 1 ≤ length (line_after l v)
  unfolding line_after
  line-some v = rw length-append (omega arith)

pub after_more : (n m v : ℕ) → after_steps (n + m) v ≡ after_steps m (after_steps n v)
unfolding after_steps
after_more zero m v = ap (λ (k : ℕ). after_steps k v) (zero-add m)
after_more (suc n) m v = ap (λ (k : ℕ). after_steps k v) (suc-add n m) ∙ after_more n m (value_after 4 v)

pub one-after : (v : ℕ) → after_steps 1 v ≡ value_after 4 v
unfolding after_steps
one-after v = refl

-- ---- an account is there, and the one that is picked is in both columns
module _ (date : List ℕ) (reason : ℕ) (names keys : List (List ℕ)) (g : GoodLoad (load_of date reason names keys)) where
  pub some-names : 0 < length names
  some-names = has-names (load_of date reason names keys) g

  pub picked-name : (n : ℕ) → n % length names < length names
  picked-name n = mod-lt n some-names

  pub picked-key : (n : ℕ) → n % length names < length keys
  picked-key n = rw g.paired (mod-lt n some-names)

-- ---- how many steps are written
module _ (l : Load) (room v : ℕ) where
  pub none_left : (most : ℕ) → most ≡ 0 → steps_within l most room v ≡ 0
  unfolding steps_within
  none_left zero e = refl
  none_left (suc most) e = absurd (omega arith)

  pub none-fits : (most : ℕ) → room < length (line_after l v) → steps_within l most room v ≡ 0
  unfolding steps_within
  none-fits zero h = refl
  none-fits (suc most) h = rw (lt-leb _ _ h)

  pub one-fits : (most : ℕ) → length (line_after l v) ≤ room → 0 < most
      → steps_within l most room v ≡ 1 + steps_within l (most - 1) (room - length (line_after l v)) (value_after 4 v)
  unfolding steps_within
  one-fits zero h k = absurd (omega arith)
  one-fits (suc most) h k =
      let p : suc most - 1 ≡ most = omega arith in
      let n : ℕ = steps_within l most (room - length (line_after l v)) (value_after 4 v) in
      let q : suc n ≡ 1 + n = omega arith in
      rw (le-leb _ _ h, p) q

-- ---- the loop: what is written, and what is left
pub record Going (l : Load) (start most : ℕ) (d₀ d : List ℕ) (value at steps : ℕ) : Type 0 where
  pub size : at ≡ length (lines_from l steps start)
  pub next : value ≡ after_steps steps start
  pub held : d ≡ over d₀ 0 (lines_from l steps start)
  pub fits : at ≤ length d₀
  pub few : steps ≤ most
  pub rest : steps_within l most (length d₀) start ≡ steps + steps_within l (most - steps) (length d₀ - at) value

pub going_start : (l : Load) (start most : ℕ) (d₀ : List ℕ) → Going l start most d₀ d₀ start 0 0
unfolding lines_from after_steps
going_start l start most d₀ =
    record {
      size = refl;
      next = refl;
      held = sym (over_none d₀ 0);
      fits = omega arith;
      few = omega arith;
      rest = simp sub-zero (sym (zero-add (steps_within l most (length d₀) start)));
    }

module _ (l : Load) (start most : ℕ) (d₀ d : List ℕ) (value at steps : ℕ) (g : Going l start most d₀ d value at steps) where
  pub same_size : length d ≡ length d₀
  same_size = rw g.held (over-length d₀ 0 (lines_from l steps start) (omega (arith, g.size, g.fits)))

  -- no step more is written
  stops : steps_within l (most - steps) (length d₀ - at) value ≡ 0 → (e : List ℕ) → e ≡ d
      → record { code = 0; size = at; steps = steps; next = value; buffer = e } ≡ filled_by l start d₀ (steps_within l most (length d₀) start)
  stops none e is =
      let n : steps_within l most (length d₀) start ≡ steps = g.rest ∙ rw none (add-zero steps) in
      rw (n, is, g.held, g.next, g.size)

  pub all-written : most ≤ steps
      → record { code = 0; size = at; steps = most; next = value; buffer = d } ≡ filled_by l start d₀ (steps_within l most (length d₀) start)
  all-written h =
      let all : most ≡ steps = omega (arith, g.few, h) in
      ap (λ (k : ℕ). record { code = 0; size = at; steps = k; next = value; buffer = d }) all
      ∙ stops (none_left l (length d₀ - at) value (most - steps) (omega arith)) d refl

  -- the next line, where it has room and where it has not
  module _ (below : steps < most) (r : Rolls) (er : r ≡ rolls_from value) (a : AccountName) (ea : a ≡ account_at l.names l.keys (r.account % length l.names))
      (e : ℕ) (ee : e ≡ cursor_after d at (step_text l.date l.reason a r (step_of r.step) ++ (10 ∷ [])))
      (x : List ℕ) (ex : x ≡ written d at (step_text l.date l.reason a r (step_of r.step) ++ (10 ∷ []))) where
    line-is : step_text l.date l.reason a r (step_of r.step) ++ (10 ∷ []) ≡ line_after l value
    unfolding line_after
    line-is = rw (ea, er)

    cursor-is : e ≡ cursor_after d at (line_after l value)
    cursor-is = ee ∙ ap (cursor_after d at) line-is

    buffer-is : x ≡ written d at (line_after l value)
    buffer-is = ex ∙ ap (written d at) line-is

    -- the test of the room, by the cursor
    has_room : (e ≡ at → ⊥) → at + length (line_after l value) ≤ length d
    has_room h = by-test (leb (at + length (line_after l value)) (length d)) (leb-true _ _) (λ f. absurd (h (cursor-is ∙ sym (cursor-stays d at (line_after l value) (leb-false _ _ f)))))

    no_room : e ≡ at → length d < at + length (line_after l value)
    no_room h =
        by-test (leb (at + length (line_after l value)) (length d))
        (λ t. let c = cursor-moves d at (line_after l value) (leb-true _ _ t) in absurd (omega (arith, cursor-is, h, c, line-some l value)))
        (leb-false _ _)

    pub stops-here : e ≡ at
        → record { code = 0; size = at; steps = steps; next = value; buffer = x } ≡ filled_by l start d₀ (steps_within l most (length d₀) start)
    stops-here h =
        let n = no_room h in
        stops (none-fits l (length d₀ - at) value (most - steps) (omega (arith, n, same_size, g.fits))) x (buffer-is ∙ sym (buffer-stays d at (line_after l value) n))

    rolls-next : r.next ≡ value_after 4 value
    unfolding rolls_from
    rolls-next = rw er

    module _ (h : e ≡ at → ⊥) where
      moved : at + length (line_after l value) ≡ e
      moved = cursor-moves d at (line_after l value) (has_room h) ∙ sym cursor-is

      text-more : lines_from l (steps + 1) start ≡ lines_from l steps start ++ line_after l value
      text-more =
          lines_more l steps 1 start
          ∙ ap (λ (s : List ℕ). lines_from l steps start ++ s) (ap (lines_from l 1) (sym g.next) ∙ one_line l value)

      held_more : x ≡ over d₀ 0 (lines_from l (steps + 1) start)
      held_more =
          let first : 0 + length (lines_from l steps start) ≤ length d₀ = omega (arith, g.size, g.fits) in
          buffer-is ∙ sym (written_over d at (line_after l value) (has_room h))
          ∙ ap (λ (k : ℕ). over d k (line_after l value)) (g.size ∙ sym (zero-add (length (lines_from l steps start))))
          ∙ ap (λ (y : List ℕ). over y (0 + length (lines_from l steps start)) (line_after l value)) g.held
          ∙ over-over d₀ 0 (lines_from l steps start) first (line_after l value)
          ∙ ap (over d₀ 0) (sym text-more)

      rest_more : steps_within l (most - steps) (length d₀ - at) value ≡ 1 + steps_within l (most - (steps + 1)) (length d₀ - e) r.next
      rest_more =
          let o = one-fits l (length d₀ - at) value (most - steps) (omega (arith, has_room h, same_size)) (omega arith) in
          let p : most - steps - 1 ≡ most - (steps + 1) = omega arith in
          let q : length d₀ - at - length (line_after l value) ≡ length d₀ - e = omega (arith, moved) in
          o ∙ rw (p, q, rolls-next)

      pub goes_on : Going l start most d₀ x r.next e (steps + 1)
      goes_on =
          record {
            size = sym (ap length text-more ∙ length-append (lines_from l steps start) (line_after l value) ∙ ap (λ (k : ℕ). k + length (line_after l value)) (sym g.size) ∙ moved);
            next = rolls-next ∙ sym (after_more steps 1 start ∙ ap (after_steps 1) (sym g.next) ∙ one-after value);
            held = held_more;
            fits = omega (arith, has_room h, moved, same_size);
            few = omega arith;
            rest = g.rest ∙ ap (λ (k : ℕ). steps + k) rest_more ∙ sym (add_assoc steps 1 (steps_within l (most - (steps + 1)) (length d₀ - e) r.next));
          }

-- no more steps than asked for
pub within-few : (l : Load) (most room v : ℕ) → steps_within l most room v ≤ most
unfolding steps_within
within-few l zero room v = omega arith
within-few l (suc most) room v =
    cond-le (leb (length (line_after l v)) room) (omega (arith, within-few l most (room - length (line_after l v)) (value_after 4 v))) (omega arith)

pub steps-few : (l : Load) (most v : ℕ) (d e : List ℕ) (w : Written) → filled_of w e ≡ write_steps l most v d → w.steps ≤ most
unfolding write_steps
steps-few l most v d e w q =
    rw (ap (λ (f : Filled). f.steps) q)
    (cond-elim (λ (f : Filled). f.steps ≤ most) (is_load l) (filled_by l v d (steps_within l most (length d) v)) (not_filled v d) (λ _. within-few l most (length d) v) (λ _. omega arith))

pub ruleset fill_laws = (some-names, picked-name, picked-key)
