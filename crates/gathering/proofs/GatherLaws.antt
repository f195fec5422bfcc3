-- Laws of the bytes gathered from a part of the input.
use Prim.Native.Nat.{ℕ, suc, ◌+◌, ◌≤◌, ◌<◌}
use native.Mathlib.Nat.{add-zero}
use native.Mathlib.Omega.{arith}
use mathlib.Core.Path.{◌≡◌, refl, sym, ap, ◌∙◌}
use mathlib.Core.List.{List, [], ◌∷◌}
use mathlib.Core.Bool.{Bool, true, false, cond, ◌&&◌}
use lib.Dec.{eqb, leb, ltb, leb-suc-suc}
use lib.ListN.{length, get_or, set, drop, drop_of_length-le}
use borrow.Author.Tests.{lt-ltb, eq-eqb, ne_eqb, ltb-true}
use Rattle.texts.specs.Lists.{find}
use Rattle.texts.proofs.Tests.{by-test}
use Rattle.texts.proofs.ListLaws.{drop-next}
use Rattle.std.specs.Prelude.{Option, Some, None}
use Rattle.gathering.specs.declared.Mark.{Mark}
use Rattle.gathering.specs.Held.{Held, held_of, pushed, in_params, absorbed, absorb_all}
use Rattle.gathering.specs.Gather.{taken, asks_at, step_of, Gathered, gathered}

-- ---- what a step does to a held line
abbrev step_for : Held → ℕ → Option Mark
step_for h b = step_of (get_or h.bytes 0 0) (record { len = h.len; spaces = h.spaces; run = h.run }) b

abbrev after : Held → ℕ → Option Mark → Held
after h b None = h
after h b (Some m) = held_of (set h.bytes h.len b) m

absorbed-step : (h : Held) (b : ℕ) → absorbed h b ≡ after h b (step_for h b)
unfolding absorbed pushed in_params step_of asks_at
absorbed-step h b = go (ltb h.len 2177) (eqb (get_or h.bytes 0 0) 82 && leb 2 h.spaces) (eqb b 32) (ltb h.run 2049) (ltb h.spaces 4) (ltb h.run 31)
  where
    m : Mark
    m = record { len = h.len; spaces = h.spaces; run = h.run }

    into : ℕ → ℕ → Held
    into k n = record { bytes = set h.bytes h.len b; len = h.len + 1; spaces = k; run = n }

    go : (room asks space param few short : Bool)
        → cond asks (cond param (cond room (into h.spaces (h.run + 1)) h) h)
        (cond space (cond few (cond room (into (h.spaces + 1) 0) h) h) (cond short (cond room (into h.spaces (h.run + 1)) h) h))
        ≡ after h b
        (cond room
        (cond asks (cond param (taken m h.spaces (h.run + 1)) None)
        (cond space (cond few (taken m (h.spaces + 1) 0) None) (cond short (taken m h.spaces (h.run + 1)) None)))
        None)
    go true true space true few short = refl
    go true true space false few short = refl
    go true false true param true short = refl
    go true false true param false short = refl
    go true false false param few true = refl
    go true false false param few false = refl
    go false true space true few short = refl
    go false true space false few short = refl
    go false false true param true short = refl
    go false false true param false short = refl
    go false false false param few true = refl
    go false false false param few false = refl

-- ---- the input byte by byte
module _ (h : Held) where
  gathered_none : (at : ℕ) → gathered h [] at ≡ record { held = h; at = at; ended = false }
  unfolding gathered find absorb_all
  gathered_none at = rw (add-zero at)

  gathered-end : (b : ℕ) (s : List ℕ) (at : ℕ) → b ≡ 10 → gathered h (b ∷ s) at ≡ record { held = h; at = at + 1; ended = true }
  unfolding gathered find absorb_all
  gathered-end b s at e = rw (eq-eqb b 10 e, lt-ltb 0 (suc (length s)) (omega arith))

  gathered-byte : (b : ℕ) (s : List ℕ) (at : ℕ) → (b ≡ 10 → ⊥) → gathered h (b ∷ s) at ≡ gathered (absorbed h b) s (at + 1)
  unfolding gathered find absorb_all
  gathered-byte b s at n =
      let f : ℕ = find 10 s in
      let p : at + (suc f + 1) ≡ at + 1 + (f + 1) = omega arith in
      let q : at + suc f ≡ at + 1 + f = omega arith in
      rw (ne_eqb b 10 n, leb-suc-suc (suc f) (length s), p, q)

-- a byte is held only where there is room
pub keep-room : (first : ℕ) (m x : Mark) (b : ℕ) (r : Option Mark) → r ≡ step_of first m b → r ≡ Some x → m.len < 2177
unfolding step_of
keep-room first m x b r e t =
    by-test (ltb m.len 2177) (λ h. ltb-true m.len 2177 h)
    (λ h.
    let p : step_of first m b ≡ None = rw h in
    let z : ◌≡◌ {A = Option Mark} None (Some x) = sym p ∙ sym e ∙ t in
    cc)

-- ---- a loop that has gathered i bytes of the rest, which begins at `at`
module _ (b₀ : List ℕ) (m₀ : Mark) (r s : List ℕ) (er : r ≡ s) (at : ℕ) (bytes : List ℕ) (m : Mark) (i : ℕ)
    (left : gathered (held_of b₀ m₀) r at ≡ gathered (held_of bytes m) (drop i r) (at + i))
  where
    pub gather-out : length r ≤ i → i ≤ length r → ◌≡◌ {A = Gathered} (record { held = held_of bytes m; at = at + length r; ended = false }) (gathered (held_of b₀ m₀) s at)
    gather-out l g =
        let k : i ≡ length r = omega arith in
        sym (rw (← er) (left ∙ rw (drop_of_length-le r l) (gathered_none (held_of bytes m) (at + i) ∙ rw k)))

    pub gather-end : i < length r → get_or r i 0 ≡ 10 → ◌≡◌ {A = Gathered} (record { held = held_of bytes m; at = at + i + 1; ended = true }) (gathered (held_of b₀ m₀) s at)
    gather-end inside e = sym (rw (← er) (left ∙ rw (drop-next r i inside) (gathered-end (held_of bytes m) (get_or r i 0) (drop (i + 1) r) (at + i) e)))

module _ (b₀ : List ℕ) (m₀ : Mark) (r : List ℕ) (at : ℕ) (bytes : List ℕ) (m : Mark) (i : ℕ)
    (left : gathered (held_of b₀ m₀) r at ≡ gathered (held_of bytes m) (drop i r) (at + i))
    (inside : i < length r) (other : get_or r i 0 ≡ 10 → ⊥)
    (t : Option Mark) (et : t ≡ step_of (get_or bytes 0 0) m (get_or r i 0))
  where
    gather-turn : gathered (held_of b₀ m₀) r at ≡ gathered (after (held_of bytes m) (get_or r i 0) t) (drop (i + 1) r) (at + (i + 1))
    gather-turn =
        let k : at + i + 1 ≡ at + (i + 1) = omega arith in
        left
        ∙ ap (λ (u : List ℕ). gathered (held_of bytes m) u (at + i)) (drop-next r i inside)
        ∙ gathered-byte (held_of bytes m) (get_or r i 0) (drop (i + 1) r) (at + i) other
        ∙ rw (k, absorbed-step (held_of bytes m) (get_or r i 0), ← et)

    pub gather-keep : (x : Mark) → t ≡ Some x → gathered (held_of b₀ m₀) r at ≡ gathered (held_of (set bytes m.len (get_or r i 0)) x) (drop (i + 1) r) (at + (i + 1))
    gather-keep x e = gather-turn ∙ rw e

    pub gather-pass : t ≡ None → gathered (held_of b₀ m₀) r at ≡ gathered (held_of bytes m) (drop (i + 1) r) (at + (i + 1))
    gather-pass e = gather-turn ∙ rw e
