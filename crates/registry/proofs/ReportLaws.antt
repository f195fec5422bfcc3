-- Laws of reports.
use Rattle.std.specs.Prelude.{IsTrue, EachIndex, ◌↔◌, slice_index}
use Prim.Native.Nat.{ℕ, zero, suc, ◌<◌}
use native.Mathlib.Omega.{arith}
use mathlib.Core.Path.{◌≡◌, refl, sym, ◌∙◌}
use mathlib.Core.List.{List, [], ◌∷◌}
use mathlib.Core.Bool.{Bool, true, false}
use lib.Dec.{eqb}
use lib.ListN.{length, get_or}
use borrow.Author.Tests.{eq-eqb, ne_eqb}
use Rattle.texts.specs.Lists.{every}
use Rattle.texts.proofs.Tests.{both}
use Rattle.registry.specs.Report.{is_mark, is_report}

mark-at : (s : List ℕ) → every is_mark s ≡ true → (k : ℕ) → k < length s → is_mark (get_or s k 0) ≡ true
unfolding every
mark-at [] h k l = absurd (omega arith)
mark-at (b ∷ s) h zero l = (both (is_mark b) (every is_mark s) h).0
mark-at (b ∷ s) h (suc k) l = mark-at s (both (is_mark b) (every is_mark s) h).1 k (omega arith)

marks-all : (s : List ℕ) → ((k : ℕ) → k < length s → is_mark (get_or s k 0) ≡ true) → every is_mark s ≡ true
unfolding every
marks-all [] f = refl
marks-all (b ∷ s) f = rw (f 0 (omega arith), marks-all s (λ k l. f (suc k) (omega arith)))

module _ (n : ℕ) (s : List ℕ) where
  pub other-size : (length s ≡ n → ⊥) → eqb (length s) n ≡ is_report n s
  unfolding is_report
  other-size h = rw (ne_eqb _ _ h)

  pub all-marks : length s ≡ n → (t : Bool) → (IsTrue t ↔ EachIndex s (λ k. IsTrue (is_mark (slice_index s k)))) → t ≡ is_report n s
  unfolding is_report
  all-marks h t e = rw (eq-eqb _ _ h) (go t (every is_mark s) refl e.0 e.1)
    where
      go : (t u : Bool) → every is_mark s ≡ u → (t ≡ true → (k : ℕ) → k < length s → is_mark (get_or s k 0) ≡ true)
          → (((k : ℕ) → k < length s → is_mark (get_or s k 0) ≡ true) → t ≡ true) → t ≡ u
      go true u q f g = sym (marks-all s (f refl)) ∙ q
      go false true q f g = g (mark-at s q)
      go false false q f g = refl
