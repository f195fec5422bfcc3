-- Laws of a walk along a chain, for a test that holds only in one slot: it meets the first element that fits.
use Rattle.std.specs.Prelude.{Option, Some, None}
use mathlib.Core.Path.{◌≡◌, refl, sym, ap, ◌∙◌}
use mathlib.Core.Bool.{Bool, true, false, cond, ◌||◌}
use mathlib.Core.List.{List, [], ◌∷◌}
use Prim.Native.Nat.{ℕ, zero, suc, ◌+◌, ◌-◌, ◌<◌, ◌≤◌}
use native.Mathlib.Omega.{arith}
use lib.ListN.{length, get_or, drop}
use Rattle.lists.specs.Lists.{first_from, is_found}
use Rattle.lists.proofs.ListLaws.{search-hit, search-miss, search-end}
use Rattle.index.specs.Index.{slot_of, Link, Chained}
use Rattle.index.proofs.ChainLaws.{link-as}

-- the first that fits from the place of a link on, none behind the end
unfoldable pub from_link : {A : Type 0} → (A → Bool) → ℕ → List A → Option ℕ
from_link q zero l = None
from_link q (suc i) l = first_from q i (drop i l)

-- the places that a walk of n may still meet
unfoldable pub ahead : ℕ → ℕ → ℕ
ahead n zero = 0
ahead n (suc i) = n - i

-- a walk that stands at a link: what is ahead gives the whole
pub record Walk {A : Type 0} (q : A → Bool) (l : List A) (key : ℕ → ℕ) (s n at : ℕ) : Type 0 where
  pub size : length l ≡ n
  pub agree : (j : ℕ) (z : A) → j < n → q (get_or l j z) ≡ true → slot_of (key j) ≡ s
  pub most : at ≤ n
  pub slot : 0 < at → slot_of (key (at - 1)) ≡ s
  pub rest : first_from q 0 l ≡ from_link q at l

not-true : (b : Bool) → (b ≡ true → ⊥) → b ≡ false
not-true true d = absurd (d refl)
not-true false d = refl

module _ {A : Type 0} (q : A → Bool) (l : List A) (z : A) where
  -- d elements that do not fit are passed
  pass : (i d : ℕ) → i + d ≤ length l → ((j : ℕ) → i ≤ j → j < i + d → q (get_or l j z) ≡ false) → first_from q i (drop i l) ≡ first_from q (i + d) (drop (i + d) l)
  pass i zero h f = let e : i ≡ i + 0 = omega arith in ap (λ (m : ℕ). first_from q m (drop m l)) e
  pass i (suc d) h f =
      let e : i + 1 + d ≡ i + suc d = omega arith in
      search-miss q i l z (omega arith) (f i (omega arith) (omega arith))
      ∙ pass (i + 1) d (omega arith) (λ j a b. f j (omega arith) (omega arith))
      ∙ ap (λ (m : ℕ). first_from q m (drop m l)) e

  module _ (key : ℕ → ℕ) (s n : ℕ) (size : length l ≡ n) (agree : (j : ℕ) (z : A) → j < n → q (get_or l j z) ≡ true → slot_of (key j) ≡ s) where
    -- what a link leads past does not fit
    leap : (i at : ℕ) → i ≤ n → Link key s i n at → first_from q i (drop i l) ≡ from_link q at l
    unfolding from_link
    leap i zero h k =
        let e : i + (n - i) ≡ n = omega arith in
        pass i (n - i) (omega arith) (λ j a b. not-true _ (λ y. absurd (omega (arith, (k.least j a (omega arith) (agree j z (omega arith) y)).0))))
        ∙ ap (λ (m : ℕ). first_from q m (drop m l)) e ∙ search-end q n l z (omega arith)
    leap i (suc j) h k =
        let b : i < suc j = k.behind (omega arith) in
        let e : i + (j - i) ≡ j = omega arith in
        pass i (j - i) (omega (arith, k.within)) (λ m a g. not-true _ (λ y. absurd (omega (arith, k.within, (k.least m a (omega (arith, k.within)) (agree m z (omega (arith, k.within)) y)).1))))
        ∙ ap (λ (m : ℕ). first_from q m (drop m l)) e

    pub walk_from : (at : ℕ) → Link key s 0 n at → Walk q l key s n at
    walk_from at k = record { size = size; agree = agree; most = k.within; slot = k.slot; rest = leap 0 at (omega arith) k }

module _ {A : Type 0} {q : A → Bool} {l : List A} {key : ℕ → ℕ} {s n at : ℕ} (w : Walk q l key s n at) where
  pub walk_none : at ≤ 0 → first_from q 0 l ≡ None
  unfolding from_link
  walk_none h = let e : at ≡ 0 = omega arith in w.rest ∙ ap (λ (m : ℕ). from_link q m l) e

  module _ (h : 0 < at) where
    here : first_from q 0 l ≡ first_from q (at - 1) (drop (at - 1) l)
    unfolding from_link
    here = let e : at ≡ suc (at - 1) = omega arith in w.rest ∙ ap (λ (m : ℕ). from_link q m l) e

    pub walk-in : (m : ℕ) → n ≤ m → at - 1 < m
    walk-in m b = omega (arith, w.most)

    pub walk-hit : (z : A) → q (get_or l (at - 1) z) ≡ true → first_from q 0 l ≡ Some (at - 1)
    walk-hit z y = here ∙ search-hit q (at - 1) l z (omega (arith, w.most, w.size)) y

    module _ (heads next : List ℕ) (c : Chained key 0 n heads next) (r : ℕ) (er : r ≡ get_or next (at - 1) 0) where
      behind : Link key s at n r
      behind =
          let i : at - 1 < n = omega (arith, w.most) in
          let e : at - 1 + 1 ≡ at = omega arith in
          link-as key (w.slot h) e (sym er) (c.tail (at - 1) (omega arith) i)

      pub walk-next : (z : A) → q (get_or l (at - 1) z) ≡ false → Walk q l key s n r
      walk-next z y =
          let e : at - 1 + 1 ≡ at = omega arith in
          record {
            size = w.size;
            agree = w.agree;
            most = behind.within;
            slot = behind.slot;
            rest = here ∙ search-miss q (at - 1) l z (omega (arith, w.most, w.size)) y ∙ ap (λ (m : ℕ). first_from q m (drop m l)) e
                ∙ leap q l z key s n w.size w.agree at r w.most behind;
          }

      pub walk-less : ahead n r < ahead n at
      unfolding ahead
      walk-less = less r at w.most h behind.within behind.behind
        where
          less : (r at : ℕ) → at ≤ n → 0 < at → r ≤ n → (0 < r → at < r) → ahead n r < ahead n at
          less zero zero a b d f = absurd (omega arith)
          less zero (suc i) a b d f = omega arith
          less (suc j) zero a b d f = absurd (omega arith)
          less (suc j) (suc i) a b d f = omega (arith, f (omega arith))

-- ---- whether any element fits
pub found-any : {A : Type 0} (q : A → Bool) (any : List A → Bool) → any [] ≡ false → ((x : A) (l : List A) → any (x ∷ l) ≡ q x || any l)
    → (i : ℕ) (l : List A) → is_found (first_from q i l) ≡ any l
unfolding first_from
found-any q any none more i [] = sym none
found-any q any none more i (x ∷ l) = go (q x) (found-any q any none more (i + 1) l) ∙ sym (more x l)
  where
    go : (b : Bool) → is_found (first_from q (i + 1) l) ≡ any l → is_found (cond b (Some i) (first_from q (i + 1) l)) ≡ b || any l
    go true e = refl
    go false e = e
