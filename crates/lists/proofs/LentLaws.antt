-- Laws of rows that are lent: the test at each of its ways out, its facts, and what a caller has of them.
use Prim.Native.Nat.{ℕ, ◌<◌}
use mathlib.Core.Path.{◌≡◌}
use mathlib.Core.Bool.{Bool, true, false, not, ◌&&◌, and-false}
use lib.Dec.{eqb, leb}
use borrow.Author.Tests.{le-leb, lt-leb, eq-eqb, leb-true, eqb-true, not-false}
use Rattle.texts.proofs.Tests.{both}
use Rattle.lists.specs.Lent.{lent_well, Lent}

module _ (used n m k : ℕ) where
  pub lent-facts : lent_well used n m k ≡ true → Lent used n m k
  unfolding lent_well
  lent-facts h =
      let p = both (leb 1 n) (leb n 4096 && (eqb m n && (eqb k n && leb used n))) h in
      let q = both (leb n 4096) (eqb m n && (eqb k n && leb used n)) p.1 in
      let r = both (eqb m n) (eqb k n && leb used n) q.1 in
      let s = both (eqb k n) (leb used n) r.1 in
      record { some = leb-true _ _ p.0; most = leb-true _ _ q.0; second = eqb-true _ _ r.0; third = eqb-true _ _ s.0; room = leb-true _ _ s.1 }

  pub facts-lent : Lent used n m k → lent_well used n m k ≡ true
  unfolding lent_well
  facts-lent h = rw (le-leb _ _ h.some, le-leb _ _ h.most, eq-eqb _ _ h.second, eq-eqb _ _ h.third, le-leb _ _ h.room)

  pub lent_none : n < 1 → false ≡ lent_well used n m k
  unfolding lent_well
  lent_none h = rw (lt-leb _ _ h)

  pub lent-many : 4096 < n → false ≡ lent_well used n m k
  unfolding lent_well
  lent-many h = simp (lt-leb _ _ h, and-false)

  -- behind the test
  module _ (b : Bool) (f : b ≡ true → Lent used n m k) (y : not b ≡ false) where
    pub lent_is : Lent used n m k
    lent_is = f (not-false b y)
