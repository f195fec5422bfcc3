-- Laws of the records of a day.
use Prim.Native.Nat.{ℕ, suc, ◌+◌, ◌≤◌}
use native.Mathlib.Numerals.{add-one}
use native.Mathlib.Nat.{add_assoc}
use native.Mathlib.Omega.{arith}
use mathlib.Core.Path.{◌≡◌, refl, sym, ap, ◌∙◌}
use mathlib.Core.Bool.{Bool, true, false, cond}
use mathlib.Core.List.{List, [], ◌∷◌, ◌++◌}
use lib.ListN.{length}
use Rattle.lists.specs.Lists.{tab}
use Rattle.days.specs.declared.calendar.Day.{Day}
use Rattle.table.specs.declared.Record.{Record}
use Rattle.table.specs.Table.{Rows, record_at, records_of}
use Rattle.table.specs.Daily.{stands_on, records_on, total_of}

-- ---- one list of records behind another
module _ (day : Day) (state : ℕ) where
  pub on-append : (rs ss : List Record) → records_on day state (rs ++ ss) ≡ records_on day state rs ++ records_on day state ss
  unfolding records_on
  on-append [] ss = refl
  on-append (r ∷ rs) ss = go (stands_on day state r) (on-append rs ss)
    where
      go : (b : Bool) → records_on day state (rs ++ ss) ≡ records_on day state rs ++ records_on day state ss
          → cond b (r ∷ records_on day state (rs ++ ss)) (records_on day state (rs ++ ss)) ≡ cond b (r ∷ records_on day state rs) (records_on day state rs) ++ records_on day state ss
      go true e = ap (λ (l : List Record). r ∷ l) e
      go false e = e

  -- one record more
  pub on-next : (t : Rows) (i : ℕ) → records_on day state (records_of t (i + 1)) ≡ records_on day state (records_of t i) ++ records_on day state (record_at t i ∷ [])
  unfolding records_of tab
  on-next t i = rw (add-one i) (on-append (tab i (record_at t)) (record_at t i ∷ []))

  module _ (r : Record) where
    pub on_one : stands_on day state r ≡ true → records_on day state (r ∷ []) ≡ r ∷ []
    unfolding records_on
    on_one h = rw h

    pub on_none : stands_on day state r ≡ false → records_on day state (r ∷ []) ≡ []
    unfolding records_on
    on_none h = rw h

  -- no more than there are
  pub on-few : (rs : List Record) → length (records_on day state rs) ≤ length rs
  unfolding records_on
  on-few [] = omega arith
  on-few (r ∷ rs) = go (stands_on day state r) (on-few rs)
    where
      go : (b : Bool) → length (records_on day state rs) ≤ length rs → length (cond b (r ∷ records_on day state rs) (records_on day state rs)) ≤ suc (length rs)
      go true h = omega arith
      go false h = omega arith

pub total-append : (rs ss : List Record) → total_of (rs ++ ss) ≡ total_of rs + total_of ss
unfolding total_of
total-append [] ss = omega arith
total-append (r ∷ rs) ss = ap (λ (n : ℕ). r.amount + n) (total-append rs ss) ∙ sym (add_assoc r.amount (total_of rs) (total_of ss))
