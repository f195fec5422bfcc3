-- Laws of lists that are lent in columns: the first elements of a column are what a list of records holds there, the others stay as they were lent.
use mathlib.Core.Path.{◌≡◌, sym, ap, ◌∙◌}
use mathlib.Core.Logic.{◌≢◌}
use mathlib.Core.List.{List, [], ◌∷◌, ◌++◌, map, map-append}
use Prim.Native.Nat.{ℕ, suc, ◌+◌, ◌-◌, ◌<◌, ◌≤◌}
use native.Mathlib.Numerals.{add-one}
use native.Mathlib.Omega.{arith}
use lib.ListN.{length, take, drop, get_or, set, length-append, take-append-drop, length-map, length-drop, get_or-append, get_or-map}
use lib.Seq.{length-take-le, set-append_left, set_split, append_snoc, set_at, drop-cons}
use Rattle.lists.specs.Lists.{tab}
use Rattle.lists.proofs.ListLaws.{tab-same, tab-set, map-set, get_d-other}

-- ---- records by their places: u is t with r at i
module _ {R : Type 0} (t u : ℕ → R) (i : ℕ) (r : R) (other : (j : ℕ) → j ≢ i → u j ≡ t j) (same : u i ≡ r) where
  pub tab-put : (n : ℕ) → i < n → tab n u ≡ set (tab n t) i r
  tab-put n l = tab-set n t u i l other ∙ ap (set (tab n t) i) same

  pub tab-add : tab (i + 1) u ≡ tab i t ++ (r ∷ [])
  unfolding tab
  tab-add =
      ap (λ (k : ℕ). tab k u) (add-one i)
      ∙ ap (λ (l : List R). l ++ (u i ∷ [])) (tab-same i u t (λ j l. other j (omega arith)))
      ∙ ap (λ (q : R). tab i t ++ (q ∷ [])) same

-- ---- a column that holds f of each record
module _ {R A : Type 0} (f : R → A) (l : List A) (rs : List R) where
  -- one set, where the column held the records before
  pub column-back : (n i : ℕ) (r : R) → map f rs ≡ take n l → i < n → n ≤ length l → map f (set rs i r) ++ drop n l ≡ set l i (f r)
  column-back n i r e h k =
      ap (λ (m : List _). m ++ drop n l) (map-set f rs i r ∙ ap (λ (m : List _). set m i (f r)) e)
      ∙ sym (set-append_left (take n l) (drop n l) i (f r) (omega (arith, length-take-le n l k)))
      ∙ ap (λ (m : List _). set m i (f r)) (take-append-drop n l)

  -- one more
  pub column-more : (n : ℕ) (r : R) → map f rs ≡ take n l → n < length l → map f (rs ++ (r ∷ [])) ++ drop (n + 1) l ≡ set l n (f r)
  column-more n r e k =
      ap (λ (m : List _). m ++ drop (n + 1) l) (map-append f rs (r ∷ []) ∙ ap (λ (m : List _). m ++ (f r ∷ [])) e)
      ∙ ap (λ (q : ℕ). take n l ++ (f r ∷ []) ++ drop q l) (add-one n)
      ∙ append_snoc (take n l) (f r) (drop (suc n) l)
      ∙ sym (set_split l n (f r) k)

  pub column-set : (i : ℕ) (r : R) → i < length rs → set (map f rs ++ drop (length rs) l) i (f r) ≡ map f (set rs i r) ++ drop (length rs) l
  column-set i r h =
      set-append_left (map f rs) (drop (length rs) l) i (f r) (omega (arith, h, length-map rs f))
      ∙ ap (λ (m : List _). m ++ drop (length rs) l) (sym (map-set f rs i r))

  pub column-next : (r : R) (z : A) → length rs < length l
      → set (map f rs ++ drop (length rs) l) (length rs) (f r) ≡ map f (rs ++ (r ∷ [])) ++ drop (length rs + 1) l
  column-next r z h =
      ap (λ (m : List _). set (map f rs ++ m) (length rs) (f r)) (drop-cons l (length rs) z h)
      ∙ set_at (map f rs) (get_or l (length rs) z) (drop (suc (length rs)) l) (f r) (length rs) (length-map rs f)
      ∙ sym (append_snoc (map f rs) (f r) (drop (suc (length rs)) l))
      ∙ ap (λ (m : List _). m ++ drop (suc (length rs)) l) (sym (map-append f rs (r ∷ [])))
      ∙ ap (λ (k : ℕ). map f (rs ++ (r ∷ [])) ++ drop k l) (sym (add-one (length rs)))

  pub column-at : (i : ℕ) (d : A) (z : R) → i < length rs → get_or (map f rs ++ drop (length rs) l) i d ≡ f (get_or rs i z)
  column-at i d z h =
      get_or-append (map f rs) (drop (length rs) l) d i (omega (arith, h, length-map rs f))
      ∙ get_d-other (map f rs) i d (f z) (omega (arith, h, length-map rs f))
      ∙ get_or-map f rs i z

  pub column-size : length (map f rs ++ drop (length rs) l) ≡ length rs + (length l - length rs)
  column-size = length-append (map f rs) (drop (length rs) l) ∙ omega (arith, length-map rs f, length-drop (length rs) l)
