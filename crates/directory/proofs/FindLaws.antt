-- Laws of the lookup: the accounts of the rows, and those of a gate that they list.
use Rattle.std.specs.Prelude.{Option, Some, None}
use mathlib.Core.Path.{◌≡◌, refl, sym, ap, ◌∙◌}
use mathlib.Core.Bool.{Bool, true, false, cond}
use mathlib.Core.List.{List, [], ◌∷◌, map}
use Prim.Native.Nat.{ℕ, ◌+◌, ◌<◌, ◌≤◌}
use native.Mathlib.Omega.{arith}
use native.Mathlib.Decide.{ℕ_discrete}
use lib.IntN.{ℤ, pos}
use lib.ListN.{length, drop, get_or, length-set}
use lib.Seq.{get_or-set_same, get_or-set_other}
use Rattle.fields.specs.declared.number.Number.{Number}
use Rattle.lists.specs.Lists.{tab, first_from}
use Rattle.lists.proofs.ListLaws.{length-tab, get_d-tab, map-tab, tab-same, tab-take, search-hit, search-miss, search-end, search-within}
use Rattle.table.specs.declared.Account.{Account}
use Rattle.table.specs.declared.Gate.{Gate}
use Rattle.table.specs.Accounts.{is_account, accounts_of, find_account, no_account, with_balance, gate_balance, with_used}
use Rattle.directory.specs.Directory.{digest_of, holder_at, holders_of, bare_at, Keyed, Listed}
use Rattle.directory.proofs.DigestLaws.{digest-agrees}

-- ---- a loop that has passed i accounts
module _ (names keys : List (List ℕ)) (n : Number) (k i : ℕ)
    (passed : find_account n k (holders_of names keys) ≡ first_from (is_account n k) i (drop i (holders_of names keys))) where
  size : length (holders_of names keys) ≡ length names
  unfolding holders_of
  size = length-tab (length names) (holder_at names keys)

  module _ (a : Account) (ea : a ≡ holder_at names keys i) (t : Bool) (et : t ≡ is_account n k a) (h : i < length names) where
    tested : is_account n k (get_or (holders_of names keys) i no_account) ≡ t
    unfolding holders_of
    tested = ap (is_account n k) (get_d-tab (length names) (holder_at names keys) i no_account h ∙ sym ea) ∙ sym et

    pub holder-here : t ≡ true → Some i ≡ find_account n k (holders_of names keys)
    holder-here e = sym (passed ∙ search-hit (is_account n k) i (holders_of names keys) no_account (omega (arith, size)) (tested ∙ e))

    pub holder-other : t ≡ false → find_account n k (holders_of names keys) ≡ first_from (is_account n k) (i + 1) (drop (i + 1) (holders_of names keys))
    holder-other e = passed ∙ search-miss (is_account n k) i (holders_of names keys) no_account (omega (arith, size)) (tested ∙ e)

  pub holder-digest : Keyed names keys → i < length names → (d : ℕ) → d ≡ digest_of n k → (get_or (get_or keys i []) 2 0 ≡ d → ⊥)
      → find_account n k (holders_of names keys) ≡ first_from (is_account n k) (i + 1) (drop (i + 1) (holders_of names keys))
  holder-digest keyed h d ed other = holder-other (holder_at names keys i) refl (is_account n k (holder_at names keys i)) refl h (no-fit (is_account n k (holder_at names keys i)) refl)
    where
      no-fit : (t : Bool) → is_account n k (holder_at names keys i) ≡ t → is_account n k (holder_at names keys i) ≡ false
      no-fit false e = e
      no-fit true e = absurd (other (keyed.digests.each i h ∙ digest-agrees n k (holder_at names keys i) e ∙ sym ed))

  pub holder-none : length names ≤ i → None ≡ find_account n k (holders_of names keys)
  holder-none h = sym (passed ∙ search-end (is_account n k) i (holders_of names keys) no_account (omega (arith, size)))

pub key-place : (names keys : List (List ℕ)) → Keyed names keys → (i : ℕ) → i < length names → i < length keys
key-place names keys keyed i h = omega (arith, keyed.same)

-- what is found is one of the rows
pub holder_in : (names keys : List (List ℕ)) (n : Number) (k i : ℕ) (f : Option ℕ) → f ≡ find_account n k (holders_of names keys) → f ≡ Some i → i < length names
unfolding find_account holders_of
holder_in names keys n k i f e h = omega (arith, search-within (is_account n k) 0 (holders_of names keys) i (sym e ∙ h), length-tab (length names) (holder_at names keys))

-- a search in a list that is mapped
first-map : {A B : Type 0} (f : A → B) (p : B → Bool) (i : ℕ) (l : List A) → first_from p i (map f l) ≡ first_from (λ a. p (f a)) i l
unfolding first_from
first-map f p i [] = refl
first-map f p i (x ∷ l) = ap (λ (r : Option ℕ). cond (p (f x)) (Some i) r) (first-map f p (i + 1) l)

module _ (names keys : List (List ℕ)) (g : Gate) (listed : Listed names keys g) where
  -- a lookup in the rows is one among the accounts: balances do not matter
  pub listed-find : (n : Number) (k : ℕ) → find_account n k (holders_of names keys) ≡ find_account n k (accounts_of g)
  unfolding find_account holders_of is_account
  listed-find n k =
      ap (first_from (is_account n k) 0)
      (ap (λ (m : ℕ). tab m (holder_at names keys)) listed.named
      ∙ tab-same g.count (holder_at names keys) (bare_at g) listed.filled.each
      ∙ sym (map-tab g.count (λ i. get_or g.accounts i no_account) (λ (a : Account). with_balance a (pos 0)))
      ∙ ap (map (λ (a : Account). with_balance a (pos 0))) (tab-take g.count g.accounts no_account listed.room))
      ∙ first-map (λ (a : Account). with_balance a (pos 0)) (is_account n k) 0 (accounts_of g)

  -- the rows stay right while a balance moves
  pub listed-moved : (a : ℕ) (z : ℤ) → Listed names keys (gate_balance g a z)
  listed-moved a z =
      record {
        named = listed.named;
        keyed = listed.keyed;
        room = omega (arith, listed.room, length-set g.accounts a moved);
        filled = record { each = λ i h. listed.filled.each i h ∙ sym (one i h (ℕ_discrete i a)) };
      }
    where
      moved : Account
      moved = with_balance (get_or g.accounts a no_account) z

      one : (i : ℕ) → i < g.count → Dec (i ≡ a) → bare_at (gate_balance g a z) i ≡ bare_at g i
      one i h (yes e) =
          let k : a < length g.accounts = omega (arith, listed.room) in
          ap (λ (j : ℕ). bare_at (gate_balance g a z) j) e
          ∙ ap (λ (y : Account). with_balance y (pos 0)) (get_or-set_same g.accounts a moved no_account k)
          ∙ ap (bare_at g) (sym e)
      one i h (no d) = ap (λ (y : Account). with_balance y (pos 0)) (get_or-set_other g.accounts a i moved no_account d)

  pub listed-used : (n : ℕ) → Listed names keys (with_used g n)
  listed-used n = record { named = listed.named; keyed = listed.keyed; room = listed.room; filled = record { each = listed.filled.each } }
