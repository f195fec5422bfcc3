-- Laws of what a load is made of: the test at each of its ways out, and its facts.
use Prim.Native.Nat.{ℕ, ◌+◌, ◌≤◌, ◌<◌}
use native.Mathlib.Omega.{arith}
use mathlib.Core.Path.{◌≡◌, sym, ap, ◌∙◌}
use mathlib.Core.List.{List, []}
use mathlib.Core.Bool.{Bool, true, false, not}
use lib.Dec.{eqb, leb}
use lib.ListN.{length, get_or, drop}
use borrow.Author.Tests.{leb-true, eqb-true, not-true, not-false}
use Rattle.texts.specs.Digits.{within}
use Rattle.texts.proofs.Tests.{both}
use Rattle.fields.specs.Codes.{is_reason}
use Rattle.dates.specs.Date.{is_written}
use Rattle.lists.specs.Lists.{all_from}
use Rattle.lists.proofs.ListLaws.{length-tab, get_d-tab, all_more, all-not, all_end, all-at}
use Rattle.workload.specs.declared.given.AccountName.{AccountName}
use Rattle.workload.specs.Given.{Load, account_at, accounts_of, is_account_name, is_load, GoodLoad}

-- ---- all accounts, of which i have passed
abbrev no_name : AccountName
no_name = account_at [] [] 0

module _ (names keys : List (List ℕ)) where
  abbrev each : List AccountName → ℕ → Bool
  each l i = all_from (λ i a. is_account_name a) i l

  size_is : length (accounts_of names keys) ≡ length names
  unfolding accounts_of
  size_is = length-tab (length names) (account_at names keys)

  pub name-at : (i : ℕ) → i < length names → get_or (accounts_of names keys) i no_name ≡ account_at names keys i
  unfolding accounts_of
  name-at i h = get_d-tab (length names) (account_at names keys) i no_name h

  module _ (i : ℕ) (passed : each (accounts_of names keys) 0 ≡ each (drop i (accounts_of names keys)) i) where
    module _ (below : i < length names) (a : AccountName) (is : a ≡ account_at names keys i) (t : Bool) (e : t ≡ is_account_name a) where
      here : is_account_name (get_or (accounts_of names keys) i no_name) ≡ t
      here = rw (name-at i below, ← is) (sym e)

      pub accounts-step : not t ≡ false → each (accounts_of names keys) 0 ≡ each (drop (i + 1) (accounts_of names keys)) (i + 1)
      accounts-step y = passed ∙ all_more (λ i a. is_account_name a) i (accounts_of names keys) no_name (omega (arith, size_is)) (here ∙ not-false t y)

      pub accounts-fail : not t ≡ true → false ≡ each (accounts_of names keys) 0
      accounts-fail y = sym (passed ∙ all-not (λ i a. is_account_name a) i (accounts_of names keys) no_name (omega (arith, size_is)) (here ∙ not-true t y))

    pub accounts-end : length names ≤ i → true ≡ each (accounts_of names keys) 0
    accounts-end b = sym (passed ∙ all_end (λ i a. is_account_name a) i (accounts_of names keys) no_name (omega (arith, size_is)))

-- ---- what is given
module _ (l : Load) where
  abbrev names-good : Bool
  names-good = all_from (λ i a. is_account_name a) 0 (accounts_of l.names l.keys)

  -- a good load, by its test
  pub good-load : is_load l ≡ true → GoodLoad l
  unfolding is_load
  good-load h =
      let p = both (is_written l.date) _ h in
      let q = both (is_reason l.reason) _ p.1 in
      let r = both (within 1 256 (length l.names)) _ q.1 in
      let s = both (eqb (length l.keys) (length l.names)) names-good r.1 in
      record { dated = p.0; reasoned = q.0; some = r.0; paired = eqb-true _ _ s.0; named = s.1 }

  -- what a good load says of its accounts
  module _ (g : GoodLoad l) where
    pub has-names : 1 ≤ length l.names
    has-names = leb-true 1 (length l.names) (both (leb 1 (length l.names)) (leb (length l.names) 256) g.some).0

    pub named-at : (i : ℕ) → i < length l.names → is_account_name (account_at l.names l.keys i) ≡ true
    named-at i h =
        ap is_account_name (sym (name-at l.names l.keys i h))
        ∙ all-at (λ i a. is_account_name a) (accounts_of l.names l.keys) no_name i g.named (omega (arith, size_is l.names l.keys))

pub ruleset accounts_good_laws = (accounts-step, accounts-fail, accounts-end)

pub ruleset is_load_laws = (good-load)
