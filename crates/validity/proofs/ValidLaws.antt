-- Row 68: a record's account, the records in use, and the lent table, test by test.
use mathlib.Core.Path.{◌≡◌, sym, ap, ◌∙◌}
use mathlib.Core.Bool.{Bool, true, false, ◌&&◌, and-false, and_assoc}
use mathlib.Core.List.{[]}
use Prim.Native.Nat.{ℕ, ◌+◌, ◌<◌, ◌≤◌}
use native.Mathlib.Omega.{arith}
use lib.Dec.{ltb}
use lib.ListN.{length, drop, get_or}
use lib.Seq.{get_or-take}
use borrow.Author.Tests.{ltb-true}
use Rattle.texts.proofs.Tests.{and_left, and_right}
use Rattle.table.specs.declared.Account.{Account}
use Rattle.table.specs.declared.Gate.{Gate}
use Rattle.table.specs.declared.Record.{Record}
use Rattle.lists.specs.Lists.{is_found, all_from}
use Rattle.table.specs.Table.{Rows, record_from, record_at, records_of}
use Rattle.table.specs.Accounts.{is_account, accounts_of, find_account, no_account}
use Rattle.validity.specs.Valid.{state_good, ranges_good, authcode_good, account_known, record_good, lent_good, gate_good, table_good, Sound}
use Rattle.lists.proofs.ListLaws.{all_more, all-not, all_end, found_some}
use Rattle.table.proofs.TableLaws.{length-records, get_d-records}
use Rattle.table.proofs.AccountLaws.{in_use}

-- ---- a guess at a record's account
-- an account in use that fits is enough
guess-known : (g : Gate) (r : Record) (at : ℕ) → length g.accounts ≡ 256 → g.count ≤ 256
    → ltb at g.count && is_account r.number r.kind (get_or g.accounts at no_account) ≡ true → account_known g r ≡ true
unfolding account_known find_account
guess-known g r at size few h =
    let fits : Account → Bool = is_account r.number r.kind in
    let l : at < g.count = ltb-true at g.count (and_left (ltb at g.count) (fits (get_or g.accounts at no_account)) h) in
    let q : fits (get_or g.accounts at no_account) ≡ true = and_right (ltb at g.count) (fits (get_or g.accounts at no_account)) h in
    found_some fits (accounts_of g) no_account at (omega (arith, in_use g size few)) (ap fits (get_or-take g.count g.accounts at no_account l) ∙ q)

-- ---- the records in use: a loop that has passed i of them
good-both : (g : Gate) (i : ℕ) (r : Record) → authcode_good i r && ranges_good r ≡ true → account_known g r ≡ true → record_good g i r ≡ true
unfolding record_good
good-both g i r h k = rw (and_left (authcode_good i r) (ranges_good r) h, and_right (authcode_good i r) (ranges_good r) h, k)

good-own : (g : Gate) (i : ℕ) (r : Record) → authcode_good i r && ranges_good r ≡ false → record_good g i r ≡ false
unfolding record_good
good-own g i r h = rw (← and_assoc (authcode_good i r) (ranges_good r) (account_known g r), h)

good-known : (g : Gate) (i : ℕ) (r : Record) → account_known g r ≡ false → record_good g i r ≡ false
unfolding record_good
good-known g i r h = simp (h, and-false)

-- the record at i but for its number
abbrev pub field_own : Rows → ℕ → Record
field_own t i = record_from (get_or t.nums i []) [] (get_or t.dates i [])

-- what a record holds by itself says nothing of its account's number
own_at : (t : Rows) (i : ℕ) (own : Bool) → own ≡ authcode_good i (field_own t i) && ranges_good (field_own t i) → own ≡ authcode_good i (record_at t i) && ranges_good (record_at t i)
unfolding authcode_good ranges_good state_good
own_at t i own o = o

module _ (g : Gate) (t : Rows) (i : ℕ) (passed : all_from (record_good g) 0 (records_of t g.used) ≡ all_from (record_good g) i (drop i (records_of t g.used))) where
  module _ (h : i < g.used) where
    record-step : record_good g i (record_at t i) ≡ true → all_from (record_good g) 0 (records_of t g.used) ≡ all_from (record_good g) (i + 1) (drop (i + 1) (records_of t g.used))
    record-step y =
        passed ∙ all_more (record_good g) i (records_of t g.used) (record_at t i) (omega (arith, length-records t g.used))
        (ap (record_good g i) (get_d-records t g.used i (record_at t i) h) ∙ y)

    record-fails : record_good g i (record_at t i) ≡ false → false ≡ all_from (record_good g) 0 (records_of t g.used)
    record-fails y =
        sym (passed ∙ all-not (record_good g) i (records_of t g.used) (record_at t i) (omega (arith, length-records t g.used))
        (ap (record_good g i) (get_d-records t g.used i (record_at t i) h) ∙ y))

    module _ (own : Bool) (o : own ≡ authcode_good i (field_own t i) && ranges_good (field_own t i)) where
      pub record-own : own ≡ false → false ≡ all_from (record_good g) 0 (records_of t g.used)
      record-own n = record-fails (good-own g i (record_at t i) (sym (own_at t i own o) ∙ n))

      pub record-guessed : own ≡ true → Sound g → (at : ℕ) (x : Account) → x ≡ get_or g.accounts at no_account
          → (s : Bool) → s ≡ ltb at g.count && is_account (record_at t i).number (record_at t i).kind x → s ≡ true
          → all_from (record_good g) 0 (records_of t g.used) ≡ all_from (record_good g) (i + 1) (drop (i + 1) (records_of t g.used))
      record-guessed n sound at x ex s q y =
          record-step (good-both g i (record_at t i) (sym (own_at t i own o) ∙ n) (guess-known g (record_at t i) at sound.places sound.count
          (ap (λ (z : Account). ltb at g.count && is_account (record_at t i).number (record_at t i).kind z) (sym ex) ∙ sym q ∙ y)))

      module _ (known : Bool) (k : known ≡ is_found (find_account (record_at t i).number (record_at t i).kind (accounts_of g))) where
        pub record-stranger : known ≡ false → false ≡ all_from (record_good g) 0 (records_of t g.used)
        unfolding account_known
        record-stranger n = record-fails (good-known g i (record_at t i) (sym k ∙ n))

        pub record-known : own ≡ true → known ≡ true
            → all_from (record_good g) 0 (records_of t g.used) ≡ all_from (record_good g) (i + 1) (drop (i + 1) (records_of t g.used))
        unfolding account_known
        record-known n m = record-step (good-both g i (record_at t i) (sym (own_at t i own o) ∙ n) (sym k ∙ m))

  pub records-end : g.used ≤ i → true ≡ all_from (record_good g) 0 (records_of t g.used)
  records-end h = sym (passed ∙ all_end (record_good g) i (records_of t g.used) (record_at t i) (omega (arith, length-records t g.used)))

-- ---- the lent table
module _ (g : Gate) (t : Rows) where
  pub table-lent : (l : Bool) → l ≡ lent_good g t → l ≡ false → false ≡ table_good g t
  unfolding table_good
  table-lent l e n = rw (← e, n)

  module _ (l : Bool) (lent : l ≡ lent_good g t) (m : l ≡ true) (s : Bool) (e : s ≡ gate_good g) where
    pub table-gate : s ≡ false → s ≡ table_good g t
    unfolding table_good
    table-gate n = n ∙ rw (← lent, m, ← e, n)

    pub table-records : s ≡ true → (r : Bool) → r ≡ all_from (record_good g) 0 (records_of t g.used) → r ≡ table_good g t
    unfolding table_good
    table-records n r q = q ∙ rw (← lent, m, ← e, n)
