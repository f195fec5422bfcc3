-- Row 68 as facts: every clause but the balance bound, and what brings them all together again.
use Prim.Native.Nat.{ℕ, ◌<◌, ◌≤◌}
use native.Mathlib.Omega.{arith}
use mathlib.Core.Path.{◌≡◌, sym, ap, ◌∙◌}
use mathlib.Core.Bool.{true}
use lib.Dec.{leb}
use lib.ListN.{length, get_or}
use lib.Seq.{get_or-take}
use borrow.Author.Tests.{le-leb, leb-true}
use Rattle.days.specs.Calendar.{is_day}
use Rattle.fields.specs.Codes.{is_kind}
use Rattle.fields.specs.Number.{is_number}
use Rattle.texts.proofs.Tests.{and_left, and_right, and_both}
use Rattle.table.specs.declared.Gate.{Gate}
use Rattle.lists.specs.Lists.{all_from}
use Rattle.table.specs.Table.{Rows, record_at, records_of, Whole}
use Rattle.table.specs.Accounts.{accounts_of, no_account, balance_at}
use Rattle.validity.specs.Valid.{near, account_good, gate_good, record_good, lent_good, table_good, Ready}
use Rattle.lists.proofs.ListLaws.{all-at, all_of}
use Rattle.lists.proofs.LentLaws.{lent-facts, facts-lent}
use Rattle.table.proofs.TableLaws.{length-records, get_d-records}
use Rattle.table.proofs.AccountLaws.{in_use}
use Rattle.validity.proofs.RangeLaws.{near-mag}
use Rattle.table.specs.Table.{no_record}

-- every clause of row 68 but the balance bound
pub record Good (g : Gate) (t : Rows) : Type 0 where
  pub some : 1 ≤ length t.nums
  pub most : length t.nums ≤ 4096
  pub numbers : length t.numbers ≡ length t.nums
  pub dates : length t.dates ≡ length t.nums
  pub room : g.used ≤ length t.nums
  pub count : g.count ≤ 256
  pub closed : is_day g.closed ≡ true
  pub number : (i : ℕ) → i < g.count → is_number (get_or g.accounts i no_account).number ≡ true
  pub kind : (i : ℕ) → i < g.count → is_kind (get_or g.accounts i no_account).kind ≡ true
  pub records : (i : ℕ) → i < g.used → record_good g i (record_at t i) ≡ true

-- the balance bound
pub record Near (g : Gate) : Type 0 where
  pub balances : (i : ℕ) → i < g.count → near (balance_at g i) ≡ true

-- ---- from the test to the facts
-- every record in use is good
pub record-good : (g : Gate) (t : Rows) → table_good g t ≡ true → (i : ℕ) → i < g.used → record_good g i (record_at t i) ≡ true
unfolding table_good
record-good g t good i h =
    ap (record_good g i) (sym (get_d-records t g.used i no_record h))
    ∙ all-at (record_good g) (records_of t g.used) no_record i (and_right (gate_good g) _ (and_right (lent_good g t) _ good)) (omega (arith, length-records t g.used))

-- and they are at most 4,096
pub used-few : (g : Gate) (t : Rows) → table_good g t ≡ true → g.used ≤ 4096
unfolding table_good
used-few g t good = let lent = lent-facts _ _ _ _ (and_left (lent_good g t) _ good) in omega (arith, lent.room, lent.most)

module _ (g : Gate) (t : Rows) (places : length g.accounts ≡ 256) (good : table_good g t ≡ true) where
  lent-good : lent_good g t ≡ true
  unfolding table_good
  lent-good = and_left (lent_good g t) _ good

  gate-good : gate_good g ≡ true
  unfolding table_good
  gate-good = and_left (gate_good g) _ (and_right (lent_good g t) _ good)

  few : g.count ≤ 256
  unfolding gate_good
  few = leb-true g.count 256 (and_left (leb g.count 256) _ gate-good)

  account-good : (i : ℕ) → i < g.count → account_good (get_or g.accounts i no_account) ≡ true
  unfolding gate_good
  account-good i h =
      ap account_good (sym (get_or-take g.count g.accounts i no_account h))
      ∙ all-at (λ i a. account_good a) (accounts_of g) no_account i (and_right (is_day g.closed) _ (and_right (leb g.count 256) _ gate-good))
      (omega (arith, in_use g places few))

  -- the balances of a good table are in their bound
  pub near-table : Near g
  unfolding account_good
  near-table =
      record {
        balances = λ i h. and_right (is_kind (get_or g.accounts i no_account).kind) _ (and_right (is_number (get_or g.accounts i no_account).number) _ (account-good i h));
      }

  -- and every other clause holds
  pub good-table : Good g t
  unfolding table_good gate_good account_good
  good-table =
      let lent = lent-facts _ _ _ _ lent-good in
      record {
        some = lent.some;
        most = lent.most;
        numbers = lent.second;
        dates = lent.third;
        room = lent.room;
        count = few;
        closed = and_left (is_day g.closed) _ (and_right (leb g.count 256) _ gate-good);
        number = λ i h. and_left (is_number (get_or g.accounts i no_account).number) _ (account-good i h);
        kind = λ i h. and_left (is_kind (get_or g.accounts i no_account).kind) _ (and_right (is_number (get_or g.accounts i no_account).number) _ (account-good i h));
        records = record-good g t good;
      }

-- ---- and back
module _ (g : Gate) (t : Rows) (places : length g.accounts ≡ 256) (good : Good g t) (bound : Near g) where
  account-again : (i : ℕ) → i < g.count → account_good (get_or g.accounts i no_account) ≡ true
  unfolding account_good
  account-again i h = rw (good.number i h, good.kind i h, bound.balances i h)

  gate-again : gate_good g ≡ true
  unfolding gate_good
  gate-again =
      and_both (leb g.count 256) _ (le-leb _ _ good.count)
      (and_both (is_day g.closed) _ good.closed
      (all_of (λ i a. account_good a) (accounts_of g) no_account
      (λ i h. one i (omega (arith, in_use g places good.count)))))
    where
      one : (i : ℕ) → i < g.count → account_good (get_or (accounts_of g) i no_account) ≡ true
      one i h = ap account_good (get_or-take g.count g.accounts i no_account h) ∙ account-again i h

  records-again : all_from (record_good g) 0 (records_of t g.used) ≡ true
  records-again =
      all_of (record_good g) (records_of t g.used) no_record (λ i h. one i (omega (arith, length-records t g.used)))
    where
      one : (i : ℕ) → i < g.used → record_good g i (get_or (records_of t g.used) i no_record) ≡ true
      one i h = ap (record_good g i) (get_d-records t g.used i no_record h) ∙ good.records i h

  -- the clauses and the balance bound are row 68
  pub table-again : table_good g t ≡ true
  unfolding table_good
  table-again =
      let lent : lent_good g t ≡ true
      = facts-lent _ _ _ _ (record { some = good.some; most = good.most; second = good.numbers; third = good.dates; room = good.room }) in
      rw (lent, gate-again, records-again)

  -- and make the gate and the rows ready, where each used record has its lengths
  pub ready-again : Whole t g.used → Ready g t
  ready-again w =
      record {
        whole = w;
        same = record { numbers = good.numbers; dates = good.dates };
        funds = record { places = places; count = good.count; balances = λ i h. near-mag (balance_at g i) (bound.balances i h) };
        size = good.most;
      }
