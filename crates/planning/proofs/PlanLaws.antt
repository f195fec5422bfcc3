-- Laws of what the gate looks up for a request.
use Rattle.std.specs.Prelude.{Option, Some, None}
use Prim.Native.Nat.{ℕ, ◌≤◌, ◌<◌}
use native.Mathlib.Nat.{zero-add}
use native.Mathlib.Omega.{arith}
use mathlib.Core.Path.{◌≡◌, refl, sym, ◌∙◌}
use mathlib.Core.Bool.{Bool, true, false}
use lib.ListN.{length, get_or}
use lib.Seq.{length-take-le}
use Rattle.payments.specs.declared.Instruction.{Instruction}
use Rattle.table.specs.declared.Record.{Record}
use Rattle.table.specs.declared.Gate.{Gate}
use Rattle.lists.specs.Lists.{all_from}
use Rattle.table.specs.Table.{Rows, record_at, records_of, has_receipt, find_record}
use Rattle.table.specs.Accounts.{is_account, accounts_of, find_account}
use Rattle.fields.specs.declared.number.Number.{Number}
use Rattle.fields.specs.Amount.{is_amount}
use Rattle.fields.specs.Codes.{is_receipt}
use Rattle.texts.proofs.Tests.{and_left, and_right}
use Rattle.texts.proofs.DigitLaws.{within-high}
use Rattle.validity.specs.Valid.{Sound, ranges_good, authcode_good, record_good, gate_good, lent_good, table_good}
use Rattle.table.proofs.TableLaws.{length-records, get_d-records}
use Rattle.lists.proofs.ListLaws.{search-within, all-at}
use Rattle.planning.specs.Plan.{Within, record_found, account_of}
use Rattle.table.specs.Table.{no_record}
use Rattle.rules.specs.Answering.{is_cancel}

-- ---- a place that was found
pub place-below : (used n i : ℕ) (f : Option ℕ) → f ≡ Some i → Within f used → used ≤ n → i < n
place-below used n i f e w h = let l : i < used = w.at i e in omega arith

-- ---- the record that was found
module _ (t : Rows) (used : ℕ) (f : Option ℕ) where
  pub record-at : (i : ℕ) → f ≡ Some i → Within f used → (r : Record) → r ≡ record_at t i → r ≡ record_found (records_of t used) f
  record-at i e w r q = q ∙ rw e (sym (get_d-records t used i no_record (w.at i e)))

-- ---- what the check of row 68 gives for a plan
module _ (g : Gate) (t : Rows) (good : table_good g t ≡ true) where
  records-good : all_from (record_good g) 0 (records_of t g.used) ≡ true
  unfolding table_good
  records-good = and_right (gate_good g) _ (and_right (lent_good g t) _ good)

  -- a record's amount is in its range
  record-amount : (i : ℕ) → i < g.used → is_amount (get_or (records_of t g.used) i no_record).amount ≡ true
  unfolding record_good ranges_good
  record-amount i h =
      let r : Record = get_or (records_of t g.used) i no_record in
      let l : i < length (records_of t g.used) = rw (length-records t g.used) h in
      let a : record_good g i r ≡ true = all-at (record_good g) (records_of t g.used) no_record i records-good l in
      let b : ranges_good r ≡ true = and_left (ranges_good r) _ (and_right (authcode_good i r) _ a) in
      and_left (is_amount r.amount) _ (and_right (is_receipt r.receipt) _ b)

  module _ (x : ℕ) (f : Option ℕ) (is : f ≡ find_record x (records_of t g.used)) where
    pub found_within : Within f g.used
    unfolding find_record
    found_within = record { at = λ i e. rw (zero-add, length-records t g.used) at (search-within (has_receipt x) 0 (records_of t g.used) i (sym is ∙ e)) }

    pub found-amount : (r : Record) → r ≡ record_found (records_of t g.used) f → r.amount < 1000000000
    found-amount r e = rw e (go f refl)
      where
        go : (h : Option ℕ) → f ≡ h → (record_found (records_of t g.used) h).amount < 1000000000
        go (Some i) q = let b = within-high 1 999999999 (get_or (records_of t g.used) i no_record).amount (record-amount i (found_within.at i q)) in omega arith
        go None q = omega arith

-- an account that was looked for is in use
pub account-within : (g : Gate) (q : Instruction) (r : Record) (f : Option ℕ) → Sound g → f ≡ account_of g q r → Within f g.count
unfolding account_of find_account
account-within g q r f s is = go (is_cancel q.action) refl
  where
    inside : (n : Number) (k : ℕ) → f ≡ find_account n k (accounts_of g) → Within f g.count
    inside n k e =
        record { at = λ i h. rw (zero-add, length-take-le g.count g.accounts (omega (arith, s.count, s.places))) at (search-within (is_account n k) 0 (accounts_of g) i (sym e ∙ h)) }

    go : (z : Bool) → is_cancel q.action ≡ z → Within f g.count
    go true z = inside r.number r.kind (is ∙ rw z)
    go false z = inside q.details.number q.details.kind (is ∙ rw z)
