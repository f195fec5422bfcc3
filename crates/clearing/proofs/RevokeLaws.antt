-- Laws of a record that is revoked in its place, and its amount taken off its account.
use Rattle.std.specs.Prelude.{Option, Some, None}
use Prim.Native.Nat.{ℕ, ◌+◌, ◌^◌, ◌<◌, ◌≤◌}
use native.Mathlib.Omega.{arith}
use mathlib.Core.Path.{◌≡◌, refl, sym, ap, ◌∙◌}
use mathlib.Core.List.{List}
use lib.IntN.{ℤ, pos, ◌-ℤ◌}
use lib.Signed.{mag}
use lib.ListN.{length, set, length-set}
use mir.Syntax.{w64}
use mir.Val.{to_z, of_z}
use Rattle.table.specs.declared.Gate.{Gate}
use Rattle.table.specs.declared.Record.{Record}
use Rattle.table.specs.Table.{Rows, records_of, rows_with}
use Rattle.table.specs.Accounts.{accounts_of, find_account, balance_at, gate_balance, debited}
use Rattle.table.proofs.SignedLaws.{back, mag_down}
use Rattle.table.proofs.AccountLaws.{holder-within, debit-is}
use Rattle.table.proofs.TableLaws.{length-records, rows-set}
use Rattle.table.specs.Accounts.{Funds}
use Rattle.ledger.specs.Change.{revoked, debited_at}
use Rattle.ledger.proofs.ChangeLaws.{debit-used}
use Rattle.posting.specs.Steps.{Held, Left}
use Rattle.posting.specs.Posting.{Ledger, ledger_of}
use Rattle.posting.proofs.HeldLaws.{funds-more, funds-moved, small-set, held_small, Step}

-- r cancelled in the place i, and its amount off its account
unfoldable pub revoked_at : List ℕ → Record → ℕ → Ledger → Ledger
revoked_at clock r i l =
    record {
      gate = debited_at l.gate (find_account r.number r.kind (accounts_of l.gate)) r.amount;
      records = set l.records i (revoked clock r);
    }

module _ (g : Gate) (b n : ℕ) (f : Funds g b) (few : n < 1000000000) where
  funds-debited : (a : ℕ) → a < g.count → Funds (debited g a n) (b + 1000000000)
  unfolding debited
  funds-debited a h = funds-moved g b (b + 1000000000) f (omega arith) a (balance_at g a -ℤ pos n) (omega (arith, mag_down (balance_at g a) n, f.balances a h))

  funds-debited-at : (k : Option ℕ) → ((a : ℕ) → k ≡ Some a → a < g.count) → Funds (debited_at g k n) (b + 1000000000)
  funds-debited-at None w = funds-more g b (b + 1000000000) f (omega arith)
  funds-debited-at (Some a) w = funds-debited a (w a refl)

module _ (g : Gate) (t : Rows) (b : ℕ) (held : Held g t b) (clock : List ℕ) (r : Record) (i : ℕ) (h : i < g.used) where
  pub revoke-step : r.amount < 1000000000 → Step t g.used (b + 1000000000) (revoked_at clock r i (ledger_of g t))
  unfolding revoked_at revoked
  revoke-step few =
      let rs : List Record = records_of t g.used in
      let size : length rs ≡ g.used = length-records t g.used in
      let as_long : length (set rs i (revoked clock r)) ≡ length rs = length-set rs i (revoked clock r) in
      let room = held.backed.whole.nums in
      let k : Option ℕ = find_account r.number r.kind (accounts_of g) in
      record {
        used = omega (arith, debit-used g k r.amount);
        longer = omega arith;
        room = omega arith;
        funds = funds-debited-at g b r.amount held.backed.funds few k (λ a e. holder-within g r.number r.kind a k refl e);
        small = small-set rs i (revoked clock r) (held_small g t b held) (λ _. few);
      }

  pub revoked-out : (t' : Rows) → t' ≡ rows_with t i (revoked clock r) → (k : Option ℕ) → k ≡ find_account r.number r.kind (accounts_of g)
      → (g' : Gate) → g' ≡ debited_at g k r.amount → Left t (revoked_at clock r i (ledger_of g t)) g' t'
  unfolding revoked_at
  revoked-out t' et k ek g' eg =
      record { gates = eg ∙ ap (λ (f : Option ℕ). debited_at g f r.amount) ek; left = et ∙ sym (rows-set t g.used held.backed.whole i (revoked clock r) h) }

-- ---- the account that was found, debited on the gate's own copy
module _ (g : Gate) (f : Option ℕ) (n : ℕ) where
  pub debited-none : f ≡ None → g ≡ debited_at g f n
  debited-none e = rw e

  pub debited-at : (at : ℕ) → f ≡ Some at → mag (balance_at g at) ≤ 10000000000000000 → (z : ℤ) → mag z < 2 ^ 63
      → z ≡ to_z w64 (of_z w64 (balance_at g at)) -ℤ pos n → gate_balance g at z ≡ debited_at g f n
  debited-at at e near z fits ez = debit-is g at n z near fits (gate_balance g at z) (ap (gate_balance g at) (sym (back z fits))) ez ∙ ap (λ (k : Option ℕ). debited_at g k n) (sym e)
