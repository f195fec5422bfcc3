-- Laws of an amount that is moved on the gate's own copy.
use Rattle.std.specs.Prelude.{Option, Some, None}
use Prim.Native.Nat.{ℕ, ◌^◌, ◌≤◌, ◌<◌}
use native.Mathlib.Omega.{arith}
use mathlib.Core.Path.{◌≡◌, sym, ap, ◌∙◌}
use mathlib.Core.List.{List}
use lib.IntN.{ℤ, pos, ◌+ℤ◌}
use lib.Signed.{mag}
use lib.ListN.{length}
use mir.Syntax.{w64}
use mir.Val.{to_z, of_z}
use Rattle.table.specs.declared.Gate.{Gate}
use Rattle.table.specs.Accounts.{balance_at, gate_balance, with_used, Funds}
use Rattle.table.proofs.SignedLaws.{back}
use Rattle.table.proofs.AccountLaws.{credit-is}
use Rattle.directory.specs.Directory.{Listed}
use Rattle.planning.specs.Plan.{Within}
use Rattle.ledger.specs.Change.{credited_at}
use Rattle.posting.specs.declared.applying.Due.{Due}
use Rattle.posting.specs.Steps.{paid}

-- ---- the account that was found has a balance within its bound
module _ (names keys : List (List ℕ)) (g : Gate) (listed : Listed names keys g) (f : Option ℕ) (within : Within f (length names)) (at : ℕ) (e : f ≡ Some at) where
  due_in : at < g.count
  due_in = omega (arith, within.at at e, listed.named)

  module _ (b : ℕ) (funds : Funds g b) where
    pub due-place : at < 256
    due-place = omega (arith, due_in, funds.count)

    pub due-balance : mag (balance_at g at) ≤ b
    due-balance = funds.balances at due_in

    -- and so as it is read
    pub due-near : b ≤ 10000000000000000 → mag (to_z w64 (of_z w64 (balance_at g at))) ≤ 10000000000000000
    due-near h = rw (back (balance_at g at) (omega (arith, due-balance))) (omega (arith, due-balance))

-- ---- what is due, credited
module _ (g : Gate) (d : Due) (n : ℕ) where
  pub paid-none : d.account ≡ None → with_used g d.used ≡ paid g d n
  paid-none e = rw e

  pub paid-at : (at : ℕ) → d.account ≡ Some at → mag (balance_at g at) ≤ 10000000000000000 → (z : ℤ) → mag z < 2 ^ 63
      → z ≡ to_z w64 (of_z w64 (balance_at g at)) +ℤ pos n → gate_balance (with_used g d.used) at z ≡ paid g d n
  paid-at at e near z fits ez =
      ap (λ (y : Gate). with_used y d.used) (credit-is g at n z near fits (gate_balance g at z) (ap (gate_balance g at) (sym (back z fits))) ez)
      ∙ ap (λ (f : Option ℕ). with_used (credited_at g f n) d.used) (sym e)
