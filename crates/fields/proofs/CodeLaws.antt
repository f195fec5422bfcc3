-- Receipts, types and reasons are read back from what is written.
use Rattle.std.specs.Prelude.{Some}
use Prim.Native.Nat.{ℕ, ◌≤◌, ◌<◌, ◌^◌}
use native.Mathlib.Omega.{arith}
use mathlib.Core.Path.{◌≡◌}
use mathlib.Core.Bool.{true}
use lib.ListN.{length}
use Rattle.texts.specs.Digits.{within, range_read, decimal}
use Rattle.fields.specs.Codes.{is_receipt, receipt_read, is_kind, kind_read, is_reason, reason_read}
use Rattle.texts.proofs.DigitLaws.{within-high}
use Rattle.texts.proofs.DecimalLaws.{range-again, decimal-most}

-- a field of k digits whose range ends below 10 ^ k
module _ (k low high v : ℕ) (some : 0 < k) (fit : high < 10 ^ k) (word : high < 2 ^ 64) (w : within low high v ≡ true) where
  pub code-again : range_read k low high (decimal v) ≡ Some v
  code-again = let h : v ≤ high = within-high low high v w in range-again k low high v some (omega arith) (omega arith) w

  pub code-length : length (decimal v) ≤ k
  code-length = let h : v ≤ high = within-high low high v w in decimal-most k v some (omega arith) (omega arith)

pub receipt-again : (v : ℕ) → is_receipt v ≡ true → receipt_read (decimal v) ≡ Some v
receipt-again v w = code-again 15 1 999999999999999 v (omega arith) (omega arith) (omega arith) w

pub kind-again : (v : ℕ) → is_kind v ≡ true → kind_read (decimal v) ≡ Some v
kind-again v w = code-again 3 0 999 v (omega arith) (omega arith) (omega arith) w

pub reason-again : (v : ℕ) → is_reason v ≡ true → reason_read (decimal v) ≡ Some v
reason-again v w = code-again 1 1 5 v (omega arith) (omega arith) (omega arith) w
