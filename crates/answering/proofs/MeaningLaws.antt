-- Laws of what an answer says.
use Prim.Native.Nat.{ℕ}
use mathlib.Core.Path.{◌≡◌}
use borrow.Author.Tests.{ne_eqb}
use Rattle.answering.specs.declared.meaning.Meaning.TheVariants.{Silent}
use Rattle.answering.specs.Answering.{payment_meaning, cancel_meaning}

-- a code that is neither 0 nor 7
module _ (code : ℕ) (zero : code ≡ 0 → ⊥) (seven : code ≡ 7 → ⊥) where
  pub payment-silent : Silent ≡ payment_meaning code
  unfolding payment_meaning
  payment-silent = rw (ne_eqb _ _ zero, ne_eqb _ _ seven)

  pub cancel-silent : Silent ≡ cancel_meaning code
  unfolding cancel_meaning
  cancel-silent = rw (ne_eqb _ _ zero, ne_eqb _ _ seven)
