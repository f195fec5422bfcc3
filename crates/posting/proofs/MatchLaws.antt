-- Laws of the record that a line matches.
use Rattle.std.specs.Prelude.{Option, Some}
use Prim.Native.Nat.{ℕ, ◌<◌}
use native.Mathlib.Omega.{arith}
use mathlib.Core.Path.{◌≡◌, sym, ◌∙◌}
use mathlib.Core.Bool.{true}
use borrow.Author.Tests.{eqb-true}
use Rattle.texts.proofs.Tests.{and_left, and_right}
use Rattle.lines.specs.declared.line.Line.{Line}
use Rattle.table.specs.declared.Record.{Record}
use Rattle.lists.specs.Lists.{first_from}
use Rattle.table.specs.Table.{Rows, records_of, has_receipt}
use Rattle.lists.proofs.ListLaws.{search-within}
use Rattle.table.proofs.TableLaws.{length-records}
use Rattle.table.proofs.PaymentLaws.{SameFour, payment-four}
use Rattle.posting.specs.Posting.{matches}

-- ---- one record
module _ (x : Line) (r : Record) where
  -- a line and a record that match, taken apart
  pub match-receipt : matches x r ≡ true → r.receipt ≡ x.receipt
  unfolding matches
  match-receipt h = eqb-true _ _ (and_left _ _ h)

  pub match-four : matches x r ≡ true → SameFour x.number x.kind x.amount x.date r
  unfolding matches
  match-four h = payment-four _ _ _ _ r (and_right (has_receipt x.receipt r) _ h)

-- ---- the first that matches
pub match-within : (t : Rows) (n : ℕ) (x : Line) (i : ℕ) (f : Option ℕ) → f ≡ first_from (matches x) 0 (records_of t n) → f ≡ Some i → i < n
match-within t n x i f e h = omega (arith, search-within (matches x) 0 (records_of t n) i (sym e ∙ h), length-records t n)
