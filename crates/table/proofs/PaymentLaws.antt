-- Laws of the comparison of a payment with a record.
use Prim.Native.Nat.{ℕ}
use mathlib.Core.Path.{◌≡◌}
use mathlib.Core.Bool.{true}
use mathlib.Core.List.{List}
use lib.Dec.{eqb}
use borrow.Author.Tests.{eq-eqb, eqb-true}
use Rattle.texts.proofs.Tests.{both}
use Rattle.texts.proofs.ScanLaws.{eq_list-true, eq_list-refl}
use Rattle.fields.specs.declared.number.Number.{Number}
use Rattle.fields.specs.Number.{same_number}
use Rattle.table.specs.declared.Record.{Record}
use Rattle.table.specs.Table.{same_payment}

-- ---- it holds exactly where all four are the same
pub record SameFour (n : Number) (k m : ℕ) (d : List ℕ) (r : Record) : Type 0 where
  pub number : same_number r.number n ≡ true
  pub kind : r.kind ≡ k
  pub amount : r.amount ≡ m
  pub date : r.date ≡ d

module _ (n : Number) (k m : ℕ) (d : List ℕ) (r : Record) where
  pub payment-four : same_payment n k m d r ≡ true → SameFour n k m d r
  unfolding same_payment
  payment-four h =
      let a = both (same_number r.number n) _ h in
      let b = both (eqb r.kind k) _ a.1 in
      let c = both (eqb r.amount m) _ b.1 in
      record { number = a.0; kind = eqb-true _ _ b.0; amount = eqb-true _ _ c.0; date = eq_list-true r.date d c.1 }

  pub four-payment : SameFour n k m d r → same_payment n k m d r ≡ true
  unfolding same_payment
  four-payment f = rw (f.number, eq-eqb _ _ f.kind, eq-eqb _ _ f.amount, f.date) (eq_list-refl d)
