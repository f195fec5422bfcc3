-- What the test of a line says of its fields, and how long each is written.
use Prim.Native.Nat.{◌≤◌}
use native.Mathlib.Omega.{arith}
use mathlib.Core.Path.{◌≡◌}
use mathlib.Core.Bool.{true}
use lib.ListN.{length, length-append}
use Rattle.texts.specs.Digits.{decimal}
use Rattle.fields.specs.Amount.{is_amount, amount_bytes}
use Rattle.fields.specs.Codes.{is_receipt, is_kind}
use Rattle.fields.specs.Number.{number_text, is_number}
use Rattle.dates.specs.Date.{is_written}
use Rattle.texts.proofs.Tests.{both}
use Rattle.fields.proofs.CodeLaws.{code-length}
use Rattle.fields.proofs.AmountLaws.{amount-length}
use Rattle.fields.proofs.NumberLaws.{text-short}
use Rattle.dates.proofs.DateLaws.{written-parts}
use Rattle.lines.specs.declared.line.Line.{Line}
use Rattle.lines.specs.Line.{is_line, line_body, line_bytes, line_text}

pub record IsLine (x : Line) : Type 0 where
  pub number : is_number x.number ≡ true
  pub kind : is_kind x.kind ≡ true
  pub date : is_written x.date ≡ true
  pub amount : is_amount x.amount ≡ true
  pub receipt : is_receipt x.receipt ≡ true

pub is-line : (x : Line) → is_line x ≡ true → IsLine x
unfolding is_line
is-line x h =
    let a = both (is_number x.number) _ h in
    let b = both (is_kind x.kind) _ a.1 in
    let c = both (is_written x.date) _ b.1 in
    let d = both (is_amount x.amount) _ c.1 in
    record { number = a.0; kind = b.0; date = c.0; amount = d.0; receipt = d.1 }

pub line-is : (x : Line) → IsLine x → is_line x ≡ true
unfolding is_line
line-is x h = rw (h.number, h.kind, h.date, h.amount, h.receipt)

-- `omega` reads the fields
pub record Sizes (x : Line) : Type 0 where
  pub number : length (number_text x.number) ≤ 30
  pub kind : length (decimal x.kind) ≤ 3
  pub date : length x.date ≡ 19
  pub amount : length (amount_bytes x.amount) ≤ 10
  pub receipt : length (decimal x.receipt) ≤ 15

module _ (x : Line) (good : is_line x ≡ true) where
  -- its text is the line with its end
  pub text-is : line_text x ≡ line_bytes x
  unfolding line_text
  text-is = rw good

  pub sizes : Sizes x
  sizes =
      let h = is-line x good in
      record {
        number = text-short x.number h.number;
        kind = code-length 3 0 999 x.kind (omega arith) (omega arith) (omega arith) h.kind;
        date = (written-parts x.date h.date).size;
        amount = amount-length x.amount h.amount;
        receipt = code-length 15 1 999999999999999 x.receipt (omega arith) (omega arith) (omega arith) h.receipt;
      }

  -- a line has at most 83 bytes
  pub line-length : length (line_bytes x) ≤ 83
  unfolding line_body line_bytes
  line-length = simp length-append (omega (arith, sizes))
