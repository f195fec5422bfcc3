-- What a payment is known by, which no answer, writing or report changes; its state and its authcode may.
use mathlib.Core.Path.{◌≡◌, refl, ap, ◌∙◌}
use mathlib.Core.Bool.{true}
use Rattle.fields.specs.Amount.{is_amount}
use Rattle.fields.specs.Codes.{is_receipt, is_kind}
use Rattle.dates.specs.Date.{is_written}
use Rattle.texts.specs.Digits.{within}
use Rattle.fields.specs.Number.{is_number}
use Rattle.texts.proofs.Tests.{both}
use Rattle.book.specs.declared.Entry.{Entry}
use Rattle.book_validity.specs.BookValid.{entry_fields}

-- ---- the fields of an entry, as facts
pub record EntryParts (e : Entry) : Type 0 where
  pub receipt : is_receipt e.receipt ≡ true
  pub number : is_number e.number ≡ true
  pub kind : is_kind e.kind ≡ true
  pub amount : is_amount e.amount ≡ true
  pub date : is_written e.date ≡ true
  pub state : within 1 5 e.state ≡ true
  pub authcode : within 0 999999999999999 e.authcode ≡ true

pub entry-parts : (e : Entry) → entry_fields e ≡ true → EntryParts e
unfolding entry_fields
entry-parts e h =
    let r = both (is_receipt e.receipt) _ h in
    let n = both (is_number e.number) _ r.1 in
    let k = both (is_kind e.kind) _ n.1 in
    let a = both (is_amount e.amount) _ k.1 in
    let d = both (is_written e.date) _ a.1 in
    let s = both (within 1 5 e.state) _ d.1 in
    record { receipt = r.0; number = n.0; kind = k.0; amount = a.0; date = d.0; state = s.0; authcode = s.1 }

pub entry-again : (e : Entry) → EntryParts e → entry_fields e ≡ true
unfolding entry_fields
entry-again e p = rw (p.receipt, p.number, p.kind, p.amount, p.date, p.state, p.authcode)

-- ---- what an entry keeps for good
pub record SamePayment (e e' : Entry) : Type 0 where
  pub receipt : e'.receipt ≡ e.receipt
  pub number : e'.number ≡ e.number
  pub kind : e'.kind ≡ e.kind
  pub amount : e'.amount ≡ e.amount
  pub date : e'.date ≡ e.date

pub same-payment : (e : Entry) → SamePayment e e
same-payment e = record { receipt = refl; number = refl; kind = refl; amount = refl; date = refl }

-- such an entry in one of the five states, with an authcode of at most 15 digits, is good again
pub fields-kept : (e e' : Entry) → SamePayment e e' → EntryParts e → within 1 5 e'.state ≡ true → within 0 999999999999999 e'.authcode ≡ true → entry_fields e' ≡ true
fields-kept e e' s p state authcode =
    entry-again e'
    (record {
      receipt = ap is_receipt s.receipt ∙ p.receipt;
      number = ap is_number s.number ∙ p.number;
      kind = ap is_kind s.kind ∙ p.kind;
      amount = ap is_amount s.amount ∙ p.amount;
      date = ap is_written s.date ∙ p.date;
      state = state;
      authcode = authcode;
    })
