-- What a line is made of stands above the blank: no separator of fields or lines is in a date, a number, digits or a request.
use Prim.Native.Nat.{ℕ, ◌<◌}
use native.Mathlib.Omega.{arith}
use mathlib.Core.Path.{◌≡◌, refl, ◌∙◌}
use mathlib.Core.List.{List, [], ◌∷◌, ◌++◌}
use mathlib.Core.Bool.{Bool, true}
use lib.Dec.{ltb}
use lib.ListN.{length}
use borrow.Author.Tests.{lt-ltb, eqb-true}
use Rattle.texts.specs.Lists.{every, find}
use Rattle.texts.specs.Digits.{is_digit, within, decimal}
use Rattle.texts.proofs.Tests.{and_both, or_elim, cond-elim}
use Rattle.texts.proofs.ListLaws.{every_append, every-weaker}
use Rattle.texts.proofs.FindLaws.{find_absent}
use Rattle.texts.proofs.DigitLaws.{within_low, within-high}
use Rattle.texts.proofs.DecimalLaws.{decimal-digits}
use Rattle.fields.specs.declared.number.Number.{Number}
use Rattle.fields.specs.Amount.{amount_bytes}
use Rattle.fields.specs.Number.{number_byte, number_text, is_number}
use Rattle.fields.proofs.NumberLaws.{byte-above-blank, text-bytes}
use Rattle.fields.proofs.AmountLaws.{amount-bytes}
use Rattle.dates.specs.Date.{is_written}
use Rattle.dates.proofs.DateLaws.{date-bytes}
use Rattle.coding.specs.Url.{is_plain, is_byte, coded}
use Rattle.coding.specs.Units.{is_code}
use Rattle.coding.proofs.CodedLaws.{coded-codes}
use Rattle.payments.specs.declared.Action.{Action}
use Rattle.payments.specs.declared.Action.TheVariants.{Check, Payment, Status, Cancel}
use Rattle.parameters.specs.Names.{number_name, kind_name, amount_name, receipt_name, date_name, reason_name, action_word, has_account, has_receipt, has_date, has_reason}
use Rattle.message.specs.declared.request.Asked.{Asked}
use Rattle.message.specs.RequestText.{pair, pair_if, request_bytes}
use Rattle.message.proofs.RequestAgain.{number-is-byte}

-- a byte above the blank (32)
abbrev pub is_shown : ℕ → Bool
is_shown b = ltb 32 b

-- ---- bytes
module _ (b : ℕ) where
  range-shown : (low high : ℕ) → 32 < low → within low high b ≡ true → is_shown b ≡ true
  range-shown low high l h = let k : 32 < b = omega (arith, within_low low high b h) in lt-ltb 32 b k

  digit-shown : is_digit b ≡ true → is_shown b ≡ true
  digit-shown = range-shown 48 57 (omega arith)

  number-shown : number_byte b ≡ true → is_shown b ≡ true
  number-shown h = lt-ltb 32 b (byte-above-blank b h)

  plain-shown : is_plain b ≡ true → is_shown b ≡ true
  unfolding is_plain
  plain-shown =
      or_elim (within 65 90 b) _ (range-shown 65 90 (omega arith))
      (or_elim (within 97 122 b) _ (range-shown 97 122 (omega arith))
      (or_elim (within 48 58 b) _ (range-shown 48 58 (omega arith)) (range-shown 45 46 (omega arith))))

  -- what coded text is made of
  code-shown : is_code b ≡ true → is_shown b ≡ true
  unfolding is_code
  code-shown = or_elim (is_plain b) _ plain-shown (λ e. let k : 32 < b = omega (arith, eqb-true b 37 e) in lt-ltb 32 b k)

  -- what is coded is bytes
  digit-byte : is_digit b ≡ true → is_byte b ≡ true
  digit-byte h = let k : b < 256 = omega (arith, within-high 48 57 b h) in lt-ltb b 256 k

pub no-blank : (s : List ℕ) → every is_shown s ≡ true → find 32 s ≡ length s
no-blank s h = find_absent is_shown 32 s refl h

-- ---- texts
pub decimal-shown : (n : ℕ) → every is_shown (decimal n) ≡ true
decimal-shown n = every-weaker is_digit is_shown (decimal n) digit-shown (decimal-digits n)

pub text-shown : (x : Number) → is_number x ≡ true → every is_shown (number_text x) ≡ true
text-shown x h = every-weaker number_byte is_shown (number_text x) number-shown (text-bytes x h)

pub date-shown : (s : List ℕ) → is_written s ≡ true → every is_shown s ≡ true
date-shown s h = date-bytes is_shown s digit-shown refl refl refl h

-- ---- the pairs of a request
joined-shown : (s t : List ℕ) → every is_shown s ≡ true → every is_shown t ≡ true → every is_shown (s ++ t) ≡ true
joined-shown s t h k = every_append is_shown s t ∙ and_both (every is_shown s) (every is_shown t) h k

word-shown : (a : Action) → every is_shown (action_word a) ≡ true
unfolding every action_word
word-shown Check = refl
word-shown Payment = refl
word-shown Status = refl
word-shown Cancel = refl

pair-shown : (used : Bool) (name value : List ℕ) → every is_shown name ≡ true → every is_byte value ≡ true → every is_shown (pair_if used name value) ≡ true
unfolding pair every
pair-shown used name value h bytes =
    cond-elim (λ (s : List ℕ). every is_shown s ≡ true) used (pair name value) []
    (λ _. joined-shown name (61 ∷ coded value) h (every-weaker is_code is_shown (coded value) code-shown (coded-codes value bytes)))
    (λ _. refl)

-- digits as a value
figure-shown : (used : Bool) (name : List ℕ) (n : ℕ) → every is_shown name ≡ true → every is_shown (pair_if used name (decimal n)) ≡ true
figure-shown used name n h = pair-shown used name (decimal n) h (every-weaker is_digit is_byte (decimal n) digit-byte (decimal-digits n))

pub request-shown : (q : Asked) → is_number q.number ≡ true → is_written q.date ≡ true → every is_shown (request_bytes q) ≡ true
unfolding request_bytes every
request-shown q number date =
    joined-shown (61 ∷ action_word q.action) _ (word-shown q.action)
    (joined-shown (pair_if (has_account q.action) number_name (number_text q.number)) _
    (pair-shown (has_account q.action) number_name (number_text q.number) refl (every-weaker number_byte is_byte (number_text q.number) number-is-byte (text-bytes q.number number)))
    (joined-shown (pair_if (has_account q.action) kind_name (decimal q.kind)) _ (figure-shown (has_account q.action) kind_name q.kind refl)
    (joined-shown (pair_if (has_account q.action) amount_name (amount_bytes q.amount)) _
    (pair-shown (has_account q.action) amount_name (amount_bytes q.amount) refl (amount-bytes is_byte q.amount digit-byte refl))
    (joined-shown (pair_if (has_receipt q.action) receipt_name (decimal q.receipt)) _ (figure-shown (has_receipt q.action) receipt_name q.receipt refl)
    (joined-shown (pair_if (has_date q.action) date_name q.date) (pair_if (has_reason q.action) reason_name (decimal q.reason))
    (pair-shown (has_date q.action) date_name q.date refl (date-bytes is_byte q.date digit-byte refl refl refl date))
    (figure-shown (has_reason q.action) reason_name q.reason refl))))))
