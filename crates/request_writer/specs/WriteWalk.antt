-- How the code writes a request, text by text. Cited by inner contracts only: it needs no belief.
use Rattle.std.specs.Prelude.{ℕ, List, [], ◌∷◌, ◌++◌, Bool, cond}
use Rattle.texts.specs.Digits.{decimal}
use Rattle.fields.specs.Amount.{amount_bytes}
use Rattle.fields.specs.Number.{number_text}
use Rattle.coding.specs.Url.{coded}
use Rattle.message.specs.declared.request.Asked.{Asked}
use Rattle.parameters.specs.Names.{action_name, number_name, kind_name, amount_name, receipt_name, date_name, reason_name, action_word, has_account, has_receipt, has_date, has_reason}

-- & name =
abbrev pub prefix : List ℕ → List ℕ
prefix name = 38 ∷ (name ++ (61 ∷ []))

abbrev pub pair_texts : Bool → List ℕ → List ℕ → List (List ℕ)
pair_texts used before value = cond used (before ∷ (coded value ∷ [])) []

abbrev pub account_texts : Asked → List (List ℕ)
account_texts q =
    pair_texts (has_account q.action) (prefix number_name) (number_text q.number)
    ++ (pair_texts (has_account q.action) (prefix kind_name) (decimal q.kind) ++ pair_texts (has_account q.action) (prefix amount_name) (amount_bytes q.amount))

abbrev pub payment_texts : Asked → List (List ℕ)
payment_texts q =
    pair_texts (has_receipt q.action) (prefix receipt_name) (decimal q.receipt)
    ++ (pair_texts (has_date q.action) (prefix date_name) q.date ++ pair_texts (has_reason q.action) (prefix reason_name) (decimal q.reason))

unfoldable pub request_texts : Asked → List (List ℕ)
request_texts q = ((action_name ++ (61 ∷ [])) ∷ (action_word q.action ∷ [])) ++ (account_texts q ++ payment_texts q)
