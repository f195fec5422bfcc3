-- Document 01, "Requests": the text of a request, as the agent writes it.
use Rattle.std.specs.Prelude.{ℕ, List, [], ◌∷◌, ◌++◌, Bool, cond, not, ◌&&◌, ◌||◌}
use Rattle.texts.specs.Digits.{decimal}
use Rattle.fields.specs.Amount.{is_amount, amount_bytes}
use Rattle.fields.specs.Codes.{is_receipt, is_kind, is_reason}
use Rattle.fields.specs.Number.{number_text, number_of, is_number}
use Rattle.dates.specs.Date.{is_written, empty_date}
use Rattle.coding.specs.Url.{coded}
use Rattle.message.specs.declared.request.Asked.{Asked}
use Rattle.parameters.specs.Names.{action_name, number_name, kind_name, amount_name, receipt_name, date_name, reason_name, action_word, has_account, has_receipt, has_date, has_reason}
use Rattle.message.specs.Request.{unused_number}

-- whether the fields that the action has are well formed
unfoldable pub is_asked : Asked → Bool
is_asked q =
    (not (has_receipt q.action) || is_receipt q.receipt)
    && ((not (has_account q.action) || (is_number q.number && (is_kind q.kind && is_amount q.amount)))
    && ((not (has_date q.action) || is_written q.date) && (not (has_reason q.action) || is_reason q.reason)))

-- name = value, behind an & (38)
unfoldable pub pair : List ℕ → List ℕ → List ℕ
pair name value = 38 ∷ (name ++ (61 ∷ coded value))

-- a field that the action has
abbrev pub pair_if : Bool → List ℕ → List ℕ → List ℕ
pair_if used name value = cond used (pair name value) []

-- action, number, type, amount, receipt, date, mes
unfoldable pub request_bytes : Asked → List ℕ
request_bytes q =
    action_name
    ++ ((61 ∷ action_word q.action)
    ++ (pair_if (has_account q.action) number_name (number_text q.number)
    ++ (pair_if (has_account q.action) kind_name (decimal q.kind)
    ++ (pair_if (has_account q.action) amount_name (amount_bytes q.amount)
    ++ (pair_if (has_receipt q.action) receipt_name (decimal q.receipt)
    ++ (pair_if (has_date q.action) date_name q.date ++ pair_if (has_reason q.action) reason_name (decimal q.reason)))))))

-- malformed fields give no text
unfoldable pub request_text : Asked → List ℕ
request_text q = cond (is_asked q) (request_bytes q) []

-- what a reader makes of the text: fields that the action lacks at their fixed values, a number with zeros past its length
unfoldable pub asked_again : Asked → Asked
asked_again q =
    record {
      action = q.action;
      number = cond (has_account q.action) (number_of (number_text q.number)) unused_number;
      kind = cond (has_account q.action) q.kind 0;
      amount = cond (has_account q.action) q.amount 0;
      receipt = cond (has_receipt q.action) q.receipt 0;
      date = cond (has_date q.action) q.date empty_date;
      reason = cond (has_reason q.action) q.reason 0;
    }
