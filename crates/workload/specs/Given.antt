-- Document 02, [4]: what a load is made of, beside its start and the buffer: a written date, a reason and 1 to 256 accounts.
use Rattle.std.specs.Prelude.{ℕ, List, [], ◌≡◌, Bool, true, ◌&&◌, eqb, length, get_or}
use Rattle.texts.specs.Digits.{within}
use Rattle.fields.specs.Number.{is_number}
use Rattle.fields.specs.Codes.{is_kind, is_reason}
use Rattle.dates.specs.Date.{is_written}
use Rattle.lists.specs.Lists.{tab, all_from}
use Rattle.workload.specs.declared.given.AccountName.{AccountName}

-- the accounts are lent in two columns, as a gate's: the bytes of the numbers, the lengths of these with the types
pub record Load : Type 0 where
  pub date : List ℕ
  pub reason : ℕ
  pub names : List (List ℕ)
  pub keys : List (List ℕ)

abbrev pub load_of : List ℕ → ℕ → List (List ℕ) → List (List ℕ) → Load
load_of date reason names keys = record { date = date; reason = reason; names = names; keys = keys }

abbrev pub account_at : List (List ℕ) → List (List ℕ) → ℕ → AccountName
account_at names keys i =
    record { number = record { bytes = get_or names i []; len = get_or (get_or keys i []) 0 0 }; kind = get_or (get_or keys i []) 1 0 }

unfoldable pub accounts_of : List (List ℕ) → List (List ℕ) → List AccountName
accounts_of names keys = tab (length names) (account_at names keys)

unfoldable pub is_account_name : AccountName → Bool
is_account_name a = is_number a.number && is_kind a.kind

-- what is not well formed is 60. An account may stand there more than once.
unfoldable pub is_load : Load → Bool
is_load l =
    is_written l.date
    && (is_reason l.reason
    && (within 1 256 (length l.names)
    && (eqb (length l.keys) (length l.names) && all_from (λ i a. is_account_name a) 0 (accounts_of l.names l.keys))))

-- the same as facts
pub record GoodLoad (l : Load) : Type 0 where
  pub dated : is_written l.date ≡ true
  pub reasoned : is_reason l.reason ≡ true
  pub some : within 1 256 (length l.names) ≡ true
  pub paired : length l.keys ≡ length l.names
  pub named : all_from (λ i a. is_account_name a) 0 (accounts_of l.names l.keys) ≡ true
