-- Document 01, "Gate": the payment table, lent as three rows of one length. Record i has six numbers, the bytes of its account's number, and three dates.
use Rattle.std.specs.Prelude.{Bool, ◌&&◌, ◌≡◌, List, [], ◌∷◌, ◌++◌, map, ℕ, ◌<◌, ◌≤◌, eqb, length, drop, get_or, set, Option}
use Rattle.texts.specs.Lists.{eq_list}
use Rattle.fields.specs.declared.number.Number.{Number}
use Rattle.fields.specs.Number.{empty_number, same_number}
use Rattle.dates.specs.Date.{empty_date}
use Rattle.table.specs.declared.Record.{Record}
use Rattle.lists.specs.Lists.{tab, first_from}

-- the states of a record
abbrev pub done : ℕ
done = 1

abbrev pub cancelled : ℕ
cancelled = 2

-- what stands for a record where there is none
abbrev pub no_record : Record
no_record =
    record {
      receipt = 0;
      number = empty_number;
      kind = 0;
      amount = 0;
      date = empty_date;
      state = 0;
      authcode = 0;
      credit = empty_date;
      cancel = empty_date;
    }

-- the lists that the three rows hold
pub record Rows : Type 0 where
  pub nums : List (List ℕ)
  pub numbers : List (List ℕ)
  pub dates : List (List (List ℕ))

-- the record of these numbers, bytes and dates
abbrev pub record_from : List ℕ → List ℕ → List (List ℕ) → Record
record_from w b d =
    record {
      receipt = get_or w 0 0;
      number = record { bytes = b; len = get_or w 1 0 };
      kind = get_or w 2 0;
      amount = get_or w 3 0;
      date = get_or d 0 [];
      state = get_or w 4 0;
      authcode = get_or w 5 0;
      credit = get_or d 1 [];
      cancel = get_or d 2 [];
    }

abbrev pub record_at : Rows → ℕ → Record
record_at t i = record_from (get_or t.nums i []) (get_or t.numbers i []) (get_or t.dates i [])

-- what the rows hold of a record
abbrev pub nums_of : Record → List ℕ
nums_of r = r.receipt ∷ r.number.len ∷ r.kind ∷ r.amount ∷ r.state ∷ r.authcode ∷ []

abbrev pub dates_of : Record → List (List ℕ)
dates_of r = r.date ∷ r.credit ∷ r.cancel ∷ []

-- the rows with r at i
abbrev pub rows_with : Rows → ℕ → Record → Rows
rows_with t i r =
    record {
      nums = set t.nums i (nums_of r);
      numbers = set t.numbers i r.number.bytes;
      dates = set t.dates i (dates_of r);
    }

-- rows of the lengths of others
pub record SameSizes (t t' : Rows) : Type 0 where
  pub nums : length t'.nums ≡ length t.nums
  pub numbers : length t'.numbers ≡ length t.numbers
  pub dates : length t'.dates ≡ length t.dates

-- the first n records
unfoldable pub records_of : Rows → ℕ → List Record
records_of t n = tab n (record_at t)

-- the rows whose first records are rs, and which are t's past them
unfoldable pub rows_from : Rows → List Record → Rows
rows_from t rs =
    record {
      nums = map nums_of rs ++ drop (length rs) t.nums;
      numbers = map (λ (r : Record). r.number.bytes) rs ++ drop (length rs) t.numbers;
      dates = map dates_of rs ++ drop (length rs) t.dates;
    }

-- the first record of a receipt
abbrev pub has_receipt : ℕ → Record → Bool
has_receipt x r = eqb r.receipt x

unfoldable pub find_record : ℕ → List Record → Option ℕ
find_record x rs = first_from (has_receipt x) 0 rs

-- whether a record is of this number, type, amount and date: the one comparison of a payment with its record (documents 01, "Registry", and 02, [3])
unfoldable pub same_payment : Number → ℕ → ℕ → List ℕ → Record → Bool
same_payment n k m d r = same_number r.number n && (eqb r.kind k && (eqb r.amount m && eq_list r.date d))

-- the rows have n records, each with the lengths of its arrays
pub record Whole (t : Rows) (n : ℕ) : Type 0 where
  pub nums : n ≤ length t.nums
  pub numbers : n ≤ length t.numbers
  pub dates : n ≤ length t.dates
  pub six : (i : ℕ) → i < n → length (get_or t.nums i []) ≡ 6
  pub three : (i : ℕ) → i < n → length (get_or t.dates i []) ≡ 3

-- the three rows are lent with one length
pub record SameLengths (t : Rows) : Type 0 where
  pub numbers : length t.numbers ≡ length t.nums
  pub dates : length t.dates ≡ length t.nums
