-- Document 01, "Agent": the book, lent as three rows of one length. Entry i has six numbers, the bytes of its account's number, and its date.
use Rattle.std.specs.Prelude.{Bool, cond, ◌≡◌, List, [], ◌∷◌, ◌++◌, map, ℕ, ◌<◌, ◌≤◌, eqb, length, drop, get_or, set, replicate, Option}
use Rattle.dates.specs.Date.{empty_date}
use Rattle.lists.specs.Lists.{tab, first_from}
use Rattle.book.specs.declared.Entry.{Entry}
use Rattle.book.specs.declared.State.{State}
use Rattle.book.specs.declared.State.TheVariants.{Asked, Credited, CancelAsked, Cancelled, Unposted}

-- the five states and their numbers in the rows
unfoldable pub state_number : State → ℕ
state_number Asked = 1
state_number Credited = 2
state_number CancelAsked = 3
state_number Cancelled = 4
state_number Unposted = 5

unfoldable pub state_of : ℕ → State
state_of n = cond (eqb n 1) Asked (cond (eqb n 2) Credited (cond (eqb n 3) CancelAsked (cond (eqb n 4) Cancelled Unposted)))

-- the lists that the three rows hold
pub record BookRows : Type 0 where
  pub nums : List (List ℕ)
  pub numbers : List (List ℕ)
  pub dates : List (List ℕ)

-- the entry of these numbers, bytes and date
abbrev pub entry_from : List ℕ → List ℕ → List ℕ → Entry
entry_from w b d =
    record {
      receipt = get_or w 0 0;
      number = record { bytes = b; len = get_or w 1 0 };
      kind = get_or w 2 0;
      amount = get_or w 3 0;
      date = d;
      state = get_or w 4 0;
      authcode = get_or w 5 0;
    }

abbrev pub entry_at : BookRows → ℕ → Entry
entry_at t i = entry_from (get_or t.nums i []) (get_or t.numbers i []) (get_or t.dates i [])

abbrev pub is_cancelled : Entry → Bool
is_cancelled e = eqb e.state (state_number Cancelled)

-- what a lookup past the entries gives
abbrev pub no_entry : Entry
no_entry =
    record { receipt = 0; number = record { bytes = replicate 30 0; len = 0 }; kind = 0; amount = 0; date = empty_date; state = 0; authcode = 0 }

-- what the rows hold of an entry
abbrev pub entry_nums : Entry → List ℕ
entry_nums e = e.receipt ∷ e.number.len ∷ e.kind ∷ e.amount ∷ e.state ∷ e.authcode ∷ []

-- the rows with e at i
abbrev pub book_with : BookRows → ℕ → Entry → BookRows
book_with t i e =
    record { nums = set t.nums i (entry_nums e); numbers = set t.numbers i e.number.bytes; dates = set t.dates i e.date }

-- the first n entries
unfoldable pub entries_of : BookRows → ℕ → List Entry
entries_of t n = tab n (entry_at t)

-- the rows whose first entries are es, and which are t's past them
unfoldable pub book_from : BookRows → List Entry → BookRows
book_from t es =
    record {
      nums = map entry_nums es ++ drop (length es) t.nums;
      numbers = map (λ (e : Entry). e.number.bytes) es ++ drop (length es) t.numbers;
      dates = map (λ (e : Entry). e.date) es ++ drop (length es) t.dates;
    }

-- the entry of a receipt
abbrev pub is_entry : ℕ → Entry → Bool
is_entry x e = eqb e.receipt x

unfoldable pub find_entry : ℕ → List Entry → Option ℕ
find_entry x es = first_from (is_entry x) 0 es

-- the rows have n entries, each with the length of its array
pub record WholeBook (t : BookRows) (n : ℕ) : Type 0 where
  pub nums : n ≤ length t.nums
  pub numbers : n ≤ length t.numbers
  pub dates : n ≤ length t.dates
  pub six : (i : ℕ) → i < n → length (get_or t.nums i []) ≡ 6

-- the three rows are lent with one length
pub record OneLength (t : BookRows) : Type 0 where
  pub numbers : length t.numbers ≡ length t.nums
  pub dates : length t.dates ≡ length t.nums
