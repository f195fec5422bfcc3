-- What the functions behind the checks of a settlement start from and leave. Cited by inner contracts only: it needs no belief.
use Rattle.std.specs.Prelude.{ℕ, ◌<◌, ◌≡◌, List}
use Rattle.lines.specs.declared.line.Line.{Line}
use Rattle.table.specs.declared.Gate.{Gate}
use Rattle.table.specs.Table.{Rows, record_at, rows_from}
use Rattle.table.specs.Accounts.{Backed, with_used}
use Rattle.directory.specs.Directory.{Listed}
use Rattle.ledger.specs.Change.{credited_at}
use Rattle.posting.specs.declared.applying.Due.{Due}
use Rattle.posting.specs.Posting.{Ledger, Verdict, Restores, Posts, applied, ledger_of}

-- rows and balances as a check leaves them, with amounts in their range
pub record Held (g : Gate) (t : Rows) (b : ℕ) : Type 0 where
  pub backed : Backed g t b
  pub small : (i : ℕ) → i < g.used → (record_at t i).amount < 1000000000

-- a gate and rows are what a ledger says
pub record Left (t : Rows) (l : Ledger) (gate : Gate) (rows : Rows) : Type 0 where
  pub gates : gate ≡ l.gate
  pub left : rows ≡ rows_from t l.records

-- the places that a verdict names are there: of so many records, with room for one more, and of so many accounts
pub record Placed (v : Verdict) (used lent count : ℕ) : Type 0 where
  pub restores : (i : ℕ) → v ≡ Restores i → i < used
  pub room : (a : ℕ) → v ≡ Posts a → used < lent
  pub posts : (a : ℕ) → v ≡ Posts a → a < count

-- the gate with n, which is due, on its account
abbrev pub paid : Gate → Due → ℕ → Gate
paid g d n = with_used (credited_at g d.account n) d.used

-- what is due and the rows are what a verdict leaves of any gate that has these accounts and so many records
pub record Applied (names keys : List (List ℕ)) (used : ℕ) (t : Rows) (clock : List ℕ) (x : Line) (v : Verdict) (d : Due) (rows : Rows) : Type 0 where
  pub left : (g : Gate) → Listed names keys g → g.used ≡ used → Left t (applied clock x v (ledger_of g t)) (paid g d x.amount) rows
