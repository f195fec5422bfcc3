-- Document 01, "Gate": the accounts, each with a signed balance.
use Rattle.std.specs.Prelude.{◌≡◌, Bool, ◌&&◌, List, [], ℕ, ◌+◌, ◌<◌, ◌≤◌, eqb, ℤ, pos, ◌+ℤ◌, ◌-ℤ◌, length, get_or, set, take, Option, Some, None}
use Rattle.std.specs.Int.Signed.{mag}
use Rattle.days.specs.declared.calendar.Day.{Day}
use Rattle.fields.specs.declared.number.Number.{Number}
use Rattle.fields.specs.Number.{same_number}
use Rattle.table.specs.declared.Account.{Account}
use Rattle.table.specs.declared.Gate.{Gate}
use Rattle.table.specs.declared.accounts.Holding.{Holding}
use Rattle.lists.specs.Lists.{first_from}
use Rattle.table.specs.Table.{Rows, Whole, SameLengths}

-- the account of a number and a type
unfoldable pub is_account : Number → ℕ → Account → Bool
is_account n k a = eqb a.kind k && same_number a.number n

-- the accounts in use
abbrev pub accounts_of : Gate → List Account
accounts_of g = take g.count g.accounts

-- a lookup takes the first account that fits
unfoldable pub find_account : Number → ℕ → List Account → Option ℕ
find_account n k l = first_from (is_account n k) 0 l

abbrev pub no_account : Account
no_account = record { number = record { bytes = []; len = 0 }; kind = 0; balance = pos 0 }

abbrev pub balance_at : Gate → ℕ → ℤ
balance_at g i = (get_or g.accounts i no_account).balance

-- what a lookup tells: the account's place and its balance, or nothing and 0
abbrev pub balance_of : Gate → Option ℕ → ℤ
balance_of g None = pos 0
balance_of g (Some i) = balance_at g i

abbrev pub holding_of : Gate → Option ℕ → Holding
holding_of g f = record { at = f; balance = balance_of g f }

abbrev pub with_balance : Account → ℤ → Account
with_balance a z = record { number = a.number; kind = a.kind; balance = z }

-- ---- the gate with one field anew
abbrev pub with_accounts : Gate → List Account → Gate
with_accounts g l = record { accounts = l; count = g.count; closed = g.closed; used = g.used }

abbrev pub with_count : Gate → ℕ → Gate
with_count g n = record { accounts = g.accounts; count = n; closed = g.closed; used = g.used }

abbrev pub with_used : Gate → ℕ → Gate
with_used g n = record { accounts = g.accounts; count = g.count; closed = g.closed; used = n }

abbrev pub with_closed : Gate → Day → Gate
with_closed g d = record { accounts = g.accounts; count = g.count; closed = d; used = g.used }

-- ---- what is done to an account
-- the gate with the balance z at account i
abbrev pub gate_balance : Gate → ℕ → ℤ → Gate
gate_balance g i z = with_accounts g (set g.accounts i (with_balance (get_or g.accounts i no_account) z))

-- an amount added to the balance of account i, or taken from it
unfoldable pub credited : Gate → ℕ → ℕ → Gate
credited g i n = gate_balance g i (balance_at g i +ℤ pos n)

unfoldable pub debited : Gate → ℕ → ℕ → Gate
debited g i n = gate_balance g i (balance_at g i -ℤ pos n)

-- one account more, with a balance of 0
unfoldable pub opened : Gate → Number → ℕ → Gate
opened g n k =
    with_count (with_accounts g (set g.accounts g.count (record { number = n; kind = k; balance = pos 0 }))) (g.count + 1)

-- balances within a bound
pub record Funds (g : Gate) (b : ℕ) : Type 0 where
  pub places : length g.accounts ≡ 256
  pub count : g.count ≤ 256
  pub balances : (i : ℕ) → i < g.count → mag (balance_at g i) ≤ b

-- whole rows of one length, no more than 4,096, and balances within a bound: what the functions behind the check of a table need
pub record Backed (g : Gate) (t : Rows) (b : ℕ) : Type 0 where
  pub whole : Whole t g.used
  pub same : SameLengths t
  pub size : length t.nums ≤ 4096
  pub funds : Funds g b
