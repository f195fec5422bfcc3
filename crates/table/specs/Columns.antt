-- Document 01, "Gate": the gate's accounts lent in three columns of 256 places: the bytes of the numbers, the lengths of these with the types, the balances. A gate is a head and these.
use Rattle.std.specs.Prelude.{◌≡◌, ℕ, List, [], ℤ, pos, get_or}
use Rattle.lists.specs.Lists.{tab}
use Rattle.table.specs.declared.Account.{Account}
use Rattle.table.specs.declared.Gate.{Gate}
use Rattle.table.specs.declared.Head.{Head}
use Rattle.table.specs.declared.columns.Accounts.{Accounts}
use Rattle.table.specs.declared.columns.AccountsView.{AccountsView}

-- the lists that the columns hold
pub record Columns : Type 0 where
  pub names : List (List ℕ)
  pub keys : List (List ℕ)
  pub balances : List ℤ

abbrev pub account_in : Columns → ℕ → Account
account_in a i =
    record {
      number = record { bytes = get_or a.names i []; len = get_or (get_or a.keys i []) 0 0 };
      kind = get_or (get_or a.keys i []) 1 0;
      balance = get_or a.balances i (pos 0);
    }

unfoldable pub accounts_in : Columns → List Account
accounts_in a = tab 256 (account_in a)

-- the gate of a head and columns, and the head of a gate
abbrev pub gate_of : Head → Columns → Gate
gate_of h a = record { accounts = accounts_in a; count = h.count; closed = h.closed; used = h.used }

abbrev pub head_of : Gate → Head
head_of g = record { count = g.count; closed = g.closed; used = g.used }

abbrev pub counted_head : Head → ℕ → Head
counted_head h n = record { count = n; closed = h.closed; used = h.used }

abbrev pub used_head : Head → ℕ → Head
used_head h n = record { count = h.count; closed = h.closed; used = n }

-- how contracts name the three columns as one value: what they hold at a call, before it (`old`) and after it (`new`)
abbrev pub columns_of : List (List ℕ) → List (List ℕ) → List ℤ → Columns
columns_of names keys balances = record { names = names; keys = keys; balances = balances }

abbrev pub columns_in : Accounts → Columns
columns_in a = columns_of a.names.now a.keys.now a.balances.now

abbrev pub columns_seen : AccountsView → Columns
columns_seen a = columns_of a.names.now a.keys.now a.balances.now

-- accounts that are handed on are the same columns afterwards, whatever the balances are: their owner has them back
pub record SameAccounts (before after : Accounts) : Type 0 where
  pub names : after.names.now ≡ before.names.now
  pub keys : after.keys.now ≡ before.keys.now
  pub balances : after.balances.ghost_name ≡ before.balances.ghost_name
