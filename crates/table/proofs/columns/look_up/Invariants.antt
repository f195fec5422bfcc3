use mathlib.Core.Path.{◌≡◌}
use lib.ListN.{take, drop}
use Rattle.lists.specs.Lists.{first_from}
use Rattle.table.specs.Accounts.{is_account, find_account}
use Rattle.table.specs.Columns.{accounts_in, columns_seen}
use Rattle.table.proofs.columns.look_up.Given as goal

abbrev pub invariant-loop-i : goal.invariant-loop-i
invariant-loop-i l =
    find_account l.n l.kind (take l.i-end (accounts_in (columns_seen l.all)))
    ≡ first_from (is_account l.n l.kind) l.i (drop l.i (take l.i-end (accounts_in (columns_seen l.all))))
