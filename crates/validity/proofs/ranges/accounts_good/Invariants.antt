use mathlib.Core.Path.{◌≡◌}
use lib.ListN.{take, drop}
use Rattle.lists.specs.Lists.{all_from}
use Rattle.table.specs.Columns.{accounts_in, columns_seen}
use Rattle.validity.specs.Valid.{account_good}
use Rattle.validity.proofs.ranges.accounts_good.Given as goal

abbrev pub invariant-loop-i : goal.invariant-loop-i
invariant-loop-i l =
    all_from (λ i a. account_good a) 0 (take l.i-end (accounts_in (columns_seen l.accounts)))
    ≡ all_from (λ i a. account_good a) l.i (drop l.i (take l.i-end (accounts_in (columns_seen l.accounts))))
