use mathlib.Core.Path.{◌≡◌}
use mathlib.Core.List.{[]}
use lib.ListN.{take, drop}
use Rattle.table.specs.Columns.{accounts_in, columns_of}
use Rattle.figures.specs.Figures.{sum_balances}
use Rattle.figures.proofs.sums.sum_balances.Given as goal

abbrev pub invariant-loop-i : goal.invariant-loop-i
invariant-loop-i l = l.sum ≡ sum_balances (drop l.i (take l.fn.h.count (accounts_in (columns_of [] [] l.balances))))
