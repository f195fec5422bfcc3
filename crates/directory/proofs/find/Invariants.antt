use mathlib.Core.Path.{◌≡◌}
use lib.ListN.{drop}
use Rattle.lists.specs.Lists.{first_from}
use Rattle.table.specs.Accounts.{is_account, find_account}
use Rattle.directory.specs.Directory.{holders_of}
use Rattle.directory.proofs.find.Given as goal

abbrev pub invariant-loop-i : goal.invariant-loop-i
invariant-loop-i l = find_account l.n l.kind (holders_of l.names l.keys) ≡ first_from (is_account l.n l.kind) l.i (drop l.i (holders_of l.names l.keys))
