use Rattle.std.proofs.Common.{◌≡◌, drop}
use Rattle.lists.specs.Lists.{all_from}
use Rattle.workload.specs.Given.{is_account_name, accounts_of}
use Rattle.workload.proofs.given.accounts_good.Given as goal

abbrev pub invariant-loop-i : goal.invariant-loop-i
invariant-loop-i l =
    all_from (λ i a. is_account_name a) 0 (accounts_of l.names l.keys) ≡ all_from (λ i a. is_account_name a) l.i (drop l.i (accounts_of l.names l.keys))
