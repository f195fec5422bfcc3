use Prim.Native.Nat.{◌≤◌}
use borrow.Author.Rules.{rules}
use Rattle.table.proofs.ColumnLaws.{size_in}
use Rattle.validity.proofs.RangeLaws.{gate-sound}
use Rattle.validity.proofs.ranges.gate_good.Goals as goal

pub returns-then-is_valid-clause-sound : goal.returns-then-is_valid-clause-sound
returns-then-is_valid-clause-sound c =
    let few : c.args.h.count ≤ 256 = search rules in
    gate-sound _ few (size_in _) _ c.accounts_good.ensures
