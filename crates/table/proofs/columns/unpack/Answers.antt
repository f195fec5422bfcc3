use borrow.Author.Rules.{rules}
use mathlib.Core.Path.{refl}
use Rattle.table.proofs.AccountLaws.{accounts-size}
use Rattle.table.proofs.ColumnLaws.{unpacked-none, unpacked-more, unpacked-all}
use Rattle.table.proofs.columns.unpack.Goals as goal

ruleset laws = (accounts-size, unpacked-none, unpacked-more, unpacked-all, rules)

pub loop-i-init : goal.loop-i-init
loop-i-init c = search laws

pub loop-i-preserved : goal.loop-i-preserved
loop-i-preserved c = unpacked-more _ _ _ _ _ c.loop-i.invariant (search rules) (search rules) (search rules) _ _ _ refl refl (search rules)

pub returns : goal.returns
returns c = search laws
