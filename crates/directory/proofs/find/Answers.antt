use Prim.Native.Nat.{◌<◌}
use native.Mathlib.Omega.{arith}
use lib.ListN.{length}
use borrow.Author.Rules.{rules}
use Rattle.table.proofs.AccountLaws.{account-start}
use Rattle.directory.proofs.FindLaws.{holder-here, holder-other, holder-digest, holder-none, key-place}
use Rattle.directory.proofs.find.Goals as goal
use Rattle.directory.proofs.find.Goals.{else-own-d-via-then-own-d+else-is_account, else-own-d-via-else-own-d}

ruleset laws = (account-start, holder-here, holder-none, key-place, rules)

pub loop-i-init : goal.loop-i-init
loop-i-init c = search laws

pub returns-then-is_account : goal.returns-then-is_account
returns-then-is_account c = search laws

pub loop-i-preserved : goal.loop-i-preserved
loop-i-preserved c =
    let h : c.loop-i.i < length c.args.names.now = omega (arith, c.requires.same) in
    elim c.else-own-d.branch [
      | else-own-d-via-then-own-d+else-is_account w ↦ holder-other _ _ _ _ _ c.loop-i.invariant _ w.holder_at.ensures _ w.is_account.ensures h w.if-is_account.false
      | else-own-d-via-else-own-d w ↦ holder-digest _ _ _ _ _ c.loop-i.invariant c.requires h _ c.make_digest-d.ensures w.if-own-d.false
    ]

pub returns : goal.returns
returns c = search laws
