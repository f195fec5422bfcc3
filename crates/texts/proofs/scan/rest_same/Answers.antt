use borrow.Author.Rules.{rules}
use Rattle.texts.proofs.ScanLaws.{pass_same, bytes-differ, all_same}
use Rattle.texts.proofs.scan.rest_same.Goals as goal

ruleset laws = (pass_same, bytes-differ, all_same, rules)

pub returns-then-a-i : goal.returns-then-a-i
returns-then-a-i c = search laws

pub loop-i-preserved : goal.loop-i-preserved
loop-i-preserved c = search laws

pub returns : goal.returns
returns c = search laws
