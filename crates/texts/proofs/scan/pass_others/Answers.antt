use Rattle.texts.proofs.PassLaws.{others-pass}
use borrow.Author.Rules.{rules}
use Rattle.texts.proofs.scan.pass_others.Goals as goal

pub loop-i-preserved : goal.loop-i-preserved
loop-i-preserved c = search (others-pass, rules)
