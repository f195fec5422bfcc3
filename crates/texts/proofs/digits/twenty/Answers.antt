use Rattle.texts.proofs.DecimalLaws.{made-start, made-step, digits-made, zeros-made}
use borrow.Author.Rules.{rules}
use Rattle.texts.proofs.digits.twenty.Goals as goal

pub loop-left-init : goal.loop-left-init
loop-left-init c = search (made-start, rules)

pub loop-left-preserved : goal.loop-left-preserved
loop-left-preserved c = search (made-step, rules)

pub returns : goal.returns
returns c = search (digits-made, zeros-made, rules)
