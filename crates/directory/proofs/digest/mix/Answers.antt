use borrow.Author.Rules.{rules}
use Rattle.directory.proofs.DigestLaws.{mix-turn, mix-end}
use Rattle.directory.proofs.digest.mix.Goals as goal

pub loop-b-preserved : goal.loop-b-preserved
loop-b-preserved c = search (mix-turn, rules)

pub returns : goal.returns
returns c = search (mix-end, rules)
