use Rattle.texts.proofs.PassLaws.{none_more, none-all}
use borrow.Author.Rules.{rules}
use Rattle.texts.proofs.scan.none_near.Goals as goal

pub loop-j-preserved : goal.loop-j-preserved
loop-j-preserved c = none_more c.args.b c.args.s.now c.args.i c.requires c.loop-j.j c.loop-j.none c.loop-j.invariant c.loop-j-test.true

pub returns : goal.returns
returns c = search (none-all, rules)
