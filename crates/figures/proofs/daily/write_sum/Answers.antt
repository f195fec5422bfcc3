use borrow.Author.Rules.{rules}
use Rattle.figures.proofs.PrintLaws.{sum-put}
use Rattle.figures.proofs.daily.write_sum.Goals as goal

pub returns : goal.returns
returns c = search (sum-put, rules)
