use borrow.Author.Rules.{rules}
use Rattle.figures.proofs.PrintLaws.{counts-put}
use Rattle.figures.proofs.print.put_counts.Goals as goal

pub returns : goal.returns
returns c = search (counts-put, rules)
