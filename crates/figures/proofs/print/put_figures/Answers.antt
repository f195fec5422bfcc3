use borrow.Author.Rules.{rules}
use Rattle.figures.proofs.PrintLaws.{figures-put}
use Rattle.figures.proofs.print.put_figures.Goals as goal

pub returns : goal.returns
returns c = search (figures-put, rules)
