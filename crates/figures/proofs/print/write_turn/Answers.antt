use borrow.Author.Rules.{rules}
use Rattle.figures.proofs.PrintLaws.{text-cursor, text-written, prints-99, prints-figures}
use Rattle.figures.proofs.print.write_turn.Goals as goal

ruleset laws = (text-cursor, text-written, prints-99, prints-figures, rules)

pub returns-then-code-eq99 : goal.returns-then-code-eq99
returns-then-code-eq99 c = search laws

pub returns : goal.returns
returns c = search laws
