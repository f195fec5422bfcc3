use borrow.Author.Rules.{rules}
use Rattle.figures.proofs.PrintLaws.{text-cursor, text-written, signed_below, signed_above}
use Rattle.figures.proofs.print.write_signed.Goals as goal

ruleset laws = (text-cursor, text-written, signed_below, signed_above, rules)

pub returns-then-z-lt0 : goal.returns-then-z-lt0
returns-then-z-lt0 c = search laws

pub returns-else-z-lt0 : goal.returns-else-z-lt0
returns-else-z-lt0 c = search laws
