use borrow.Author.Rules.{rules}
use Rattle.figures.proofs.PrintLaws.{text-cursor, text-written, led-text}
use Rattle.figures.proofs.print.write_led.Goals as goal

pub returns : goal.returns
returns c = search (text-cursor, text-written, led-text, rules)
