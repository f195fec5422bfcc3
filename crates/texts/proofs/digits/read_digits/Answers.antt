use Rattle.texts.proofs.DigitLaws.{read-empty, read-long, read-other, read-over, more-below, pass-digit, pass-value, read-value}
use borrow.Author.Rules.{rules}
use Rattle.texts.proofs.digits.read_digits.Goals as goal
use Rattle.texts.proofs.digits.read_digits.Goals.{then-is_empty-via-then-is_empty, then-is_empty-via-else-is_empty+then-most-s}

pub returns-then-is_empty : goal.returns-then-is_empty
returns-then-is_empty c =
    elim c.then-is_empty.branch [
      | then-is_empty-via-then-is_empty w ↦ search (read-empty, rules)
      | then-is_empty-via-else-is_empty+then-most-s w ↦ search (read-long, rules)
    ]

pub returns-then-not-is_ascii_digit : goal.returns-then-not-is_ascii_digit
returns-then-not-is_ascii_digit c = search (read-other, rules)

pub returns-then-not-more_fits : goal.returns-then-not-more_fits
returns-then-not-more_fits c = search (read-over, rules)

pub loop-b-preserved : goal.loop-b-preserved
loop-b-preserved c = search (pass-digit, pass-value, more-below, rules)

pub returns : goal.returns
returns c = search (read-value, rules)
