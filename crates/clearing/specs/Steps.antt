-- The receipts by which lines are chained. Cited by inner contracts only: it needs no belief.
use Rattle.std.specs.Prelude.{ℕ, List, get_or}
use Rattle.lines.specs.declared.line.Line.{Line}
use Rattle.line_rows.specs.Lines.{no_line}

-- the receipt of the line in the place i
abbrev pub receipt_in : List Line → ℕ → ℕ
receipt_in xs i = (get_or xs i no_line).receipt
