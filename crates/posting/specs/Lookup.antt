-- What is sought in the table for a line, by the chains of its receipts. Cited by inner contracts only: it needs no belief.
use Rattle.std.specs.Prelude.{ℕ, Bool, ◌&&◌, List, [], get_or}
use Rattle.lines.specs.declared.line.Line.{Line}
use Rattle.table.specs.declared.Record.{Record}
use Rattle.table.specs.Table.{has_receipt}
use Rattle.table.specs.Daily.{is_done}
use Rattle.posting.specs.Posting.{matches}
pub use Rattle.posting.specs.declared.lookup.Sought.{Sought}
pub use Rattle.posting.specs.declared.lookup.Sought.TheVariants.{SameReceipt, Matched, MatchedDone}

-- the receipt in the place i of a table
abbrev pub receipt_at : List (List ℕ) → ℕ → ℕ
receipt_at nums i = get_or (get_or nums i []) 0 0

-- whether a record is what is sought
abbrev pub fits : Sought → Line → Record → Bool
fits SameReceipt x r = has_receipt x.receipt r
fits Matched x r = matches x r
fits MatchedDone x r = is_done r && matches x r
