-- Document 01, "Gate" and the rows 59, 56, 57, 58: opening an account, and drawing from one.
use Rattle.std.specs.Prelude.{ℕ, cond, not, ◌&&◌, leb, pos, Option, Some, None}
use Rattle.std.specs.Int.Signed.{lt_z}
use Rattle.fields.specs.declared.number.Number.{Number}
use Rattle.fields.specs.Amount.{is_amount}
use Rattle.fields.specs.Codes.{is_kind}
use Rattle.fields.specs.Number.{is_number}
use Rattle.table.specs.declared.Gate.{Gate}
use Rattle.lists.specs.Lists.{is_found}
use Rattle.table.specs.Table.{Rows}
use Rattle.table.specs.Accounts.{accounts_of, find_account, balance_at, debited, opened}
use Rattle.validity.specs.Valid.{table_good}
use Rattle.table.specs.Columns.{Columns, gate_of}
use Rattle.ledger.specs.declared.Reply.{Reply}
use Rattle.ledger.specs.declared.HeadReply.{HeadReply}

abbrev pub replies : ℕ → Gate → Reply
replies code g = record { code = code; gate = g; size = 0 }

-- what a call answers where the accounts are lent in columns
abbrev pub lent_reply : HeadReply → Columns → Reply
lent_reply r a = record { code = r.code; gate = gate_of r.head a; size = r.size }

-- malformed 59, known 56, 256 accounts 57
unfoldable pub open_to : Gate → Number → ℕ → Reply
open_to g n k =
    cond (is_number n && is_kind k)
    (cond (is_found (find_account n k (accounts_of g))) (replies 56 g) (cond (leb 256 g.count) (replies 57 g) (replies 0 (opened g n k))))
    (replies 59 g)

unfoldable pub open_account : Gate → Rows → Number → ℕ → Reply
open_account g t n k = cond (table_good g t) (open_to g n k) (replies 68 g)

-- an amount that the balance covers, else 58
unfoldable pub draw_on : Gate → Option ℕ → ℕ → Reply
draw_on g None n = replies 59 g
draw_on g (Some a) n = cond (is_amount n && not (lt_z (balance_at g a) (pos n))) (replies 0 (debited g a n)) (replies 58 g)

-- malformed or unknown 59
unfoldable pub draw_from : Gate → Number → ℕ → ℕ → Reply
draw_from g n k kopecks = cond (is_number n && is_kind k) (draw_on g (find_account n k (accounts_of g)) kopecks) (replies 59 g)

unfoldable pub draw_funds : Gate → Rows → Number → ℕ → ℕ → Reply
draw_funds g t n k kopecks = cond (table_good g t) (draw_from g n k kopecks) (replies 68 g)
