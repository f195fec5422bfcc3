-- Document 01, row 68 of "What a fault gives": what a lent gate and table must be, clause by clause. Places past those in use are not looked at.
use Rattle.std.specs.Prelude.{Bool, cond, ◌&&◌, ℕ, ◌+◌, eqb, leb, ltb, ℤ, pos, negsuc, length}
use Rattle.texts.specs.Lists.{eq_list}
use Rattle.fields.specs.Amount.{is_amount}
use Rattle.days.specs.Calendar.{is_day}
use Rattle.fields.specs.Codes.{is_receipt, is_kind}
use Rattle.dates.specs.Date.{is_written, empty_date}
use Rattle.fields.specs.Number.{is_number}
use Rattle.table.specs.declared.Account.{Account}
use Rattle.table.specs.declared.Gate.{Gate}
use Rattle.table.specs.declared.Record.{Record}
use Rattle.lists.specs.Lists.{is_found, all_from}
use Rattle.lists.specs.Lent.{lent_well}
use Rattle.table.specs.Table.{done, cancelled, Rows, records_of}
use Rattle.table.specs.Accounts.{accounts_of, find_account, Funds, Backed}

-- a balance no further from 0 than 10^13
unfoldable pub near : ℤ → Bool
near (pos n) = leb n 10000000000000
near (negsuc n) = ltb n 10000000000000

unfoldable pub account_good : Account → Bool
account_good a = is_number a.number && (is_kind a.kind && near a.balance)

-- at most 256 accounts, each in its ranges, and a closed day that is a date
unfoldable pub gate_good : Gate → Bool
gate_good g = leb g.count 256 && (is_day g.closed && all_from (λ i a. account_good a) 0 (accounts_of g))

-- a done record has no cancel date, a cancelled one has one
unfoldable pub state_good : Record → Bool
state_good r = cond (eqb r.state done) (eq_list r.cancel empty_date) (eqb r.state cancelled && is_written r.cancel)

unfoldable pub ranges_good : Record → Bool
ranges_good r =
    is_receipt r.receipt && (is_amount r.amount && (is_written r.date && (is_written r.credit && state_good r)))

unfoldable pub account_known : Gate → Record → Bool
account_known g r = is_found (find_account r.number r.kind (accounts_of g))

-- the nth record has authcode n
unfoldable pub authcode_good : ℕ → Record → Bool
authcode_good i r = eqb r.authcode (i + 1)

unfoldable pub record_good : Gate → ℕ → Record → Bool
record_good g i r = authcode_good i r && (ranges_good r && account_known g r)

-- how its rows are lent
abbrev pub lent_good : Gate → Rows → Bool
lent_good g t = lent_well g.used (length t.nums) (length t.numbers) (length t.dates)

unfoldable pub table_good : Gate → Rows → Bool
table_good g t = lent_good g t && (gate_good g && all_from (record_good g) 0 (records_of t g.used))

-- ---- the same as facts, for the functions behind the check
abbrev pub Sound : Gate → Type 0
Sound g = Funds g 10000000000000

abbrev pub Ready : Gate → Rows → Type 0
Ready g t = Backed g t 10000000000000
