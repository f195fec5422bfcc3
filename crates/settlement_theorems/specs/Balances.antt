-- What a settlement moves on one account: the amounts of the lines that are restored or posted there, and those of the records swept from it.
use Rattle.std.specs.Prelude.{ℕ, ◌+◌, List, [], ◌∷◌, Bool, true, false, cond, ◌&&◌, eqb, length, Option, Some, None}
use Rattle.days.specs.declared.calendar.Day.{Day}
use Rattle.fields.specs.declared.number.Number.{Number}
use Rattle.lines.specs.declared.line.Line.{Line}
use Rattle.table.specs.declared.Record.{Record}
use Rattle.table.specs.declared.Gate.{Gate}
use Rattle.table.specs.Table.{Rows}
use Rattle.table.specs.Accounts.{accounts_of, find_account}
use Rattle.posting.specs.declared.verdict.Verdict.{Verdict}
use Rattle.posting.specs.declared.verdict.Verdict.TheVariants.{Keeps, Restores, Posts, Unposted}
use Rattle.posting.specs.Posting.{verdict_of, Ledger, settle_line, ledger_of}
use Rattle.clearing.specs.Clearing.{settle_lines, is_stray}

unfoldable pub is_at : ℕ → Option ℕ → Bool
is_at a (Some i) = eqb i a
is_at a None = false

-- account a is the one that number with type names
abbrev pub is_holder : ℕ → Gate → Number → ℕ → Bool
is_holder a g n k = is_at a (find_account n k (accounts_of g))

abbrev pub is_credit : Verdict → Bool
is_credit Keeps = false
is_credit (Restores i) = true
is_credit (Posts i) = true
is_credit Unposted = false

-- a line credits its amount to its account if it is restored or posted
unfoldable pub credit_of : ℕ → Gate → Line → Verdict → ℕ
credit_of a g x v = cond (is_credit v && is_holder a g x.number x.kind) x.amount 0

-- the lines in their order, each judged on the ledger that those before it left
unfoldable pub credits : List ℕ → ℕ → ℕ → List Line → Ledger → ℕ
credits clock lent a [] l = 0
credits clock lent a (x ∷ xs) l = credit_of a l.gate x (verdict_of l.gate l.records lent x) + credits clock lent a xs (settle_line clock lent x l)

-- a stray record takes its amount from its account
unfoldable pub debit_of : ℕ → Day → List Line → Gate → Record → ℕ
debit_of a day xs g r = cond (is_stray day xs r && is_holder a g r.number r.kind) r.amount 0

unfoldable pub swept_from : ℕ → Day → List Line → Gate → List Record → ℕ
swept_from a day xs g [] = 0
swept_from a day xs g (r ∷ rs) = debit_of a day xs g r + swept_from a day xs g rs

-- ---- the day that is settled: its lines on the table, then the sweep of what they left
abbrev pub credits_on : Gate → Rows → List ℕ → List Line → ℕ → ℕ
credits_on g t clock xs a = credits clock (length t.nums) a xs (ledger_of g t)

abbrev pub swept_on : Gate → Rows → List ℕ → Day → List Line → ℕ → ℕ
swept_on g t clock day xs a =
    let l = settle_lines clock (length t.nums) xs (ledger_of g t) in
    swept_from a day xs l.gate l.records
