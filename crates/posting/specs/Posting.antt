-- Document 01, "Registry": one line of a day's registry, settled on the table as it stands.
use Rattle.std.specs.Prelude.{ℕ, ◌+◌, List, [], ◌∷◌, ◌++◌, Bool, cond, ◌&&◌, get_or, set, Option, Some, None}
use Rattle.dates.specs.Date.{empty_date}
use Rattle.payments.specs.declared.Details.{Details}
use Rattle.lines.specs.declared.line.Line.{Line}
use Rattle.table.specs.declared.Record.{Record}
use Rattle.table.specs.declared.Gate.{Gate}
use Rattle.lists.specs.Lists.{first_from}
use Rattle.table.specs.Table.{Rows, records_of, done, no_record, has_receipt, find_record, same_payment}
use Rattle.table.specs.Daily.{is_done}
use Rattle.table.specs.Accounts.{accounts_of, find_account, with_used}
use Rattle.planning.specs.Plan.{is_full}
use Rattle.ledger.specs.Change.{make_record, credited_at}
pub use Rattle.posting.specs.declared.verdict.Verdict.{Verdict}
pub use Rattle.posting.specs.declared.verdict.Verdict.TheVariants.{Keeps, Restores, Posts, Unposted}

-- a line speaks of a record of its receipt that is the same in all four
unfoldable pub matches : Line → Record → Bool
matches x r = has_receipt x.receipt r && same_payment x.number x.kind x.amount x.date r

-- ---- the verdict on one line
-- a receipt that is not recorded is posted where its account is known and there is room
abbrev pub post_verdict : Option ℕ → Option ℕ → Bool → Verdict
post_verdict (Some i) account full = Unposted
post_verdict None None full = Unposted
post_verdict None (Some a) full = cond full Unposted (Posts a)

abbrev pub match_verdict : List Record → Option ℕ → Verdict → Verdict
match_verdict rs None other = other
match_verdict rs (Some i) other = cond (is_done (get_or rs i no_record)) Keeps (Restores i)

unfoldable pub verdict_of : Gate → List Record → ℕ → Line → Verdict
verdict_of g rs lent x =
    match_verdict rs (first_from (matches x) 0 rs)
    (post_verdict (find_record x.receipt rs) (find_account x.number x.kind (accounts_of g)) (is_full g lent))

-- ---- its application
-- done again: the credit date is kept, the cancel date emptied
unfoldable pub restored : Record → Record
restored r =
    record {
      receipt = r.receipt;
      number = r.number;
      kind = r.kind;
      amount = r.amount;
      date = r.date;
      state = done;
      authcode = r.authcode;
      credit = r.credit;
      cancel = empty_date;
    }

-- a posted line is recorded as the payment that it tells of
abbrev pub details_of : Line → Details
details_of x = record { receipt = x.receipt; number = x.number; kind = x.kind; amount = x.amount; date = x.date }

unfoldable pub posted_record : Gate → List ℕ → Line → Record
posted_record g clock x = make_record g clock (details_of x)

-- the gate and the records of its table
pub record Ledger : Type 0 where
  pub gate : Gate
  pub records : List Record

abbrev pub ledger_of : Gate → Rows → Ledger
ledger_of g t = record { gate = g; records = records_of t g.used }

unfoldable pub applied : List ℕ → Line → Verdict → Ledger → Ledger
applied clock x Keeps l = l
applied clock x (Restores i) l =
    record {
      gate = credited_at l.gate (find_account x.number x.kind (accounts_of l.gate)) x.amount;
      records = set l.records i (restored (get_or l.records i no_record));
    }
applied clock x (Posts a) l =
    record {
      gate = with_used (credited_at l.gate (Some a) x.amount) (l.gate.used + 1);
      records = l.records ++ (posted_record l.gate clock x ∷ []);
    }
applied clock x Unposted l = l

unfoldable pub settle_line : List ℕ → ℕ → Line → Ledger → Ledger
settle_line clock lent x l = applied clock x (verdict_of l.gate l.records lent x) l
