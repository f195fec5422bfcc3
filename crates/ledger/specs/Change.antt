-- Document 01, "Gate": the three changes that a decision may make.
use Rattle.std.specs.Prelude.{ℕ, ◌+◌, ◌≤◌, ◌≡◌, List, [], ◌∷◌, ◌++◌, ℤ, length, set, Option, Some, None}
use Rattle.dates.specs.Date.{empty_date}
use Rattle.payments.specs.declared.Details.{Details}
use Rattle.payments.specs.declared.Instruction.{Instruction}
use Rattle.table.specs.declared.Record.{Record}
use Rattle.table.specs.declared.Gate.{Gate}
use Rattle.table.specs.Table.{done, cancelled, Rows, records_of, rows_from}
use Rattle.std.specs.Int.Signed.{mag}
use Rattle.table.specs.Accounts.{balance_of, credited, debited, with_used, gate_balance}
use Rattle.rules.specs.declared.decision.Change.{Change}
use Rattle.rules.specs.declared.decision.Change.TheVariants.{Keep, Append, Revoke}
use Rattle.planning.specs.declared.plan.Plan.{Plan}
use Rattle.planning.specs.Plan.{plan_of, Planned, Within}

-- the nth record has authcode n
unfoldable pub next_authcode : Gate → ℕ
next_authcode g = g.used + 1

unfoldable pub make_record : Gate → List ℕ → Details → Record
make_record g clock q =
    record {
      receipt = q.receipt;
      number = q.number;
      kind = q.kind;
      amount = q.amount;
      date = q.date;
      state = done;
      authcode = next_authcode g;
      credit = clock;
      cancel = empty_date;
    }

unfoldable pub revoked : List ℕ → Record → Record
revoked clock r =
    record {
      receipt = r.receipt;
      number = r.number;
      kind = r.kind;
      amount = r.amount;
      date = r.date;
      state = cancelled;
      authcode = r.authcode;
      credit = r.credit;
      cancel = clock;
    }

abbrev pub credited_at : Gate → Option ℕ → ℕ → Gate
credited_at g None n = g
credited_at g (Some a) n = credited g a n

abbrev pub debited_at : Gate → Option ℕ → ℕ → Gate
debited_at g None n = g
debited_at g (Some a) n = debited g a n

abbrev pub replaced_at : List Record → Option ℕ → Record → List Record
replaced_at rs None r = rs
replaced_at rs (Some i) r = set rs i r

-- the gate and the records after a change, and the record that the answer speaks of
pub record Changed : Type 0 where
  pub gate : Gate
  pub records : List Record
  pub subject : Record

unfoldable pub changed : Change → Gate → List Record → List ℕ → Instruction → Plan → Changed
changed Keep g rs clock q p = record { gate = g; records = rs; subject = p.payment }
changed Append g rs clock q p =
    record {
      gate = with_used (credited_at g p.account q.details.amount) (g.used + 1);
      records = rs ++ (make_record g clock q.details ∷ []);
      subject = make_record g clock q.details;
    }
changed Revoke g rs clock q p =
    record {
      gate = debited_at g p.account p.payment.amount;
      records = replaced_at rs p.found (revoked clock p.payment);
      subject = revoked clock p.payment;
    }

abbrev pub executed : Gate → List Record → List ℕ → Instruction → Plan → Changed
executed g rs clock q p = changed p.decided.change g rs clock q p

-- the gate with the balance z at the account that was found, and n records
abbrev pub moved_at : Gate → Option ℕ → ℤ → ℕ → Gate
moved_at g None z n = with_used g n
moved_at g (Some a) z n = with_used (gate_balance g a z) n

-- what a change leaves of the gate, the rows and the record that it speaks of
pub record Made (t : Rows) (c : Changed) (gate : Gate) (subject : Record) (rows : Rows) : Type 0 where
  pub gates : gate ≡ c.gate
  pub subjects : subject ≡ c.subject
  pub left : rows ≡ rows_from t c.records

-- what an instruction comes to: its decision's code, and the change that it makes
pub record Executes (g : Gate) (t : Rows) (clock : List ℕ) (fault : ℕ) (q : Instruction) (code : ℕ) (gate : Gate) (subject : Record) (rows : Rows) : Type 0 where
  pub codes : code ≡ (plan_of g (records_of t g.used) (length t.nums) fault q).decided.code
  pub made : Made t (executed g (records_of t g.used) clock q (plan_of g (records_of t g.used) (length t.nums) fault q)) gate subject rows

-- a plan as its definition has it, with what a change may lean on, and the balance of its account
pub record Decides (g : Gate) (t : Rows) (fault : ℕ) (q : Instruction) (p : Plan) (balance : ℤ) : Type 0 where
  pub plan : p ≡ plan_of g (records_of t g.used) (length t.nums) fault q
  pub planned : Planned g.used t p
  pub balances : balance_of g p.account ≡ balance
  pub near : mag balance ≤ 10000000000000000
  pub within : Within p.account g.count
