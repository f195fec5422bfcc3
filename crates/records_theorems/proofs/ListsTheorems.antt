-- Every list of calls over a lent slice of records answers and leaves what it does over their rows.
use Prim.Native.Nat.{ℕ, ◌≤◌}
use native.Mathlib.Omega.{arith}
use mathlib.Core.Path.{◌≡◌, refl, sym, ap, ◌∙◌}
use mathlib.Core.Bool.{true}
use mathlib.Core.List.{List, [], ◌∷◌, ◌++◌}
use lib.ListN.{length, drop, set, length-append, length-drop, length-map, length-set}
use lib.Seq.{take_all}
use Rattle.days.specs.declared.calendar.Day.{Day}
use Rattle.payments.specs.declared.Instruction.{Instruction}
use Rattle.texts.proofs.Tests.{and_left}
use Rattle.lists.proofs.LentLaws.{lent-facts}
use Rattle.message.specs.Request.{request_read, fault_number}
use Rattle.table.specs.declared.Gate.{Gate}
use Rattle.table.specs.declared.Record.{Record}
use Rattle.table.specs.Table.{Rows, nums_of, records_of, rows_from}
use Rattle.table.proofs.TableLaws.{length-records}
use Rattle.validity.specs.Valid.{lent_good, table_good}
use Rattle.ledger.specs.Change.{make_record, revoked}
use Rattle.gate.specs.Deliver.{instruction_in, respond, deliver}
use Rattle.admission.specs.Delivery.{Delivery}
use Rattle.gate_theorems.proofs.KeepsLaws.{delivered-by}
use Rattle.gate_theorems.proofs.OutcomeLaws.{Outcome, stays, appends, revokes, outcome}
use Rattle.posting.specs.Posting.{Ledger}
use Rattle.clearing.specs.Clearing.{settle_lines, swept, swept_record}
use Rattle.registry.specs.Registry.{registry_lines}
use Rattle.settlement.specs.Settle.{settle}
use Rattle.closing.specs.Closing.{settle_day}
use Rattle.settlement_theorems.proofs.SettleLaws.{settled-by}
use Rattle.settlement_theorems.proofs.GoodTheorems.{lines-room}
use Rattle.calls.specs.declared.Call.{Call}
use Rattle.calls.specs.declared.Call.TheVariants.{Request, Registry, Opening, Drawing}
use Rattle.records.specs.Records.{rows_of, Called, back_from, call_records}
use Rattle.calls.specs.Calls.{call_on}
use Rattle.records.proofs.RecordsLaws.{records-are, rows-from}
use Rattle.records_theorems.specs.Lists.{CallMade, over_records, over_rows}

-- the rows of n records
record Holds (n : ℕ) (t : Rows) : Type 0 where
  held : List Record
  size : length held ≡ n
  rows : t ≡ rows_of held

all_held : (ts : List Record) → records_of (rows_of ts) (length ts) ≡ ts
all_held ts = records-are ts (length ts) (omega arith) ∙ take_all (length ts) ts (omega arith)

-- they are the rows of their own records
holds-own : (n : ℕ) (t : Rows) → Holds n t → t ≡ rows_of (records_of t n)
holds-own n t h = h.rows ∙ ap rows_of (sym (rw (h.rows, ← h.size) (all_held h.held)))

module _ (ts : List Record) where
  abbrev t : Rows
  t = rows_of ts

  abbrev n : ℕ
  n = length ts

  places : length t.nums ≡ n
  unfolding rows_of
  places = length-map ts nums_of

  kept : Holds n t
  kept = record { held = ts; size = refl; rows = refl }

  -- rows whose first records are written anew, no more than there are
  from : (rs : List Record) → length rs ≤ n → (s : Rows) → s ≡ rows_from t rs → Holds n s
  from rs l s e =
      record {
        held = rs ++ drop (length rs) ts;
        size = omega (arith, l, length-append rs (drop (length rs) ts), length-drop (length rs) ts);
        rows = e ∙ rows-from ts rs;
      }

  module _ (g : Gate) where
    used : table_good g t ≡ true → g.used ≤ n
    unfolding table_good
    used good = omega (arith, places, (lent-facts g.used _ _ _ (and_left (lent_good g t) _ good)).room)

    answer : (clock : List ℕ) (q : Instruction) (d : Delivery) → table_good g t ≡ true → Outcome g t clock q d → Holds n d.rows
    answer clock q d good (stays eg er) = from (records_of t g.used) (omega (arith, used good, length-records t g.used)) d.rows er
    answer clock q d good (appends a ea en ef room day ec eg er) =
        from (records_of t g.used ++ (make_record g clock q.details ∷ []))
        (omega (arith, room, places, length-records t g.used, length-append (records_of t g.used) (make_record g clock q.details ∷ [])))
        d.rows er
    answer clock q d good (revokes i r f ea ei er ef es day fu ec eg el) =
        from (set (records_of t g.used) i (revoked clock r))
        (omega (arith, used good, length-records t g.used, length-set (records_of t g.used) i (revoked clock r)))
        d.rows el

    request : (clock params out : List ℕ) → Holds n (deliver g t clock params out).rows
    request clock params out =
        delivered-by g t clock params out (λ (d : Delivery). Holds n d.rows) (λ _ _ _. kept)
        (λ good _. answer clock (instruction_in params) (respond g t clock (fault_number (request_read params)) (instruction_in params) out) good
        (outcome g t clock (fault_number (request_read params)) (instruction_in params) out))

    registry : (clock : List ℕ) (day : Day) (text out : List ℕ) → Holds n (settle g t clock day text out).rows
    unfolding settle_day swept
    registry clock day text out =
        settled-by g t clock day text out (λ (d : Delivery). Holds n d.rows) (λ _ _. kept) (λ _ _. kept)
        (λ p _.
        let first : Ledger = record { gate = g; records = records_of t g.used } in
        let mid : Ledger = settle_lines clock (length t.nums) (registry_lines text) first in
        let size : length (records_of t g.used) ≡ g.used = length-records t g.used in
        from (swept clock day (registry_lines text) mid).records
        (omega (arith, places, length-map mid.records (swept_record clock day (registry_lines text)), lines-room clock (length t.nums) (registry_lines text) first size (omega (arith, size, places, used p.good))))
        _ refl)

    call-held : (c : Call) (text out : List ℕ) → Holds n (call_on g c text out t).rows
    unfolding call_on
    call-held (Request clock) text out = request clock text out
    call-held (Registry clock day) text out = registry clock day text out
    call-held (Opening number kind) text out = kept
    call-held (Drawing number kind kopecks) text out = kept

-- the rows that a call leaves are those of the records that it leaves
pub rows_left : (g : Gate) (ts : List Record) (c : Call) (text out : List ℕ) → (call_on g c text out (rows_of ts)).rows ≡ rows_of (call_records g ts c text out).records
unfolding call_records
rows_left g ts c text out = holds-own (length ts) _ (call-held ts g c text out)

-- no record is added to those lent or taken from them
pub as_many : (g : Gate) (ts : List Record) (c : Call) (text out : List ℕ) → length (call_records g ts c text out).records ≡ length ts
unfolding call_records
as_many g ts c text out = length-records _ (length ts)

-- what a call over records gives, given back to rows
abbrev in_rows : Called → Delivery
in_rows s = record { code = s.code; gate = s.gate; rows = rows_of s.records; out = s.out; size = s.size }

call-in-rows : (g : Gate) (ts : List Record) (c : Call) (text out : List ℕ) → in_rows (call_records g ts c text out) ≡ call_on g c text out (rows_of ts)
unfolding call_records
call-in-rows g ts c text out =
    let d = call_on g c text out (rows_of ts) in
    λ j. record { code = d.code; gate = d.gate; rows = sym (rows_left g ts c text out) j; out = d.out; size = d.size }

-- a list of calls over records is the list over their rows
pub lists-are : (ms : List CallMade) (s : Called) → over_records s ms ≡ back_from (length s.records) (over_rows (in_rows s) ms)
unfolding over_records over_rows
lists-are [] s = λ j. record { code = s.code; gate = s.gate; records = sym (all_held s.records) j; out = s.out; size = s.size }
lists-are (m ∷ ms) s =
    let r : Called = call_records s.gate s.records m.call m.text m.out in
    lists-are ms r
    ∙ ap (λ (n : ℕ). back_from n (over_rows (in_rows r) ms)) (as_many s.gate s.records m.call m.text m.out)
    ∙ ap (λ (d : Delivery). back_from (length s.records) (over_rows d ms)) (call-in-rows s.gate s.records m.call m.text m.out)
