-- Laws of settlement over the definitions: what the report says, what the sweep leaves, and what every used record keeps.
use Rattle.std.specs.Prelude.{Option, Some, None}
use Prim.Native.Nat.{ℕ, zero, suc, ◌+◌, ◌<◌, ◌≤◌}
use native.Mathlib.Decide.{ℕ_discrete}
use native.Mathlib.Omega.{arith}
use mathlib.Core.Path.{◌≡◌, refl, sym, ap, ◌∙◌}
use mathlib.Core.Bool.{Bool, true, false, cond, not, ◌&&◌, ◌||◌}
use mathlib.Core.List.{List, [], ◌∷◌, ◌++◌, map}
use lib.Dec.{eqb, leb}
use lib.ListN.{length, drop, get_or, set, length-append, length-set, length-map, get_or-append}
use lib.Seq.{get_or-set_same, get_or-set_other}
use Rattle.days.specs.declared.calendar.Day.{Day}
use Rattle.texts.specs.Lists.{written}
use Rattle.dates.specs.Date.{date_day, is_written}
use Rattle.days.specs.Calendar.{is_day, day_before, next_day, on_day}
use Rattle.texts.proofs.Tests.{cond-elim, and_left, and_right}
use Rattle.texts.proofs.OutLaws.{written_over, bytes_past}
use Rattle.posting.proofs.MatchLaws.{match-four}
use Rattle.fields.specs.declared.number.Number.{Number}
use Rattle.lines.specs.declared.line.Line.{Line}
use Rattle.lines.specs.Line.{is_line}
use Rattle.registry.specs.Registry.{line_on, every_line}
use Rattle.registry.proofs.LinesGood.{lines-good}
use Rattle.registry.specs.Registry.{registry_lines, registry_fault}
use Rattle.table.specs.declared.Record.{Record}
use Rattle.table.specs.declared.Gate.{Gate}
use Rattle.lists.specs.Lists.{first_from}
use Rattle.table.specs.Table.{Rows, record_at, records_of, rows_from, find_record, same_payment}
use Rattle.lists.proofs.ListLaws.{found-fits}
use Rattle.table.specs.Accounts.{accounts_of, find_account}
use Rattle.validity.specs.Valid.{table_good}
use Rattle.table.proofs.TableLaws.{length-records, get_d-records, from_at, records-from}
use borrow.Author.Tests.{leb-true, eqb-true, eqb-false, not-true}
use Rattle.table.specs.Table.{no_record}
use Rattle.planning.specs.Plan.{is_full}
use Rattle.ledger.specs.Change.{revoked, debited_at}
use Rattle.ledger.proofs.ChangeLaws.{debit-used}
use Rattle.posting.specs.declared.verdict.Verdict.{Verdict}
use Rattle.posting.specs.declared.verdict.Verdict.TheVariants.{Keeps, Restores, Posts, Unposted}
use Rattle.table.specs.Daily.{is_done}
use Rattle.posting.specs.Posting.{matches, post_verdict, match_verdict, verdict_of, restored, posted_record, Ledger, ledger_of, applied, settle_line}
use Rattle.gate_theorems.proofs.RecordsLaws.{SameKey, key-equal, key-revoked}
use Rattle.clearing.specs.Clearing.{settle_lines, any_matches, is_stray, swept_record, swept_gate, sweep_gates, swept, any_done, report_of}
use Rattle.settlement.specs.Settle.{settle_read, settle}
use Rattle.closing.specs.Closing.{reported, settle_day}
use Rattle.admission.specs.Delivery.{Delivery, undelivered}
use Rattle.closing.proofs.DayLaws.{report-length}
use Rattle.posting.proofs.HeldLaws.{credit-used}

true-not-false : true ≡ false → ⊥
true-not-false e = let z : ◌≡◌ {A = ℕ} 0 1 = cc in absurd (omega arith)

-- ---- the report
pub report-at : (xs : List Line) (rs : List Record) (i b : ℕ) (x : Line) → i < length xs
    → get_or (report_of xs rs) i b ≡ cond (any_done (get_or xs i x) rs) 49 48
unfolding report_of
report-at [] rs i b x h = absurd (omega arith)
report-at (y ∷ xs) rs zero b x h = refl
report-at (y ∷ xs) rs (suc i) b x h = report-at xs rs i b x (omega arith)

-- some done record matches
pub record DoneAt (x : Line) (rs : List Record) : Type 0 where
  pub place : ℕ
  pub within : place < length rs
  pub done : is_done (get_or rs place no_record) ≡ true
  pub fits : matches x (get_or rs place no_record) ≡ true

pub done_at : (x : Line) (rs : List Record) → any_done x rs ≡ true → DoneAt x rs
unfolding any_done
done_at x [] h = let z : ◌≡◌ {A = ℕ} 0 1 = cc in absurd (omega arith)
done_at x (r ∷ rs) h = go (is_done r && matches x r) refl (λ q. done_at x rs q) h
  where
    go : (b : Bool) → is_done r && matches x r ≡ b → (any_done x rs ≡ true → DoneAt x rs) → b || any_done x rs ≡ true → DoneAt x (r ∷ rs)
    go true e up q = record { place = 0; within = omega arith; done = and_left (is_done r) (matches x r) e; fits = and_right (is_done r) (matches x r) e }
    go false e up q = let d : DoneAt x rs = up q in record { place = suc d.place; within = omega (arith, d.within); done = d.done; fits = d.fits }

pub at_done : (x : Line) (rs : List Record) (i : ℕ) → i < length rs → is_done (get_or rs i no_record) ≡ true → matches x (get_or rs i no_record) ≡ true
    → any_done x rs ≡ true
unfolding any_done
at_done x [] i h d m = absurd (omega arith)
at_done x (r ∷ rs) zero h d m = rw (d, m)
at_done x (r ∷ rs) (suc i) h d m = go (is_done r && matches x r) (at_done x rs i (omega arith) d m)
  where
    go : (b : Bool) → any_done x rs ≡ true → b || any_done x rs ≡ true
    go true e = refl
    go false e = e

-- ---- the sweep
-- a record of another day is untouched
pub swept-other : (clock : List ℕ) (day : Day) (xs : List Line) (r : Record) → on_day day (date_day r.date) ≡ false → swept_record clock day xs r ≡ r
unfolding swept_record is_stray
swept-other clock day xs r h = go (is_done r) (on_day day (date_day r.date)) h
  where
    go : (t u : Bool) → u ≡ false → cond ((t && u) && not (any_matches xs r)) (revoked clock r) r ≡ r
    go true u e = rw e
    go false u e = refl

-- ---- what every used record keeps
key-after : (r s t : Record) → SameKey r s → SameKey s t → SameKey r t
key-after r s t a b =
    record {
      receipt = b.receipt ∙ a.receipt;
      number = b.number ∙ a.number;
      kind = b.kind ∙ a.kind;
      amount = b.amount ∙ a.amount;
      date = b.date ∙ a.date;
      authcode = b.authcode ∙ a.authcode;
      credit = b.credit ∙ a.credit;
    }

key-restored : (r : Record) → SameKey r (restored r)
unfolding restored
key-restored r = record { receipt = refl; number = refl; kind = refl; amount = refl; date = refl; authcode = refl; credit = refl }

key-swept : (clock : List ℕ) (day : Day) (xs : List Line) (r : Record) → SameKey r (swept_record clock day xs r)
unfolding swept_record
key-swept clock day xs r =
    cond-elim (SameKey r) (is_stray day xs r) (revoked clock r) r (λ _. key-revoked clock r) (λ _. key-equal r r refl)

-- the table stays as long as the gate says, no record is lost, and each keeps its key
pub record Onward (l l' : Ledger) : Type 0 where
  pub step : length l.records ≡ l.gate.used → length l'.records ≡ l'.gate.used
  pub size : length l.records ≤ length l'.records
  pub keys : (i : ℕ) → i < length l.records → SameKey (get_or l.records i no_record) (get_or l'.records i no_record)

onward-same : (l : Ledger) → Onward l l
onward-same l = record { step = λ e. e; size = omega arith; keys = λ i h. key-equal _ _ refl }

onward-after : (l m n : Ledger) → Onward l m → Onward m n → Onward l n
onward-after l m n a b =
    record {
      step = λ e. b.step (a.step e);
      size = omega (arith, a.size, b.size);
      keys = λ i h. key-after (get_or l.records i no_record) (get_or m.records i no_record) (get_or n.records i no_record) (a.keys i h) (b.keys i (omega (arith, a.size)));
    }

pub applied-onward : (clock : List ℕ) (x : Line) (v : Verdict) (l : Ledger) → Onward l (applied clock x v l)
unfolding applied
applied-onward clock x Keeps l = onward-same l
applied-onward clock x Unposted l = onward-same l
applied-onward clock x (Restores k) l =
    let as_long : length (set l.records k (restored (get_or l.records k no_record))) ≡ length l.records = length-set l.records k (restored (get_or l.records k no_record)) in
    record {
      step = λ e. as_long ∙ e ∙ sym (credit-used l.gate (find_account x.number x.kind (accounts_of l.gate)) x.amount);
      size = omega (arith, as_long);
      keys = λ i h. pick i h (ℕ_discrete i k);
    }
  where
    pick : (i : ℕ) → i < length l.records → Dec (i ≡ k)
        → SameKey (get_or l.records i no_record) (get_or (set l.records k (restored (get_or l.records k no_record))) i no_record)
    pick i h (yes e) =
        let w : k < length l.records = omega arith in
        rw (e, get_or-set_same l.records k (restored (get_or l.records k no_record)) no_record w) (key-restored (get_or l.records k no_record))
    pick i h (no n) = key-equal _ _ (get_or-set_other l.records k i (restored (get_or l.records k no_record)) no_record n)
applied-onward clock x (Posts a) l =
    let longer : length (l.records ++ (posted_record l.gate clock x ∷ [])) ≡ length l.records + 1 = length-append l.records (posted_record l.gate clock x ∷ []) in
    record {
      step = λ e. longer ∙ ap (λ (n : ℕ). n + 1) e;
      size = omega (arith, longer);
      keys = λ i h. key-equal _ _ (get_or-append l.records (posted_record l.gate clock x ∷ []) no_record i h);
    }

pub line-onward : (clock : List ℕ) (lent : ℕ) (x : Line) (l : Ledger) → Onward l (settle_line clock lent x l)
unfolding settle_line
line-onward clock lent x l = applied-onward clock x (verdict_of l.gate l.records lent x) l

lines-onward : (clock : List ℕ) (lent : ℕ) (xs : List Line) (l : Ledger) → Onward l (settle_lines clock lent xs l)
unfolding settle_lines
lines-onward clock lent [] l = onward-same l
lines-onward clock lent (x ∷ xs) l =
    onward-after l (settle_line clock lent x l) (settle_lines clock lent xs (settle_line clock lent x l)) (line-onward clock lent x l)
    (lines-onward clock lent xs (settle_line clock lent x l))

swept-used : (day : Day) (xs : List Line) (r : Record) (g : Gate) → (swept_gate day xs r g).used ≡ g.used
unfolding swept_gate
swept-used day xs r g =
    cond-elim (λ (h : Gate). h.used ≡ g.used) (is_stray day xs r) (debited_at g (find_account r.number r.kind (accounts_of g)) r.amount) g
    (λ _. debit-used g (find_account r.number r.kind (accounts_of g)) r.amount)
    (λ _. refl)

sweep-used : (day : Day) (xs : List Line) (rs : List Record) (g : Gate) → (sweep_gates day xs rs g).used ≡ g.used
unfolding sweep_gates
sweep-used day xs [] g = refl
sweep-used day xs (r ∷ rs) g = sweep-used day xs rs (swept_gate day xs r g) ∙ swept-used day xs r g

pub map_at : (f : Record → Record) (rs : List Record) (i : ℕ) (z : Record) → i < length rs → get_or (map f rs) i z ≡ f (get_or rs i z)
map_at f [] i z h = absurd (omega arith)
map_at f (r ∷ rs) zero z h = refl
map_at f (r ∷ rs) (suc i) z h = map_at f rs i z (omega arith)

pub swept-onward : (clock : List ℕ) (day : Day) (xs : List Line) (l : Ledger) → Onward l (swept clock day xs l)
unfolding swept
swept-onward clock day xs l =
    let as_long : length (map (swept_record clock day xs) l.records) ≡ length l.records = length-map l.records (swept_record clock day xs) in
    record {
      step = λ e. as_long ∙ e ∙ sym (sweep-used day xs l.records l.gate);
      size = omega (arith, as_long);
      keys = λ i h. rw (map_at (swept_record clock day xs) l.records i no_record h) (key-swept clock day xs (get_or l.records i no_record));
    }

-- ---- the call, by its ways: a fault, a closed day, the day that is settled
-- what a registry has passed that is settled or reported
pub record Passed (g : Gate) (t : Rows) (day : Day) (text out : List ℕ) : Type 0 where
  pub good : table_good g t ≡ true
  pub room : 512 ≤ length out
  pub faultless : registry_fault day text ≡ 0

module _ (g : Gate) (t : Rows) (clock : List ℕ) (day : Day) (text out : List ℕ) where
  pub settle-elim : (P : Delivery → Type 0) → ((code : ℕ) → (code ≡ 0 → ⊥) → P (undelivered code g t out))
      → (Passed g t day text out → on_day day (next_day g.closed) ≡ false → day_before g.closed day ≡ false → P (reported g t (registry_lines text) out))
      → (Passed g t day text out → is_written clock ≡ true → on_day day (next_day g.closed) ≡ true → P (settle_day g t clock day (registry_lines text) out))
      → P (settle g t clock day text out)
  unfolding settle settle_read
  settle-elim P keep report settles =
      cond-elim P (table_good g t) _ _
      (λ good. cond-elim P (leb 512 (length out)) _ _
      (λ room. cond-elim P (is_written clock) _ _
      (λ dated. cond-elim P (eqb (registry_fault day text) 0) _ _
      (λ none.
      let p : Passed g t day text out = record { good = good; room = leb-true 512 (length out) room; faultless = eqb-true (registry_fault day text) 0 none } in
      cond-elim P (on_day day (next_day g.closed)) _ _
      (λ next. settles p dated next)
      (λ off. cond-elim P (is_day day && not (day_before g.closed day)) _ _ (λ b. report p off (not-true _ (and_right (is_day day) _ b))) (λ _. keep 55 (λ e. absurd (omega arith)))))
      (λ n. keep (registry_fault day text) (eqb-false (registry_fault day text) 0 n)))
      (λ _. keep 51 (λ e. absurd (omega arith))))
      (λ _. keep 50 (λ e. absurd (omega arith))))
      (λ _. keep 68 (λ e. absurd (omega arith)))

  -- the same where the clock and the order of days do not matter
  pub settled-by : (P : Delivery → Type 0) → ((code : ℕ) → (code ≡ 0 → ⊥) → P (undelivered code g t out)) → (Passed g t day text out → on_day day (next_day g.closed) ≡ false → P (reported g t (registry_lines text) out))
      → (Passed g t day text out → on_day day (next_day g.closed) ≡ true → P (settle_day g t clock day (registry_lines text) out))
      → P (settle g t clock day text out)
  settled-by P keep report settles = settle-elim P keep (λ p off _. report p off) (λ p _ next. settles p next)

  -- a fault keeps all
  pub fault-keeps : ((settle g t clock day text out).code ≡ 0 → ⊥) → settle g t clock day text out ≡ undelivered (settle g t clock day text out).code g t out
  unfolding settle_day
  fault-keeps =
      settled-by (λ (d : Delivery). (d.code ≡ 0 → ⊥) → d ≡ undelivered d.code g t out)
      (λ code _ _. refl)
      (λ _ _ n. absurd (n refl))
      (λ _ _ n. absurd (n refl))

  -- the ledger that the day's settlement makes
  abbrev pub before : Ledger
  before = ledger_of g t

  abbrev pub after : Ledger
  after = swept clock day (registry_lines text) (settle_lines clock (length t.nums) (registry_lines text) before)

  after-onward : Onward before after
  after-onward =
      let m : Ledger = settle_lines clock (length t.nums) (registry_lines text) before in
      onward-after before m after (lines-onward clock (length t.nums) (registry_lines text) before) (swept-onward clock day (registry_lines text) m)

  pub after-used : length after.records ≡ after.gate.used
  after-used = after-onward.step (length-records t g.used)

  today-report : (settle_day g t clock day (registry_lines text) out).out
      ≡ written out 0 (report_of (registry_lines text) (records_of (settle_day g t clock day (registry_lines text) out).rows (settle_day g t clock day (registry_lines text) out).gate.used))
  unfolding settle_day
  today-report =
      ap (λ (rs : List Record). written out 0 (report_of (registry_lines text) rs))
      (sym (ap (records_of (rows_from t after.records)) (sym after-used) ∙ records-from t after.records no_record))

  -- the report is that of the table as the call leaves it
  abbrev left : Delivery → List Record
  left d = records_of d.rows d.gate.used

  pub report-now : (settle g t clock day text out).code ≡ 0
      → (settle g t clock day text out).out ≡ written out 0 (report_of (registry_lines text) (left (settle g t clock day text out)))
  report-now =
      settled-by (λ (d : Delivery). d.code ≡ 0 → d.out ≡ written out 0 (report_of (registry_lines text) (left d)))
      (λ code n e. absurd (n e))
      (λ _ _ _. refl)
      (λ _ _ _. today-report)

-- no used record is lost, and each keeps its key
pub record KeysLast (g : Gate) (t : Rows) (d : Delivery) : Type 0 where
  pub used : g.used ≤ d.gate.used
  pub keys : (i : ℕ) → i < g.used → SameKey (record_at t i) (record_at d.rows i)

module _ (g : Gate) (t : Rows) (clock : List ℕ) (day : Day) (text out : List ℕ) where
  today-lasts : KeysLast g t (settle_day g t clock day (registry_lines text) out)
  unfolding settle_day
  today-lasts =
      let o : Onward (before g t clock day text out) (after g t clock day text out) = after-onward g t clock day text out in
      let n : length (records_of t g.used) ≡ g.used = length-records t g.used in
      let m : length (after g t clock day text out).records ≡ (after g t clock day text out).gate.used = after-used g t clock day text out in
      let k : length (records_of t g.used) ≤ length (after g t clock day text out).records = o.size in
      record {
        used = omega (arith, n, m, k);
        keys = λ i h. rw (← (get_d-records t g.used i no_record h), from_at t (after g t clock day text out).records i no_record (omega (arith, n, k))) (o.keys i (omega (arith, n)));
      }

  pub settle-lasts : KeysLast g t (settle g t clock day text out)
  settle-lasts =
      settled-by g t clock day text out (KeysLast g t)
      (λ code n. record { used = omega arith; keys = λ i h. key-equal _ _ refl })
      (λ _ _. record { used = omega arith; keys = λ i h. key-equal _ _ refl })
      (λ _ _. today-lasts)

-- ---- the bytes of the report, as the call leaves its buffer
written_at : (d xs : List ℕ) (i : ℕ) → length xs ≤ length d → i < length xs → get_or (written d 0 xs) i 0 ≡ get_or xs i 0
written_at d xs i fit h =
    let room : 0 + length xs ≤ length d = omega arith in
    ap (λ (l : List ℕ). get_or l i 0) (sym (written_over d 0 xs room)) ∙ get_or-append xs (drop (0 + length xs) d) 0 i h

module _ (g : Gate) (t : Rows) (clock : List ℕ) (day : Day) (text out : List ℕ) (done : (settle g t clock day text out).code ≡ 0) where
  abbrev table : List Record
  table = records_of (settle g t clock day text out).rows (settle g t clock day text out).gate.used

  report-room : length (registry_lines text) ≤ length out
  unfolding settle_day
  report-room =
      settled-by g t clock day text out (λ (d : Delivery). d.code ≡ 0 → length (registry_lines text) ≤ length out)
      (λ code n e. absurd (n e))
      (λ p _ _. room p)
      (λ p _ _. room p)
      done
    where
      room : Passed g t day text out → length (registry_lines text) ≤ length out
      room p = omega (arith, p.room, (lines-good day text p.faultless).few)

  module _ (i : ℕ) (x : Line) (h : i < length (registry_lines text)) where
    -- 49 if a done record of the table as it is left matches the line, else 48
    pub report-byte : get_or (settle g t clock day text out).out i 0 ≡ cond (any_done (get_or (registry_lines text) i x) table) 49 48
    report-byte =
        let n : length (report_of (registry_lines text) table) ≡ length (registry_lines text) = report-length (registry_lines text) table in
        ap (λ (l : List ℕ). get_or l i 0) (report-now g t clock day text out done)
        ∙ written_at out (report_of (registry_lines text) table) i (omega (arith, n, report-room)) (omega (arith, n))
        ∙ report-at (registry_lines text) table i 0 x h

    pub report-done : get_or (settle g t clock day text out).out i 0 ≡ 49 → DoneAt (get_or (registry_lines text) i x) table
    report-done e = go (any_done (get_or (registry_lines text) i x) table) refl (sym report-byte ∙ e)
      where
        go : (b : Bool) → any_done (get_or (registry_lines text) i x) table ≡ b → ◌≡◌ {A = ℕ} (cond b 49 48) 49 → DoneAt (get_or (registry_lines text) i x) table
        go true y q = done_at (get_or (registry_lines text) i x) table y
        go false y q = absurd (omega arith)

    pub done-report : DoneAt (get_or (registry_lines text) i x) table → get_or (settle g t clock day text out).out i 0 ≡ 49
    done-report d = report-byte ∙ rw (at_done (get_or (registry_lines text) i x) table d.place d.within d.done d.fits)

  -- the bytes past the lines stay
  pub report-past : (i : ℕ) → length (registry_lines text) ≤ i → get_or (settle g t clock day text out).out i 0 ≡ get_or out i 0
  report-past i h =
      let n : length (report_of (registry_lines text) table) ≡ length (registry_lines text) = report-length (registry_lines text) table in
      ap (λ (l : List ℕ). get_or l i 0) (report-now g t clock day text out done)
      ∙ bytes_past out 0 (report_of (registry_lines text) table) i (omega (arith, n))

-- ---- a record that is restored is of the same payment
pub restored-agrees : (n : Number) (k m : ℕ) (d : List ℕ) (r : Record) → same_payment n k m d (restored r) ≡ same_payment n k m d r
unfolding restored same_payment
restored-agrees n k m d r = refl

-- ---- records of other days: neither a line nor the sweep touches them
-- a verdict that restores record k has found it by the line
module _ (x : Line) (rs : List Record) (k : ℕ) where
  no-post : (f a : Option ℕ) (full : Bool) → post_verdict f a full ≡ Restores k → ⊥
  no-post (Some i) a full e = let z : ◌≡◌ {A = ℕ} 0 1 = cc in absurd (omega arith)
  no-post None None full e = let z : ◌≡◌ {A = ℕ} 0 1 = cc in absurd (omega arith)
  no-post None (Some a) true e = let z : ◌≡◌ {A = ℕ} 0 1 = cc in absurd (omega arith)
  no-post None (Some a) false e = let z : ◌≡◌ {A = ℕ} 0 1 = cc in absurd (omega arith)

  by-match : (f : Option ℕ) (other : Verdict) → (other ≡ Restores k → ⊥) → match_verdict rs f other ≡ Restores k → f ≡ Some k
  by-match None other n e = absurd (n e)
  by-match (Some i) other n e = go (is_done (get_or rs i no_record)) e
    where
      go : (b : Bool) → cond b Keeps (Restores i) ≡ Restores k → Some i ≡ Some k
      go true q = let z : ◌≡◌ {A = ℕ} 0 1 = cc in absurd (omega arith)
      go false q = let z : i ≡ k = cc in ap Some z

  pub restores-at : (g : Gate) (lent : ℕ) → verdict_of g rs lent x ≡ Restores k → first_from (matches x) 0 rs ≡ Some k
  unfolding verdict_of
  restores-at g lent e = by-match (first_from (matches x) 0 rs) _ (no-post (find_record x.receipt rs) (find_account x.number x.kind (accounts_of g)) (is_full g lent)) e

  restores-fits : (g : Gate) (lent : ℕ) → verdict_of g rs lent x ≡ Restores k → matches x (get_or rs k no_record) ≡ true
  restores-fits g lent e = found-fits (matches x) rs no_record (restores-at g lent e)

module _ (day : Day) where
  abbrev Other : Record → Type 0
  Other r = on_day day (date_day r.date) ≡ false

  line_other : (clock : List ℕ) (lent : ℕ) (x : Line) (l : Ledger) (i : ℕ) → line_on day x ≡ true → i < length l.records → Other (get_or l.records i no_record)
      → get_or (settle_line clock lent x l).records i no_record ≡ get_or l.records i no_record
  unfolding settle_line applied line_on
  line_other clock lent x l i on h off = go (verdict_of l.gate l.records lent x) refl
    where
      go : (v : Verdict) → verdict_of l.gate l.records lent x ≡ v → get_or (applied clock x v l).records i no_record ≡ get_or l.records i no_record
      go Keeps e = refl
      go Unposted e = refl
      go (Posts a) e = get_or-append l.records (posted_record l.gate clock x ∷ []) no_record i h
      go (Restores k) e = get_or-set_other l.records k i (restored (get_or l.records k no_record)) no_record apart
        where
          apart : i ≡ k → ⊥
          apart q =
              let fits : matches x (get_or l.records k no_record) ≡ true = restores-fits x l.records k l.gate lent e in
              let same : (get_or l.records i no_record).date ≡ x.date = ap (λ (j : ℕ). (get_or l.records j no_record).date) q ∙ (match-four x (get_or l.records k no_record) fits).date in
              let today : on_day day (date_day x.date) ≡ true = and_right (is_line x) _ on in
              let z : true ≡ false = sym today ∙ ap (λ (d : List ℕ). on_day day (date_day d)) (sym same) ∙ off in
              true-not-false z

  lines_other : (clock : List ℕ) (lent : ℕ) (xs : List Line) (l : Ledger) (i : ℕ) → every_line day xs ≡ true → i < length l.records → Other (get_or l.records i no_record)
      → get_or (settle_lines clock lent xs l).records i no_record ≡ get_or l.records i no_record
  unfolding settle_lines every_line
  lines_other clock lent [] l i on h off = refl
  lines_other clock lent (x ∷ xs) l i on h off =
      let same : get_or (settle_line clock lent x l).records i no_record ≡ get_or l.records i no_record = line_other clock lent x l i (and_left (line_on day x) _ on) h off in
      let still : Other (get_or (settle_line clock lent x l).records i no_record) = rw same off in
      lines_other clock lent xs (settle_line clock lent x l) i (and_right (line_on day x) _ on) (omega (arith, h, (line-onward clock lent x l).size)) still ∙ same

  swept_kept : (clock : List ℕ) (xs : List Line) (l : Ledger) (i : ℕ) → i < length l.records → Other (get_or l.records i no_record)
      → get_or (swept clock day xs l).records i no_record ≡ get_or l.records i no_record
  unfolding swept
  swept_kept clock xs l i h off = map_at (swept_record clock day xs) l.records i no_record h ∙ swept-other clock day xs (get_or l.records i no_record) off

module _ (g : Gate) (t : Rows) (clock : List ℕ) (day : Day) (text out : List ℕ) (i : ℕ) (h : i < g.used) (off : on_day day (date_day (record_at t i).date) ≡ false) where
  today-other : Passed g t day text out → record_at (settle_day g t clock day (registry_lines text) out).rows i ≡ record_at t i
  unfolding settle_day
  today-other p =
      let xs : List Line = registry_lines text in
      let l : Ledger = before g t clock day text out in
      let m : Ledger = settle_lines clock (length t.nums) xs l in
      let n : length (records_of t g.used) ≡ g.used = length-records t g.used in
      let up : length (records_of t g.used) ≤ length m.records = (lines-onward clock (length t.nums) xs l).size in
      let long : length m.records ≤ length (swept clock day xs m).records = (swept-onward clock day xs m).size in
      let at : get_or (records_of t g.used) i no_record ≡ record_at t i = get_d-records t g.used i no_record h in
      let off₁ : on_day day (date_day (get_or (records_of t g.used) i no_record).date) ≡ false = rw at off in
      let lined : get_or m.records i no_record ≡ get_or (records_of t g.used) i no_record = lines_other day clock (length t.nums) xs l i (lines-good day text p.faultless).lines (omega (arith, n, h)) off₁ in
      let off₂ : on_day day (date_day (get_or m.records i no_record).date) ≡ false = rw lined off₁ in
      from_at t (swept clock day xs m).records i no_record (omega (arith, n, up, long, h))
      ∙ swept_kept day clock xs m i (omega (arith, n, up, h)) off₂
      ∙ lined
      ∙ at

  pub other-day : record_at (settle g t clock day text out).rows i ≡ record_at t i
  other-day = settled-by g t clock day text out (λ (d : Delivery). record_at d.rows i ≡ record_at t i) (λ _ _. refl) (λ _ _. refl) (λ p _. today-other p)
