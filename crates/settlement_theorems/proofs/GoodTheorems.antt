-- Row 68 through a settlement: all its clauses hold after it, but for the bound on balances, which the lines may pass.
use Rattle.std.specs.Prelude.{Option, Some, None}
use Prim.Native.Nat.{ℕ, ◌<◌, ◌≤◌}
use native.Mathlib.Omega.{arith}
use mathlib.Core.Path.{◌≡◌, refl, sym, ap, ◌∙◌}
use mathlib.Core.Bool.{true, false}
use mathlib.Core.List.{List, [], ◌∷◌}
use lib.ListN.{length, get_or, length-append, length-set, length-map}
use borrow.Author.Tests.{leb-false}
use Rattle.days.specs.declared.calendar.Day.{Day}
use Rattle.days.specs.Calendar.{is_day, next_day, on_day}
use Rattle.dates.specs.Date.{is_written}
use Rattle.texts.proofs.Tests.{no-claim}
use Rattle.days.proofs.DayLaws.{same-day, next-is-day}
use Rattle.lines.specs.declared.line.Line.{Line}
use Rattle.registry.specs.Registry.{registry_lines}
use Rattle.registry.proofs.LinesGood.{lines-good as registry-lines}
use Rattle.lists.specs.Lists.{first_from}
use Rattle.lists.proofs.EachLaws.{Each}
use Rattle.table.specs.declared.Gate.{Gate}
use Rattle.table.specs.declared.Record.{Record}
use Rattle.table.specs.Table.{Rows, record_at, records_of, rows_from, find_record}
use Rattle.table.specs.Accounts.{accounts_of, find_account, with_closed}
use Rattle.validity.specs.Valid.{record_good, account_known}
use Rattle.table.proofs.TableLaws.{length-records, get_d-records, from_at, from-whole, whole_from}
use Rattle.table.specs.Table.{no_record}
use Rattle.planning.specs.Plan.{is_full}
use Rattle.gate_theorems.proofs.RowsLaws.{SameNames}
use Rattle.gate_theorems.proofs.KeptLaws.{GateRep, GateBase, gate-facts, base-of, names_apart}
use Rattle.posting.specs.declared.verdict.Verdict.{Verdict}
use Rattle.posting.specs.declared.verdict.Verdict.TheVariants.{Keeps, Restores, Posts, Unposted}
use Rattle.posting.specs.Posting.{matches, post_verdict, verdict_of, restored, posted_record, Ledger, applied, settle_line}
use Rattle.clearing.specs.Clearing.{settle_lines, swept_record, swept}
use Rattle.settlement.specs.Settle.{settle}
use Rattle.closing.specs.Closing.{settle_day}
use Rattle.admission.specs.Delivery.{Delivery}
use Rattle.posting.proofs.HeldLaws.{post-room, verdict-post}
use Rattle.settlement_theorems.proofs.SettleLaws.{line-onward, Passed, settle-elim, before, after, after-used}
use Rattle.settlement_theorems.proofs.BalanceLaws.{sweep-names, settle-names}
use Rattle.settlement_theorems.proofs.LedgerLaws.{LineOk, lines_ok, LedgerGood, lines-good, sweep-good}

-- a day that comes next is a date
next-dated : (last day : Day) → on_day day (next_day last) ≡ true → is_day day ≡ true
next-dated last day h = go (next_day last) refl h
  where
    go : (r : Option Day) → next_day last ≡ r → on_day day r ≡ true → is_day day ≡ true
    go None e h = no-claim h
    go (Some x) e h = ap is_day (sym (same-day x day h)) ∙ next-is-day last x e

-- ---- what the lines and the sweep keep: no more records than are lent
has-free : (g : Gate) (cap : ℕ) → is_full g cap ≡ false → g.used < cap
unfolding is_full
has-free g cap h = leb-false cap g.used h

module _ (clock : List ℕ) (cap : ℕ) where
  line-room : (x : Line) (l : Ledger) → length l.records ≡ l.gate.used → length l.records ≤ cap → length (settle_line clock cap x l).records ≤ cap
  unfolding settle_line applied
  line-room x l used room = go (verdict_of l.gate l.records cap x) refl
    where
      go : (v : Verdict) → verdict_of l.gate l.records cap x ≡ v → length (applied clock x v l).records ≤ cap
      go Keeps e = room
      go Unposted e = room
      go (Restores k) e = omega (arith, room, length-set l.records k (restored (get_or l.records k no_record)))
      go (Posts a) e =
          let f = find_account x.number x.kind (accounts_of l.gate) in
          let post : post_verdict (find_record x.receipt l.records) f (is_full l.gate cap) ≡ Posts a = unfold verdict_of in verdict-post l.records (first_from (matches x) 0 l.records) _ a e in
          let free : l.gate.used < cap = has-free l.gate cap (post-room (find_record x.receipt l.records) f (is_full l.gate cap) a post).0 in
          omega (arith, used, free, length-append l.records (posted_record l.gate clock x ∷ []))

  pub lines-room : (xs : List Line) (l : Ledger) → length l.records ≡ l.gate.used → length l.records ≤ cap → length (settle_lines clock cap xs l).records ≤ cap
  unfolding settle_lines
  lines-room [] l used room = room
  lines-room (x ∷ xs) l used room = lines-room xs (settle_line clock cap x l) ((line-onward clock cap x l).step used) (line-room x l used room)

closed-good : (h : Gate) (day : Day) (i : ℕ) (r : Record) → record_good h i r ≡ true → record_good (with_closed h day) i r ≡ true
unfolding record_good account_known
closed-good h day i r e = e

-- ---- the call
module _ (g : Gate) (t : Rows) (rep : GateRep g t) (clock : List ℕ) (day : Day) (text out : List ℕ) where
  abbrev xs : List Line
  xs = registry_lines text

  abbrev first : Ledger
  first = before g t clock day text out

  abbrev mid : Ledger
  mid = settle_lines clock (length t.nums) xs first

  abbrev last : Ledger
  last = after g t clock day text out

  as_many : length last.records ≡ length mid.records
  unfolding swept
  as_many = length-map mid.records (swept_record clock day xs)

  at_first : (i : ℕ) → i < length first.records → (i < g.used) × (get_or first.records i no_record ≡ record_at t i)
  at_first i h = let l : i < g.used = omega (arith, length-records t g.used) in (l, get_d-records t g.used i no_record l)

  few : length last.records ≤ length t.nums
  few =
      let n : length (records_of t g.used) ≡ g.used = length-records t g.used in
      omega (arith, as_many, lines-room clock (length t.nums) xs first n (omega (arith, n, (gate-facts g t rep).room)))

  module _ (p : Passed g t day text out) (dated : is_written clock ≡ true) where
    fine : Each LineOk xs
    fine = lines_ok day xs (registry-lines day text p.faultless).lines

    last-good : LedgerGood last
    unfolding swept
    last-good =
        sweep-good clock dated day xs mid last.gate (sweep-names day xs mid.records mid.gate).finds
        (lines-good clock dated (length t.nums) xs fine first (length-records t g.used)
        (λ i h. let f = at_first i h in ap (record_good g i) f.1 ∙ (gate-facts g t rep).records i f.0))

    day-good : on_day day (next_day g.closed) ≡ true → SameNames (with_closed g day) (with_closed last.gate day) → GateBase (with_closed last.gate day) (rows_from t last.records)
    day-good next s =
        let f = gate-facts g t rep in
        let sizes = from-whole t last.records in
        let u : length last.records ≡ last.gate.used = after-used g t clock day text out in
        record {
          places = s.places ∙ rep.places;
          facts = record {
            some = omega (arith, f.some, sizes.0);
            most = omega (arith, f.most, sizes.0, few);
            numbers = omega (arith, f.numbers, sizes.0, sizes.1);
            dates = omega (arith, f.dates, sizes.0, sizes.2);
            room = omega (arith, u, sizes.0);
            count = omega (arith, s.count, f.count);
            closed = next-dated g.closed day next;
            number = λ i h. rw (s.number i) (f.number i (omega (arith, s.count)));
            kind = λ i h. rw (s.kind i) (f.kind i (omega (arith, s.count)));
            records = λ i h.
                let b : i < length last.records = omega (arith, u) in
                ap (record_good (with_closed last.gate day) i) (from_at t last.records i no_record b) ∙ closed-good last.gate day i (get_or last.records i no_record) (last-good i b);
          };
          whole = rw (← u) (whole_from t last.records);
          apart = names_apart (with_closed g day) _ s rep.apart;
        }

  -- a gate that is well formed stays so but for the balance bound, whatever registry comes
  pub settle-good : GateBase (settle g t clock day text out).gate (settle g t clock day text out).rows
  unfolding settle_day
  settle-good =
      settle-elim g t clock day text out (λ (d : Delivery). SameNames (with_closed g d.gate.closed) d.gate → GateBase d.gate d.rows)
      (λ c z s. base-of g t rep)
      (λ p o b s. base-of g t rep)
      (λ p dated next s. day-good p dated next s)
      (settle-names g t clock day text out)
