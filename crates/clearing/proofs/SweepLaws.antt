-- Laws of the sweep.
use Rattle.std.specs.Prelude.{Option, Some, None}
use Prim.Native.Nat.{ℕ, zero, suc, ◌+◌, ◌-◌, ◌*◌, ◌^◌, ◌≤◌, ◌<◌}
use native.Mathlib.Omega.{arith}
use mathlib.Core.Path.{◌≡◌, refl, sym, ap, ◌∙◌}
use mathlib.Core.Bool.{Bool, true, false, not}
use mathlib.Core.List.{List, [], ◌∷◌, ◌++◌, map}
use native.Mathlib.Numerals.{add-one}
use lib.IntN.{ℤ, pos, ◌-ℤ◌}
use lib.Signed.{mag}
use lib.ListN.{length, get_or, take, drop, set, length-set, length-map, drop_of_length-le, get_or-map}
use mir.Syntax.{w64}
use mir.Val.{to_z, of_z}
use lib.Seq.{drop-cons}
use Rattle.lists.proofs.ListLaws.{get_d-other, partly-get, partly-turn, partly-all}
use Rattle.table.proofs.TableLaws.{length-records, get_d-records, rows-kept}
use Rattle.table.proofs.SignedLaws.{back}
use Rattle.posting.proofs.HeldLaws.{held_more, Step, left-records, left-held}
use Rattle.clearing.proofs.LinesLaws.{from-from}
use Rattle.clearing.proofs.RevokeLaws.{revoked_at, revoke-step, revoked-out, debited-none, debited-at}
use Rattle.posting.proofs.MatchLaws.{match-receipt}
use Rattle.posting.proofs.PostLaws.{found_within}
use Rattle.posting.proofs.DueLaws.{due-place, due-balance, due-near}
use Rattle.directory.specs.Directory.{holders_of, Listed}
use Rattle.directory.proofs.FindLaws.{listed-find, listed-moved}
use Rattle.index.specs.Index.{slot_of, Chained}
use Rattle.index.proofs.ChainLaws.{slot-below, chained_same}
use Rattle.index.proofs.WalkLaws.{Walk, walk_from, walk-hit, walk-next, walk_none, found-any}
use Rattle.lists.specs.Lists.{first_from, is_found}
use borrow.Author.Tests.{not-true, not-false}
use Rattle.days.specs.declared.calendar.Day.{Day}
use Rattle.lines.specs.declared.line.Line.{Line}
use Rattle.table.specs.declared.Gate.{Gate}
use Rattle.table.specs.declared.Record.{Record}
use Rattle.table.specs.Table.{Rows, record_at, records_of, rows_from, rows_with, no_record}
use Rattle.table.specs.Accounts.{find_account, balance_at, gate_balance, Funds}
use Rattle.ledger.specs.Change.{revoked, debited_at}
use Rattle.texts.proofs.Tests.{cond-elim}
use Rattle.posting.specs.Posting.{matches, Ledger, ledger_of}
use Rattle.posting.specs.Lookup.{receipt_at}
use Rattle.clearing.specs.Clearing.{any_matches, is_stray, swept_record, swept_gate, sweep_gates, swept}
use Rattle.line_rows.specs.Lines.{no_line}
use Rattle.posting.specs.Steps.{Held, Left}
use Rattle.clearing.specs.Steps.{receipt_in}

-- ---- whether any line matches a record: a walk along the chain of its receipt
any_found : (xs : List Line) (r : Record) → is_found (first_from (λ (x : Line). matches x r) 0 xs) ≡ any_matches xs r
unfolding any_matches
any_found xs r = found-any (λ (x : Line). matches x r) (λ (l : List Line). any_matches l r) refl (λ x l. refl) 0 xs

module _ (xs : List Line) (r : Record) where
  pub any-start : (heads next : List ℕ) → Chained (receipt_in xs) 0 (length xs) heads next → (at : ℕ) → at ≡ get_or heads (slot_of r.receipt) 0
      → Walk (λ (x : Line). matches x r) xs (receipt_in xs) (slot_of r.receipt) (length xs) at
  any-start heads next c at e =
      rw e (walk_from (λ (x : Line). matches x r) xs no_line (receipt_in xs) (slot_of r.receipt) (length xs) refl
      (λ j z h y. ap slot_of (sym (match-receipt (get_or xs j no_line) r (ap (λ (x : Line). matches x r) (get_d-other xs j no_line z h) ∙ y))))
      _ (c.head (slot_of r.receipt) (slot-below r.receipt)))

  module _ (at : ℕ) (k : Walk (λ (x : Line). matches x r) xs (receipt_in xs) (slot_of r.receipt) (length xs) at) where
    pub any_none : at ≤ 0 → false ≡ any_matches xs r
    any_none h = sym (sym (any_found xs r) ∙ ap is_found (walk_none k h))

    module _ (h : 0 < at) (b : Bool) (eb : b ≡ matches (get_or xs (at - 1) no_line) r) where
      pub any_here : b ≡ true → true ≡ any_matches xs r
      any_here y = sym (sym (any_found xs r) ∙ ap is_found (walk-hit k h no_line (sym eb ∙ y)))

      pub any_next : b ≡ false → (heads next : List ℕ) → Chained (receipt_in xs) 0 (length xs) heads next → (to : ℕ) → to ≡ get_or next (at - 1) 0
          → Walk (λ (x : Line). matches x r) xs (receipt_in xs) (slot_of r.receipt) (length xs) to
      any_next y heads next c to e = walk-next k h heads next c to e no_line (sym eb ∙ y)

set_same : (rs : List Record) (i : ℕ) (z : Record) → set rs i (get_or rs i z) ≡ rs
set_same [] i z = refl
set_same (r ∷ rs) zero z = refl
set_same (r ∷ rs) (suc i) z = ap (λ (l : List Record). r ∷ l) (set_same rs i z)

-- ---- a sweep that has passed i records
pub record Sweeping (clock : List ℕ) (day : Day) (xs : List Line) (t₀ : Rows) (g₀ : Gate) (t : Rows) (g : Gate) (i : ℕ) : Type 0 where
  pub gates : sweep_gates day xs (records_of t₀ g₀.used) g₀ ≡ sweep_gates day xs (drop i (records_of t₀ g₀.used)) g
  pub records : records_of t g.used ≡ map (swept_record clock day xs) (take i (records_of t₀ g₀.used)) ++ drop i (records_of t₀ g₀.used)
  pub rows : t ≡ rows_from t₀ (records_of t g.used)
  pub held : Held g t (11000000000000 + i * 1000000000)
  pub used : g.used ≡ g₀.used

pub sweeping-start : (clock : List ℕ) (day : Day) (xs : List Line) (t : Rows) (g : Gate) → Held g t 11000000000000 → Sweeping clock day xs t g t g 0
sweeping-start clock day xs t g held =
    record {
      gates = refl;
      records = refl;
      rows = sym (rows-kept t g.used held.backed.whole);
      held = held_more g t 11000000000000 (11000000000000 + 0 * 1000000000) held (omega arith);
      used = refl;
    }

module _ {clock : List ℕ} {day : Day} {xs : List Line} {t₀ : Rows} {g₀ : Gate} {t : Rows} {g : Gate} {i : ℕ} (going : Sweeping clock day xs t₀ g₀ t g i) where
  pub sweeping-last : i ≤ g₀.used → Held g t 16000000000000
  sweeping-last h =
      held_more g t (11000000000000 + i * 1000000000) 16000000000000 going.held (omega (arith, going.used, going.held.backed.whole.nums, going.held.backed.size))

  sweeping-held : i < g₀.used → Held g t 10000000000000000
  sweeping-held h = held_more g t 16000000000000 10000000000000000 (sweeping-last (omega arith)) (omega arith)

  sweeping-place : i < g₀.used → i < g.used
  sweeping-place h = omega (arith, going.used)

  pub sweeping-end : g₀.used ≤ i → Left t₀ (swept clock day xs (ledger_of g₀ t₀)) g t
  unfolding swept sweep_gates
  sweeping-end h =
      let rs : List Record = records_of t₀ g₀.used in
      let n : length rs ≤ i = omega (arith, length-records t₀ g₀.used) in
      let e : sweep_gates day xs rs g₀ ≡ g = going.gates ∙ rw (drop_of_length-le rs n) in
      record { gates = sym e; left = going.rows ∙ ap (rows_from t₀) (going.records ∙ partly-all (swept_record clock day xs) rs i n) }

  pub sweeping-ledger : g₀.used ≤ i → swept clock day xs (ledger_of g₀ t₀) ≡ ledger_of g t
  unfolding swept sweep_gates
  sweeping-ledger h =
      let rs : List Record = records_of t₀ g₀.used in
      let n : length rs ≤ i = omega (arith, length-records t₀ g₀.used) in
      let e : sweep_gates day xs rs g₀ ≡ g = going.gates ∙ rw (drop_of_length-le rs n) in
      let k : records_of t g.used ≡ map (swept_record clock day xs) rs = going.records ∙ partly-all (swept_record clock day xs) rs i n in
      ap (λ (y : Gate). record { gate = y; records = map (swept_record clock day xs) rs }) e ∙ ap (λ (y : List Record). record { gate = g; records = y }) (sym k)

-- ---- what the loop keeps at record i: beside the sweep, the sizes and the names
pub record Kept (clock : List ℕ) (day : Day) (xs : List Line) (names keys : List (List ℕ)) (t₀ : Rows) (g₀ : Gate) (t : Rows) (g : Gate) (i : ℕ) : Type 0 where
  pub most : i ≤ g₀.used
  pub nums-kept : length t.nums ≡ length t₀.nums
  pub numbers-kept : length t.numbers ≡ length t₀.numbers
  pub dates-kept : length t.dates ≡ length t₀.dates
  pub listed : Listed names keys g
  pub sweeping : Sweeping clock day xs t₀ g₀ t g i

-- ---- a turn of the loop: the record at i is read, and it is told whether it is a stray. First what the turn is of, then what is known of it
pub record Turn : Type 0 where
  pub of : record { clock : List ℕ; day : Day; xs : List Line; names : List (List ℕ); keys : List (List ℕ); t₀ : Rows; g₀ : Gate; t : Rows; g : Gate; i : ℕ; r : Record; s : Bool }
  pub kept : Kept of.clock of.day of.xs of.names of.keys of.t₀ of.g₀ of.t of.g of.i
  pub more : of.i < of.g₀.used
  pub read : of.r ≡ record_at of.t of.i
  pub stray : of.s ≡ is_stray of.day of.xs of.r

-- a turn from what is known of it
abbrev pub turn-of : {clock : List ℕ} {day : Day} {xs : List Line} {names keys : List (List ℕ)} {t₀ : Rows} {g₀ : Gate} {t : Rows} {g : Gate} {i : ℕ} {r : Record} {s : Bool}
    → Kept clock day xs names keys t₀ g₀ t g i → i < g₀.used → r ≡ record_at t i → s ≡ is_stray day xs r → Turn
turn-of {clock = clock} {day = day} {xs = xs} {names = names} {keys = keys} {t₀ = t₀} {g₀ = g₀} {t = t} {g = g} {i = i} {r = r} {s = s} kept more read stray =
    record {
      of = record { clock = clock; day = day; xs = xs; names = names; keys = keys; t₀ = t₀; g₀ = g₀; t = t; g = g; i = i; r = r; s = s };
      kept = kept;
      more = more;
      read = read;
      stray = stray;
    }

module _ (turn : Turn) where
  open turn use {of, kept, more, read, stray}
  open of use {clock, day, xs, names, keys, t₀, g₀, t, g, i, r, s}
  open kept use {listed, sweeping}

  place : i < g.used
  place = sweeping-place sweeping more

  below : i < length (records_of t₀ g₀.used)
  below = omega (arith, more, length-records t₀ g₀.used)

  there : get_or (records_of t₀ g₀.used) i no_record ≡ r
  there =
      sym (ap (λ (y : List Record). get_or y i no_record) sweeping.records ∙ partly-get (swept_record clock day xs) (records_of t₀ g₀.used) i no_record below)
      ∙ get_d-records t g.used i no_record place ∙ sym read

  pub turn_small : r.amount < 1000000000
  turn_small = let a : r.amount ≡ (record_at t i).amount = ap (λ (q : Record). q.amount) read in omega (arith, sweeping.held.small i place)

  gates-on : (g' : Gate) → g' ≡ swept_gate day xs r g → sweep_gates day xs (records_of t₀ g₀.used) g₀ ≡ sweep_gates day xs (drop (i + 1) (records_of t₀ g₀.used)) g'
  unfolding sweep_gates
  gates-on g' e =
      let rs₀ : List Record = records_of t₀ g₀.used in
      let next : drop i rs₀ ≡ r ∷ drop (i + 1) rs₀ = drop-cons rs₀ i no_record below ∙ rw (there, add-one i) in
      sweeping.gates ∙ ap (λ (y : List Record). sweep_gates day xs y g) next ∙ ap (sweep_gates day xs (drop (i + 1) rs₀)) (sym e)

  records-on : (rs : List Record) → rs ≡ set (records_of t g.used) i (swept_record clock day xs r)
      → rs ≡ map (swept_record clock day xs) (take (i + 1) (records_of t₀ g₀.used)) ++ drop (i + 1) (records_of t₀ g₀.used)
  records-on rs e =
      let rs₀ : List Record = records_of t₀ g₀.used in
      let f : Record → Record = swept_record clock day xs in
      e ∙ ap (λ (y : List Record). set y i (f r)) sweeping.records ∙ ap (λ (q : Record). set (map f (take i rs₀) ++ drop i rs₀) i (f q)) (sym there) ∙ partly-turn f rs₀ i no_record below

  skip : not s ≡ true → Sweeping clock day xs t₀ g₀ t g (i + 1)
  unfolding swept_record swept_gate
  skip e =
      let n : is_stray day xs r ≡ false = sym stray ∙ not-true s e in
      let own : get_or (records_of t g.used) i no_record ≡ r = get_d-records t g.used i no_record place ∙ sym read in
      let same : records_of t g.used ≡ set (records_of t g.used) i r = sym (set_same (records_of t g.used) i no_record) ∙ ap (set (records_of t g.used) i) own in
      record {
        gates = gates-on g (rw n);
        records = records-on (records_of t g.used) (rw n same);
        rows = sweeping.rows;
        held = held_more g t (11000000000000 + i * 1000000000) (11000000000000 + (i + 1) * 1000000000) sweeping.held (omega arith);
        used = sweeping.used;
      }

  on : not s ≡ false → (g' : Gate) (t' : Rows) → Left t (revoked_at clock r i (ledger_of g t)) g' t' → Sweeping clock day xs t₀ g₀ t' g' (i + 1)
  unfolding swept_record swept_gate revoked_at
  on e g' t' left =
      let y : is_stray day xs r ≡ true = sym stray ∙ not-false s e in
      let rs : List Record = records_of t g.used in
      let b : ℕ = 11000000000000 + i * 1000000000 in
      let l : Ledger = revoked_at clock r i (ledger_of g t) in
      let step : Step t g.used (b + 1000000000) l = revoke-step g t b sweeping.held clock r i place turn_small in
      let same : records_of t' g'.used ≡ set rs i (revoked clock r) = left-records t g.used (b + 1000000000) l step g' t' left in
      let size : length (set rs i (revoked clock r)) ≡ length rs = length-set rs i (revoked clock r) in
      let used : g'.used ≡ length (set rs i (revoked clock r)) = ap (λ (y : Gate). y.used) left.gates ∙ step.used in
      record {
        gates = gates-on g' (left.gates ∙ rw y);
        records = records-on (records_of t' g'.used) (same ∙ rw y);
        rows = left.left ∙ ap (λ (y : Rows). rows_from y (set rs i (revoked clock r))) sweeping.rows
            ∙ from-from t₀ rs (set rs i (revoked clock r)) (omega arith) ∙ ap (rows_from t₀) (sym same);
        held = held_more g' t' (b + 1000000000) (11000000000000 + (i + 1) * 1000000000)
            (left-held t g.used (b + 1000000000) l step g' t' left g b sweeping.held) (omega arith);
        used = omega (arith, length-records t g.used, sweeping.used);
      }

  pub turn-skip : not s ≡ true → Kept clock day xs names keys t₀ g₀ t g (i + 1)
  turn-skip e = record { most = omega (arith, more); nums-kept = kept.nums-kept; numbers-kept = kept.numbers-kept; dates-kept = kept.dates-kept; listed = listed; sweeping = skip e }

  -- what is cancelled is debited, where its account is known
  module _ (f : Option ℕ) (ef : f ≡ find_account r.number r.kind (holders_of names keys)) where
    module _ (at : ℕ) (ea : f ≡ Some at) where
      funds : Funds g 10000000000000000
      funds = (sweeping-held sweeping more).backed.funds

      pub turn-account : at < 256
      turn-account = due-place names keys g listed f (found_within names keys r.number r.kind f ef) at ea 10000000000000000 funds

      pub turn_near : mag (to_z w64 (of_z w64 (balance_at g at))) ≤ 10000000000000000
      turn_near = due-near names keys g listed f (found_within names keys r.number r.kind f ef) at ea 10000000000000000 funds (omega arith)

      near : mag (balance_at g at) ≤ 10000000000000000
      near = due-balance names keys g listed f (found_within names keys r.number r.kind f ef) at ea 10000000000000000 funds

    module _ (e : not s ≡ false) (t' : Rows) (et : t' ≡ rows_with t i (revoked clock r)) where
      cancelled : (g' : Gate) → Listed names keys g' → g' ≡ debited_at g f r.amount → Kept clock day xs names keys t₀ g₀ t' g' (i + 1)
      cancelled g' listed' eg =
          record {
            most = omega (arith, more);
            nums-kept = ap (λ (y : Rows). length y.nums) et ∙ length-set t.nums i _ ∙ kept.nums-kept;
            numbers-kept = ap (λ (y : Rows). length y.numbers) et ∙ length-set t.numbers i _ ∙ kept.numbers-kept;
            dates-kept = ap (λ (y : Rows). length y.dates) et ∙ length-set t.dates i _ ∙ kept.dates-kept;
            listed = listed';
            sweeping = on e g' t' (revoked-out g t _ sweeping.held clock r i place t' et f (ef ∙ listed-find names keys g listed r.number r.kind) g' eg);
          }

      pub turn-none : f ≡ None → Kept clock day xs names keys t₀ g₀ t' g (i + 1)
      turn-none none = cancelled g listed (debited-none g f r.amount none)

      pub turn-debited : (at : ℕ) → f ≡ Some at → (z : ℤ) → z ≡ to_z w64 (of_z w64 (balance_at g at)) -ℤ pos r.amount → mag z < 2 ^ 63
          → Kept clock day xs names keys t₀ g₀ t' (gate_balance g at z) (i + 1)
      turn-debited at ea z ez fits = cancelled _ (listed-moved names keys g listed at z) (debited-at g f r.amount at ea (near at ea) z fits ez)

      -- and as the balance is read back
      pub turn-debited-back : (at : ℕ) → f ≡ Some at → (z : ℤ) → z ≡ to_z w64 (of_z w64 (balance_at g at)) -ℤ pos r.amount → mag z < 2 ^ 63
          → Kept clock day xs names keys t₀ g₀ t' (gate_balance g at (to_z w64 (of_z w64 z))) (i + 1)
      turn-debited-back at ea z ez fits = rw (back z fits) (turn-debited at ea z ez fits)

-- ---- a sweep keeps the receipts, and so the chains
swept-receipt : (clock : List ℕ) (day : Day) (xs : List Line) (r : Record) → (swept_record clock day xs r).receipt ≡ r.receipt
unfolding swept_record revoked
swept-receipt clock day xs r = cond-elim (λ (q : Record). q.receipt ≡ r.receipt) (is_stray day xs r) (revoked clock r) r (λ _. refl) (λ _. refl)

module _ (clock : List ℕ) (day : Day) (xs : List Line) (g : Gate) (t : Rows) (g' : Gate) (t' : Rows) (is : swept clock day xs (ledger_of g t) ≡ ledger_of g' t') where
  now-records : map (swept_record clock day xs) (records_of t g.used) ≡ records_of t' g'.used
  unfolding swept
  now-records = ap (λ (l : Ledger). l.records) is

  as_many : g.used ≡ g'.used
  as_many =
      sym (length-records t g.used) ∙ sym (length-map (records_of t g.used) (swept_record clock day xs))
      ∙ ap length now-records ∙ length-records t' g'.used

  same_at : (j : ℕ) → j < g.used → receipt_at t.nums j ≡ receipt_at t'.nums j
  same_at j h =
      let f : Record → Record = swept_record clock day xs in
      let k : j < g'.used = omega (arith, as_many) in
      ap (λ (r : Record). r.receipt) (sym (get_d-records t g.used j no_record h))
      ∙ sym (swept-receipt clock day xs (get_or (records_of t g.used) j no_record))
      ∙ ap (λ (r : Record). r.receipt) (sym (get_or-map f (records_of t g.used) j no_record))
      ∙ ap (λ (rs : List Record). (get_or rs j (f no_record)).receipt) now-records
      ∙ ap (λ (r : Record). r.receipt) (get_d-records t' g'.used j (f no_record) k)

  pub swept-chained : (heads next : List ℕ) → Chained (receipt_at t.nums) 0 g.used heads next → Chained (receipt_at t'.nums) 0 g'.used heads next
  swept-chained heads next c = rw (← as_many) (chained_same (receipt_at t.nums) (receipt_at t'.nums) g.used same_at heads next c)
