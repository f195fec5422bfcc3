-- Laws of the walk over the lines that were read.
use Rattle.std.specs.Prelude.{Some, None}
use Prim.Native.Nat.{ℕ, ◌+◌, ◌-◌, ◌*◌, ◌^◌, ◌≤◌, ◌<◌}
use native.Mathlib.Omega.{arith}
use mathlib.Core.Path.{◌≡◌, refl, sym, ap, ◌∙◌}
use mathlib.Core.List.{List, ◌++◌, map}
use lib.IntN.{ℤ, pos, ◌+ℤ◌}
use lib.Signed.{mag}
use lib.ListN.{length, get_or, drop, length-map, drop_of_length-le}
use mir.Syntax.{w64}
use mir.Val.{to_z, of_z}
use lib.Seq.{drop-append-add, drop-drop}
use Rattle.lines.specs.declared.line.Line.{Line}
use Rattle.table.specs.declared.Gate.{Gate}
use Rattle.table.specs.declared.Record.{Record}
use Rattle.table.specs.Table.{Rows, records_of, rows_from, nums_of, dates_of}
use Rattle.table.specs.Accounts.{balance_at, gate_balance, with_used, Funds}
use Rattle.table.proofs.TableLaws.{length-records, rows-kept}
use Rattle.table.proofs.SignedLaws.{back}
use Rattle.posting.specs.declared.verdict.Verdict.{Verdict}
use Rattle.posting.specs.Posting.{Ledger, verdict_of, settle_line, ledger_of}
use Rattle.clearing.specs.Clearing.{settle_lines}
use Rattle.posting.specs.declared.applying.Due.{Due}
use Rattle.posting.specs.Steps.{Held, Left, paid, Applied}
use Rattle.planning.specs.Plan.{Within}
use Rattle.directory.specs.Directory.{Listed}
use Rattle.directory.proofs.FindLaws.{listed-used, listed-moved}
use Rattle.line_rows.specs.Lines.{no_line, Read}
use Rattle.posting.proofs.PostLaws.{line-applied}
use Rattle.posting.proofs.DueLaws.{due-balance, paid-none, paid-at}
use Rattle.posting.proofs.LookupLaws.{line-used, line-chained}
use Rattle.index.specs.Index.{Chained}
use Rattle.posting.specs.Lookup.{receipt_at}
use Rattle.posting.proofs.HeldLaws.{held_more, Step, line_step, left-size, left-records, left-held}
use Rattle.line_rows.proofs.ReadLaws.{next-line, read_small}

-- ---- rows from rows
pub from-from : (t : Rows) (rs qs : List Record) → length rs ≤ length qs → rows_from (rows_from t rs) qs ≡ rows_from t qs
unfolding rows_from
from-from t rs qs h = rw (one nums_of t.nums, one (λ (r : Record). r.number.bytes) t.numbers, one dates_of t.dates)
  where
    one : {A : Type 0} (f : Record → A) (l : List A) → drop (length qs) (map f rs ++ drop (length rs) l) ≡ drop (length qs) l
    one f l =
        let n : length qs ≡ length (map f rs) + (length qs - length rs) = omega (arith, length-map rs f) in
        let m : length rs + (length qs - length rs) ≡ length qs = omega arith in
        ap (λ (k : ℕ). drop k (map f rs ++ drop (length rs) l)) n ∙ drop-append-add (map f rs) (drop (length rs) l) (length qs - length rs)
        ∙ drop-drop (length qs - length rs) (length rs) l ∙ ap (λ (k : ℕ). drop k l) m

-- ---- a settlement that has passed i lines: those that are left give the whole
pub record Going (clock : List ℕ) (xs : List Line) (t₀ : Rows) (whole : Ledger) (t : Rows) (g : Gate) (i : ℕ) : Type 0 where
  pub rest : whole ≡ settle_lines clock (length t₀.nums) (drop i xs) (ledger_of g t)
  pub held : Held g t (10000000000000 + i * 1000000000)
  pub rows : t ≡ rows_from t₀ (records_of t g.used)
  pub size : length t.nums ≡ length t₀.nums

pub going_start : (clock : List ℕ) (xs : List Line) (t : Rows) (g : Gate) → Held g t 10000000000000
    → Going clock xs t (settle_lines clock (length t.nums) xs (ledger_of g t)) t g 0
going_start clock xs t g held =
    record {
      rest = refl;
      held = held_more g t 10000000000000 (10000000000000 + 0 * 1000000000) held (omega arith);
      rows = sym (rows-kept t g.used held.backed.whole);
      size = refl;
    }

module _ (clock : List ℕ) (xs : List Line) (read : Read xs) (t₀ : Rows) (whole : Ledger) (t : Rows) (g : Gate) (i : ℕ) (going : Going clock xs t₀ whole t g i) where
  pub going-last : i ≤ length xs → Held g t 11000000000000
  going-last h = held_more g t (10000000000000 + i * 1000000000) 11000000000000 going.held (omega (arith, read.few))

  going-held : i < length xs → Held g t 10000000000000000
  going-held h = held_more g t 11000000000000 10000000000000000 (going-last (omega arith)) (omega arith)

  pub ledger-end : length xs ≤ i → whole ≡ ledger_of g t
  unfolding settle_lines
  ledger-end h = going.rest ∙ rw (drop_of_length-le xs h)

  pub going_end : length xs ≤ i → Left t₀ whole g t
  going_end h = rw (ledger-end h) (record { gates = refl; left = going.rows })

  pub going_on : i < length xs → (x : Line) → x ≡ get_or xs i no_line → (g' : Gate) (t' : Rows) → Left t (settle_line clock (length t.nums) x (ledger_of g t)) g' t'
      → Going clock xs t₀ whole t' g' (i + 1)
  unfolding settle_lines
  going_on h x ex g' t' left =
      let bound : ℕ = 10000000000000 + i * 1000000000 in
      let l : Ledger = settle_line clock (length t.nums) x (ledger_of g t) in
      let step : Step t g.used (bound + 1000000000) l = line_step g t bound going.held clock x (read_small xs read i h x ex) in
      let same : records_of t' g'.used ≡ l.records = left-records t g.used (bound + 1000000000) l step g' t' left in
      let after : l ≡ ledger_of g' t' = ledger-is l g' (records_of t' g'.used) left.gates same in
      record {
        rest = going.rest ∙ rw (next-line xs i x ex h, ← going.size, ← after);
        held = held_more g' t' (bound + 1000000000) (10000000000000 + (i + 1) * 1000000000)
            (left-held t g.used (bound + 1000000000) l step g' t' left g bound going.held) (omega arith);
        rows = left.left ∙ rw same (again l step);
        size = left-size t g.used (bound + 1000000000) l step g' t' left ∙ going.size;
      }
    where
      ledger-is : (l : Ledger) (y : Gate) (rs : List Record) → y ≡ l.gate → rs ≡ l.records → l ≡ record { gate = y; records = rs }
      ledger-is l y rs a b = rw (a, b)

      again : {b : ℕ} (l : Ledger) → Step t g.used b l → rows_from t l.records ≡ rows_from t₀ l.records
      again l step =
          ap (λ (y : Rows). rows_from y l.records) going.rows
          ∙ from-from t₀ (records_of t g.used) l.records (omega (arith, step.longer, length-records t g.used))

-- ---- what the loop keeps at line i: beside the settlement, the sizes, the names and the chains
pub record Kept (clock : List ℕ) (xs : List Line) (names keys : List (List ℕ)) (t₀ : Rows) (whole : Ledger) (heads₀ next₀ : List ℕ) (t : Rows) (g : Gate) (heads next : List ℕ) (i : ℕ) : Type 0 where
  pub most : i ≤ length xs
  pub numbers-kept : length t.numbers ≡ length t₀.numbers
  pub dates-kept : length t.dates ≡ length t₀.dates
  pub listed : Listed names keys g
  pub going : Going clock xs t₀ whole t g i
  pub heads-kept : length heads ≡ length heads₀
  pub next-kept : length next ≡ length next₀
  pub chained : Chained (receipt_at t.nums) 0 g.used heads next

-- ---- a turn of the loop: the line at i is read, judged and applied. First what the turn is of, then what is known of it
pub record Turn : Type 0 where
  pub of : record { clock : List ℕ; xs : List Line; names : List (List ℕ); keys : List (List ℕ); t₀ : Rows; whole : Ledger; heads₀ : List ℕ; next₀ : List ℕ; t : Rows; g : Gate; heads : List ℕ; next : List ℕ; i : ℕ; x : Line; v : Verdict; d : Due; t' : Rows }
  pub read : Read of.xs
  pub room : 4096 ≡ length of.next₀
  pub kept : Kept of.clock of.xs of.names of.keys of.t₀ of.whole of.heads₀ of.next₀ of.t of.g of.heads of.next of.i
  pub more : of.i < length of.xs
  pub line : of.x ≡ get_or of.xs of.i no_line
  pub judged : of.v ≡ verdict_of of.g (records_of of.t of.g.used) (length of.t.nums) of.x
  pub applied : Applied of.names of.keys of.g.used of.t of.clock of.x of.v of.d of.t'
  pub within : Within of.d.account (length of.names)
  pub numbers-kept : length of.t'.numbers ≡ length of.t.numbers
  pub dates-kept : length of.t'.dates ≡ length of.t.dates

-- a turn from what is known of it
abbrev pub turn-of : {clock : List ℕ} {xs : List Line} {names keys : List (List ℕ)} {t₀ : Rows} {whole : Ledger} {heads₀ next₀ : List ℕ} {t : Rows} {g : Gate} {heads next : List ℕ} {i : ℕ}
    {x : Line} {v : Verdict} {d : Due} {t' : Rows} → Read xs → 4096 ≡ length next₀ → Kept clock xs names keys t₀ whole heads₀ next₀ t g heads next i → i < length xs → x ≡ get_or xs i no_line
    → v ≡ verdict_of g (records_of t g.used) (length t.nums) x → Applied names keys g.used t clock x v d t' → Within d.account (length names)
    → length t'.numbers ≡ length t.numbers → length t'.dates ≡ length t.dates → Turn
turn-of {clock = clock} {xs = xs} {names = names} {keys = keys} {t₀ = t₀} {whole = whole} {heads₀ = heads₀} {next₀ = next₀} {t = t} {g = g} {heads = heads} {next = next} {i = i} {x = x} {v = v} {d = d} {t' = t'} read room kept more line judged applied within nk dk =
    record {
      of = record { clock = clock; xs = xs; names = names; keys = keys; t₀ = t₀; whole = whole; heads₀ = heads₀; next₀ = next₀; t = t; g = g; heads = heads; next = next; i = i; x = x; v = v; d = d; t' = t' };
      read = read;
      room = room;
      kept = kept;
      more = more;
      line = line;
      judged = judged;
      applied = applied;
      within = within;
      numbers-kept = nk;
      dates-kept = dk;
    }

module _ (turn : Turn) where
  open turn use {of, read, room, kept, more, line, judged, applied, within}
  open of use {clock, xs, names, keys, t₀, whole, heads₀, next₀, t, g, heads, next, i, x, v, d, t'}
  open kept use {listed, going, chained}

  pub turn_small : x.amount < 1000000000
  turn_small = read_small xs read i more x line

  on : (g' : Gate) → g' ≡ paid g d x.amount → Going clock xs t₀ whole t' g' (i + 1)
  on g' eg =
      going_on clock xs read t₀ whole t g i going more x line g' t'
      (line-applied g t clock x (length t.nums) v judged g' t' (rw eg (applied.left g listed refl)))

  -- the account of what is due
  module _ (at : ℕ) (ea : d.account ≡ Some at) where
    funds : Funds g 10000000000000000
    funds = (going-held clock xs read t₀ whole t g i going more).backed.funds

    near : mag (balance_at g at) ≤ 10000000000000000
    near = due-balance names keys g listed d.account within at ea 10000000000000000 funds

  -- the chains can follow it
  pub turn-chained : Chained (receipt_at t'.nums) 0 g.used heads next × (g.used ≤ d.used) × (d.used ≤ g.used + 1)
  turn-chained =
      let left = applied.left g listed refl in
      let grown = line-used g t clock x _ going.held turn_small v judged (paid g d x.amount) t' left in
      (line-chained g t clock x _ going.held turn_small v judged (paid g d x.amount) t' left heads next chained, grown.0, grown.1)

  pub turn-room : (d.used ≤ length t'.nums) × (d.used ≤ length next) × (d.used ≤ 4096)
  turn-room =
      let backed = (on (paid g d x.amount) refl).held.backed in
      let most : d.used ≤ length t'.nums = backed.whole.nums in
      (most, omega (arith, backed.size, room, kept.next-kept), omega (arith, backed.size))

  -- and once they have, the next turn is at hand
  module _ (heads' next' : List ℕ) (he : length heads' ≡ length heads) (ne : length next' ≡ length next) (follow : Chained (receipt_at t'.nums) 0 d.used heads' next') where
    turned : (g' : Gate) → g'.used ≡ d.used → Listed names keys g' → g' ≡ paid g d x.amount → Kept clock xs names keys t₀ whole heads₀ next₀ t' g' heads' next' (i + 1)
    turned g' eu listed' eg =
        record {
          most = omega (arith, more);
          numbers-kept = turn.numbers-kept ∙ kept.numbers-kept;
          dates-kept = turn.dates-kept ∙ kept.dates-kept;
          listed = listed';
          going = on g' eg;
          heads-kept = he ∙ kept.heads-kept;
          next-kept = ne ∙ kept.next-kept;
          chained = rw eu follow;
        }

    pub turn-none : d.account ≡ None → Kept clock xs names keys t₀ whole heads₀ next₀ t' (with_used g d.used) heads' next' (i + 1)
    turn-none e = turned _ refl (listed-used names keys g listed d.used) (paid-none g d x.amount e)

    -- what is due credited
    pub turn-credited : (at : ℕ) → d.account ≡ Some at → (z : ℤ) → z ≡ to_z w64 (of_z w64 (balance_at g at)) +ℤ pos x.amount → mag z < 2 ^ 63
        → Kept clock xs names keys t₀ whole heads₀ next₀ t' (gate_balance (with_used g d.used) at z) heads' next' (i + 1)
    turn-credited at ea z ez fits =
        turned _ refl (listed-moved _ _ _ (listed-used names keys g listed d.used) _ _) (paid-at g d x.amount at ea (near at ea) z fits ez)

    -- and as the balance is read back
    pub turn-credited-back : (at : ℕ) → d.account ≡ Some at → (z : ℤ) → z ≡ to_z w64 (of_z w64 (balance_at g at)) +ℤ pos x.amount → mag z < 2 ^ 63
        → Kept clock xs names keys t₀ whole heads₀ next₀ t' (gate_balance (with_used g d.used) at (to_z w64 (of_z w64 z))) heads' next' (i + 1)
    turn-credited-back at ea z ez fits = rw (back z fits) (turn-credited at ea z ez fits)
