-- Laws of the verdict on one line, and of what it does to the table.
use Rattle.std.specs.Prelude.{Option, Some, None}
use Prim.Native.Nat.{ℕ, ◌+◌, ◌<◌}
use native.Mathlib.Omega.{arith}
use mathlib.Core.Path.{◌≡◌, refl, sym, ap, ◌∙◌}
use mathlib.Core.Bool.{false, cond}
use mathlib.Core.List.{List, [], ◌∷◌, ◌++◌}
use lib.ListN.{length, get_or}
use lib.Dec.{leb}
use borrow.Author.Tests.{leb-false}
use Rattle.fields.specs.declared.number.Number.{Number}
use Rattle.lines.specs.declared.line.Line.{Line}
use Rattle.table.specs.declared.Gate.{Gate}
use Rattle.table.specs.declared.Record.{Record}
use Rattle.lists.specs.Lists.{first_from}
use Rattle.table.specs.Table.{Rows, record_at, records_of, rows_from, rows_with, find_record, no_record, Whole, SameLengths}
use Rattle.table.specs.Accounts.{accounts_of, find_account, credited, with_used}
use Rattle.table.proofs.TableLaws.{get_d-records, rows-set, rows_more, rows-kept}
use Rattle.table.proofs.AccountLaws.{holder-within}
use Rattle.planning.specs.Plan.{Within, is_full}
use Rattle.directory.specs.Directory.{holders_of, Listed}
use Rattle.directory.proofs.FindLaws.{listed-find, holder_in}
use Rattle.ledger.specs.Change.{credited_at}
use Rattle.table.specs.Daily.{is_done}
use Rattle.posting.specs.Posting.{matches, post_verdict, verdict_of, restored, posted_record, Ledger, Verdict, Keeps, Restores, Posts, Unposted, applied, settle_line, ledger_of}
use Rattle.posting.specs.declared.applying.Due.{Due}
use Rattle.posting.specs.Lookup.{SameReceipt, fits}
use Rattle.posting.specs.Steps.{Left, Placed, paid, Applied}
use Rattle.posting.proofs.HeldLaws.{post-room, verdict-post, verdict-restore}
use Rattle.posting.proofs.MatchLaws.{match-within}

-- ---- what the rows allow
module _ (t : Rows) (n : ℕ) (whole : Whole t n) (i : ℕ) (h : i < n) where
  pub at-nums : i < length t.nums
  at-nums = omega (arith, whole.nums)

  pub at-numbers : i < length t.numbers
  at-numbers = omega (arith, whole.numbers)

  pub at-dates : i < length t.dates
  at-dates = omega (arith, whole.dates)

module _ (t : Rows) (n : ℕ) (same : SameLengths t) (room : n < length t.nums) where
  pub room-numbers : n < length t.numbers
  room-numbers = omega (arith, same.numbers)

  pub room-dates : n < length t.dates
  room-dates = omega (arith, same.dates)

-- ---- the verdict
module _ (t : Rows) (n : ℕ) (x : Line) (f : Option ℕ) (ef : f ≡ first_from (matches x) 0 (records_of t n)) where
  module _ (whole : Whole t n) (i : ℕ) (e : f ≡ Some i) where
    pub match-nums : i < length t.nums
    match-nums = at-nums t n whole i (match-within t n x i f ef e)

    pub match-numbers : i < length t.numbers
    match-numbers = at-numbers t n whole i (match-within t n x i f ef e)

    pub match-dates : i < length t.dates
    match-dates = at-dates t n whole i (match-within t n x i f ef e)

  module _ (lent : ℕ) (g : Gate) (eu : g.used ≡ n) where
    pub judged-match : (i : ℕ) → f ≡ Some i → (r : Record) → r ≡ record_at t i → (v : Verdict) → v ≡ cond (is_done r) Keeps (Restores i)
        → v ≡ verdict_of g (records_of t g.used) lent x
    unfolding verdict_of
    judged-match i e r er v ev =
        let there : get_or (records_of t n) i no_record ≡ r = get_d-records t n i no_record (match-within t n x i f ef e) ∙ sym er in
        ev ∙ rw (eu, ← ef, e, there)

    pub judged-new : (names keys : List (List ℕ)) → Listed names keys g → f ≡ None → (q : Option ℕ) → q ≡ first_from (fits SameReceipt x) 0 (records_of t n)
        → (k : Option ℕ) → k ≡ find_account x.number x.kind (holders_of names keys) → (v : Verdict) → v ≡ post_verdict q k (leb lent n)
        → v ≡ verdict_of g (records_of t g.used) lent x
    unfolding verdict_of is_full find_record
    judged-new names keys listed e q eq k ek v ev = ev ∙ rw (eu, ← ef, e, ← eq, ← listed-find names keys g listed x.number x.kind, ← ek)

-- ---- what a verdict says of its place
module _ (g : Gate) (t : Rows) (x : Line) (v : Verdict) (ev : v ≡ verdict_of g (records_of t g.used) (length t.nums) x) where
  restores-within : (i : ℕ) → v ≡ Restores i → i < g.used
  unfolding verdict_of
  restores-within i e =
      let rs : List Record = records_of t g.used in
      match-within t g.used x i (first_from (matches x) 0 rs) refl
      (verdict-restore rs (first_from (matches x) 0 rs) (find_record x.receipt rs) (find_account x.number x.kind (accounts_of g)) (is_full g (length t.nums)) i (sym ev ∙ e))

  module _ (a : ℕ) (e : v ≡ Posts a) where
    posts : (is_full g (length t.nums) ≡ false) × (find_account x.number x.kind (accounts_of g) ≡ Some a)
    unfolding verdict_of
    posts =
        let rs : List Record = records_of t g.used in
        post-room (find_record x.receipt rs) (find_account x.number x.kind (accounts_of g)) (is_full g (length t.nums)) a
        (verdict-post rs (first_from (matches x) 0 rs) _ a (sym ev ∙ e))

    posts-within : a < g.count
    posts-within = holder-within g x.number x.kind a (find_account x.number x.kind (accounts_of g)) refl posts.1

    posts-room : g.used < length t.nums
    unfolding is_full
    posts-room = leb-false (length t.nums) g.used posts.0

  pub verdict-placed : (names keys : List (List ℕ)) → Listed names keys g → Placed v g.used (length t.nums) (length names)
  verdict-placed names keys listed = record { restores = restores-within; room = posts-room; posts = λ a e. omega (arith, posts-within a e, listed.named) }

-- ---- its application
-- the account that is due
pub found_within : (names keys : List (List ℕ)) (n : Number) (kind : ℕ) (f : Option ℕ) → f ≡ find_account n kind (holders_of names keys) → Within f (length names)
found_within names keys n kind f e = record { at = λ a h. holder_in names keys n kind a f e h }

credit-same : (g : Gate) (k : Option ℕ) (n : ℕ) → with_used (credited_at g k n) g.used ≡ credited_at g k n
unfolding credited
credit-same g None n = refl
credit-same g (Some a) n = refl

module _ (names keys : List (List ℕ)) (used : ℕ) (t : Rows) (whole : Whole t used) (clock : List ℕ) (x : Line) (v : Verdict) (t' : Rows) (d : Due) where
  module _ (et : t' ≡ t) (ea : d.account ≡ None) (eu : d.used ≡ used) where
    stays : (g : Gate) → g.used ≡ used → (l : Ledger) → l ≡ ledger_of g t → Left t l (paid g d x.amount) t'
    stays g e l el = rw (el, ea, eu, e) (record { gates = rw (← e); left = et ∙ sym (rows-kept t used whole) })

    pub applied-keeps : v ≡ Keeps → Applied names keys used t clock x v d t'
    unfolding applied
    applied-keeps ev = record { left = λ g _ e. stays g e _ (rw ev) }

    pub applied-none : v ≡ Unposted → Applied names keys used t clock x v d t'
    unfolding applied
    applied-none ev = record { left = λ g _ e. stays g e _ (rw ev) }

  pub applied-restores : (i : ℕ) → v ≡ Restores i → i < used → t' ≡ rows_with t i (restored (record_at t i))
      → (k : Option ℕ) → k ≡ find_account x.number x.kind (holders_of names keys) → d.account ≡ k → d.used ≡ used → Applied names keys used t clock x v d t'
  unfolding applied
  applied-restores i ev h et k ek ea eu = record { left = one }
    where
      one : (g : Gate) → Listed names keys g → g.used ≡ used → Left t (applied clock x v (ledger_of g t)) (paid g d x.amount) t'
      one g listed e =
          let there : get_or (records_of t used) i no_record ≡ record_at t i = get_d-records t used i no_record h in
          let found : find_account x.number x.kind (accounts_of g) ≡ k = sym (ek ∙ listed-find names keys g listed x.number x.kind) in
          rw (ev, e, there, found, ea, eu)
          (record { gates = rw (← e) (credit-same g k x.amount); left = et ∙ sym (rows-set t used whole i (restored (record_at t i)) h) })

  pub applied-posts : (a : ℕ) → v ≡ Posts a → used < length t.nums → SameLengths t
      → ((g : Gate) → g.used ≡ used → t' ≡ rows_with t used (posted_record g clock x)) → d.account ≡ Some a → d.used ≡ used + 1
      → Applied names keys used t clock x v d t'
  unfolding applied
  applied-posts a ev room same et ea eu = record { left = one }
    where
      one : (g : Gate) → Listed names keys g → g.used ≡ used → Left t (applied clock x v (ledger_of g t)) (paid g d x.amount) t'
      one g listed e =
          rw (ev, ea, eu)
          (record {
            gates = ap (λ (m : ℕ). with_used (credited g a x.amount) (m + 1)) (sym e);
            left = et g e ∙ sym (rows_more t used whole (posted_record g clock x) room (room-numbers t used same room) (room-dates t used same room)) ∙ ap (λ (m : ℕ). rows_from t (records_of t m ++ (posted_record g clock x ∷ []))) (sym e);
          })

-- ---- one line: judged, then applied
pub line-applied : (g : Gate) (t : Rows) (clock : List ℕ) (x : Line) (lent : ℕ) (v : Verdict) → v ≡ verdict_of g (records_of t g.used) lent x
    → (g' : Gate) (t' : Rows) → Left t (applied clock x v (ledger_of g t)) g' t' → Left t (settle_line clock lent x (ledger_of g t)) g' t'
unfolding settle_line
line-applied g t clock x lent v e g' t' done = rw (← e) done
