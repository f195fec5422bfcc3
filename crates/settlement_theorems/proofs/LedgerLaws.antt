-- What a registry keeps of a ledger: every record good at its place (row 68 but for the balance bound), and no receipt twice.
use Rattle.std.specs.Prelude.{Option, Some, None}
use Prim.Native.Nat.{ℕ, ◌+◌, ◌<◌}
use native.Mathlib.Decide.{ℕ_discrete}
use native.Mathlib.Omega.{arith}
use mathlib.Core.Path.{◌≡◌, refl, sym, ap, ◌∙◌}
use mathlib.Core.Bool.{Bool, true, false, cond}
use mathlib.Core.List.{List, [], ◌∷◌, ◌++◌, map}
use lib.ListN.{length, get_or, set, length-append, length-set, length-map, get_or-append}
use lib.Seq.{get_or_at, get_or-set_same, get_or-set_other}
use borrow.Author.Tests.{eq-eqb, eqb-true, eqb-false}
use Rattle.days.specs.declared.calendar.Day.{Day}
use Rattle.fields.specs.declared.number.Number.{Number}
use Rattle.texts.specs.Lists.{eq_list}
use Rattle.fields.specs.Amount.{is_amount}
use Rattle.fields.specs.Codes.{is_receipt}
use Rattle.dates.specs.Date.{is_written}
use Rattle.texts.proofs.Tests.{both, cond-elim, no-claim}
use Rattle.dates.proofs.KeyLaws.{Valid, valid-number}
use Rattle.lines.specs.declared.line.Line.{Line}
use Rattle.lines.specs.Line.{is_line}
use Rattle.registry.specs.Registry.{registry_lines}
use Rattle.registry.specs.Registry.{every_line}
use Rattle.registry.proofs.TextAgain.{LineOn, every-line}
use Rattle.lists.specs.Lists.{first_from, is_found}
use Rattle.lists.proofs.ListLaws.{search-within, found-fits, found_none, found_some}
use Rattle.lists.proofs.EachLaws.{Each}
use Rattle.table.specs.declared.Gate.{Gate}
use Rattle.table.specs.declared.Record.{Record}
use Rattle.table.specs.Table.{Rows, record_at, records_of, rows_from, has_receipt, find_record}
use Rattle.table.specs.Accounts.{accounts_of, find_account, with_used}
use Rattle.validity.specs.Valid.{state_good, account_known, record_good}
use Rattle.table.proofs.TableLaws.{length-records, get_d-records, from_at}
use Rattle.table.specs.Table.{no_record}
use Rattle.planning.specs.Plan.{is_full}
use Rattle.ledger.specs.Change.{make_record, revoked, credited_at}
use Rattle.gate_theorems.proofs.RecordsLaws.{Distinct}
use Rattle.gate_theorems.proofs.RowsLaws.{SameNames, names-used, names-credited, good-there, made-good, state-good, revoked-good}
use Rattle.posting.specs.declared.verdict.Verdict.{Verdict}
use Rattle.posting.specs.declared.verdict.Verdict.TheVariants.{Keeps, Restores, Posts, Unposted}
use Rattle.posting.specs.Posting.{matches, details_of, post_verdict, verdict_of, restored, posted_record, Ledger, applied, settle_line}
use Rattle.clearing.specs.Clearing.{settle_lines, is_stray, swept_record, swept}
use Rattle.settlement.specs.Settle.{settle}
use Rattle.closing.specs.Closing.{settle_day}
use Rattle.admission.specs.Delivery.{Delivery}
use Rattle.posting.proofs.HeldLaws.{post-room, post-new, verdict-post}
use Rattle.posting.proofs.MatchLaws.{match-receipt}
use Rattle.settlement_theorems.proofs.SettleLaws.{Onward, applied-onward, line-onward, swept-onward, map_at, restores-at, settled-by, before, after, after-used}
use Rattle.settlement_theorems.proofs.BalanceLaws.{names-credited-at}

-- ---- lines and records in their ranges
pub record LineOk (x : Line) : Type 0 where
  pub valid : Valid x.number x.kind
  pub date : is_written x.date ≡ true
  pub amount : is_amount x.amount ≡ true
  pub receipt : is_receipt x.receipt ≡ true

pub record RecordOk (g : Gate) (r : Record) : Type 0 where
  pub valid : Valid r.number r.kind
  pub date : is_written r.date ≡ true
  pub known : is_found (find_account r.number r.kind (accounts_of g)) ≡ true

pub lines_ok : (day : Day) (xs : List Line) → every_line day xs ≡ true → Each LineOk xs
lines_ok day [] h = tt
lines_ok day (x ∷ xs) h = let p = every-line day x xs h in (one p.0, lines_ok day xs p.1)
  where
    one : LineOn day x → LineOk x
    one o = unfold is_line in
        let n = both _ _ o.good in
        let k = both _ _ n.1 in
        let d = both _ _ k.1 in
        let a = both _ _ d.1 in
        record { valid = valid-number _ _ n.0 k.0; date = d.0; amount = a.0; receipt = a.1 }

-- a record is so at a gate with the same names
pub record-there : (g g' : Gate) → SameNames g g' → (r : Record) → RecordOk g r → RecordOk g' r
record-there g g' s r o = record { valid = o.valid; date = o.date; known = ap is_found (s.finds r.number r.kind) ∙ o.known }

pub records-there : (g g' : Gate) → SameNames g g' → (rs : List Record) → Each (RecordOk g) rs → Each (RecordOk g') rs
records-there g g' s [] h = tt
records-there g g' s (r ∷ rs) h = (record-there g g' s r h.0, records-there g g' s rs h.1)

-- ---- records that are restored or posted are good
restored-good : (g : Gate) (i : ℕ) (r : Record) → record_good g i r ≡ true → record_good g i (restored r) ≡ true
unfolding restored state_good eq_list
restored-good g i r h = state-good g i r (restored r) refl refl refl refl refl refl refl refl h

posted-good : (g : Gate) (clock : List ℕ) → is_written clock ≡ true → (x : Line) → LineOk x → (a : ℕ) → find_account x.number x.kind (accounts_of g) ≡ Some a → record_good g g.used (posted_record g clock x) ≡ true
unfolding posted_record
posted-good g clock dated x lx a at = made-good g clock (details_of x) a lx.receipt lx.amount lx.date dated at

-- ---- a ledger whose records are good
abbrev pub LedgerGood : Ledger → Type 0
LedgerGood l = (i : ℕ) → i < length l.records → record_good l.gate i (get_or l.records i no_record) ≡ true

good-set : (g g' : Gate) (rs : List Record) (k : ℕ) (x : Record) → SameNames g g' → k < length rs → record_good g k x ≡ true → LedgerGood (record { gate = g; records = rs }) → LedgerGood (record { gate = g'; records = set rs k x })
good-set g g' rs k x s l h f i b = good-there g g' s i _ (pick (ℕ_discrete i k))
  where
    pick : Dec (i ≡ k) → record_good g i (get_or (set rs k x) i no_record) ≡ true
    pick (yes e) = rw e (ap (record_good g k) (get_or-set_same rs k x no_record l) ∙ h)
    pick (no n) = ap (record_good g i) (get_or-set_other rs k i x no_record n) ∙ f i (omega (arith, b, length-set rs k x))

good_more : (g g' : Gate) (rs : List Record) (x : Record) → SameNames g g' → record_good g (length rs) x ≡ true → LedgerGood (record { gate = g; records = rs }) → LedgerGood (record { gate = g'; records = rs ++ (x ∷ []) })
good_more g g' rs x s h f i b = good-there g g' s i _ (pick (ℕ_discrete i (length rs)))
  where
    pick : Dec (i ≡ length rs) → record_good g i (get_or (rs ++ (x ∷ [])) i no_record) ≡ true
    pick (yes e) = rw e (ap (record_good g (length rs)) (get_or_at rs x [] no_record (length rs) refl) ∙ h)
    pick (no n) = let c : i < length rs = omega (arith, b, length-append rs (x ∷ [])) in ap (record_good g i) (get_or-append rs (x ∷ []) no_record i c) ∙ f i c

module _ (clock : List ℕ) (dated : is_written clock ≡ true) (cap : ℕ) where
  line-good : (x : Line) → LineOk x → (l : Ledger) → length l.records ≡ l.gate.used → LedgerGood l → LedgerGood (settle_line clock cap x l)
  unfolding settle_line applied
  line-good x lx l used good = go (verdict_of l.gate l.records cap x) refl
    where
      go : (v : Verdict) → verdict_of l.gate l.records cap x ≡ v → LedgerGood (applied clock x v l)
      go Keeps e = good
      go Unposted e = good
      go (Restores k) e =
          let g = l.gate in
          let f = find_account x.number x.kind (accounts_of g) in
          let h : k < length l.records = omega (arith, search-within (matches x) 0 l.records k (restores-at x l.records k g cap e)) in
          let r = get_or l.records k no_record in
          good-set g (credited_at g f x.amount) l.records k (restored r) (names-credited-at g f x.amount) h (restored-good g k r (good k h)) good
      go (Posts a) e =
          let g = l.gate in
          let f = find_account x.number x.kind (accounts_of g) in
          let post : post_verdict (find_record x.receipt l.records) f (is_full g cap) ≡ Posts a = unfold verdict_of in verdict-post l.records (first_from (matches x) 0 l.records) _ a e in
          let at : f ≡ Some a = (post-room (find_record x.receipt l.records) f (is_full g cap) a post).1 in
          good_more g (with_used (credited_at g (Some a) x.amount) (g.used + 1)) l.records (posted_record g clock x)
          (names-used g (credited_at g (Some a) x.amount) (g.used + 1) (names-credited g a x.amount))
          (ap (λ (n : ℕ). record_good g n (posted_record g clock x)) used ∙ posted-good g clock dated x lx a at) good

  -- the lines of a registry keep every record good
  pub lines-good : (xs : List Line) → Each LineOk xs → (l : Ledger) → length l.records ≡ l.gate.used → LedgerGood l → LedgerGood (settle_lines clock cap xs l)
  unfolding settle_lines
  lines-good [] h l used good = good
  lines-good (x ∷ xs) h l used good = lines-good xs h.1 (settle_line clock cap x l) ((line-onward clock cap x l).step used) (line-good x h.0 l used good)

-- and so does the sweep, at a gate whose accounts are found alike
pub sweep-good : (clock : List ℕ) → is_written clock ≡ true → (day : Day) (xs : List Line) (l : Ledger) (g' : Gate) → ((n : Number) (k : ℕ) → find_account n k (accounts_of g') ≡ find_account n k (accounts_of l.gate)) → LedgerGood l
    → LedgerGood (record { gate = g'; records = map (swept_record clock day xs) l.records })
unfolding swept_record
sweep-good clock dated day xs l g' finds good i b =
    let c : i < length l.records = omega (arith, b, length-map l.records (swept_record clock day xs)) in
    let r = get_or l.records i no_record in
    ap (record_good g' i) (map_at (swept_record clock day xs) l.records i no_record c)
    ∙ there (cond (is_stray day xs r) (revoked clock r) r)
    (cond-elim (λ (s : Record). record_good l.gate i s ≡ true) (is_stray day xs r) _ _ (λ _. revoked-good l.gate clock i r dated (good i c)) (λ _. good i c))
  where
    there : (r : Record) → record_good l.gate i r ≡ true → record_good g' i r ≡ true
    there r h = unfold record_good account_known in rw (finds r.number r.kind) h

-- ---- no receipt twice
abbrev pub Once : List Record → Type 0
Once rs = (i j : ℕ) → i < j → j < length rs → (get_or rs i no_record).receipt ≡ (get_or rs j no_record).receipt → ⊥

once-same : (rs : List Record) → Once rs → (i j : ℕ) → i < length rs → j < length rs → (get_or rs i no_record).receipt ≡ (get_or rs j no_record).receipt → i ≡ j
once-same rs once i j h k e = pick (ℕ_discrete i j)
  where
    pick : Dec (i ≡ j) → i ≡ j
    pick (yes s) = s
    pick (no n) =
        let a : i < j → ⊥ = λ l. once i j l k e in
        let b : j < i → ⊥ = λ l. once j i l h (sym e) in
        omega arith

-- a line matches the record of its receipt or none
abbrev pub narrowed : Line → List Record → Option ℕ → Option ℕ
narrowed x rs None = None
narrowed x rs (Some i) = cond (matches x (get_or rs i no_record)) (Some i) None

module _ (x : Line) (rs : List Record) where
  by-receipt : (k : ℕ) → first_from (matches x) 0 rs ≡ Some k → has_receipt x.receipt (get_or rs k no_record) ≡ true
  by-receipt k e = eq-eqb _ _ (match-receipt x (get_or rs k no_record) (found-fits (matches x) rs no_record e))

  within : (p : Record → Bool) (k : ℕ) → first_from p 0 rs ≡ Some k → k < length rs
  within p k e = omega (arith, search-within p 0 rs k e)

  pub first-match : Once rs → (f : Option ℕ) → find_record x.receipt rs ≡ f → first_from (matches x) 0 rs ≡ narrowed x rs f
  unfolding find_record
  first-match once f e = go f e (first_from (matches x) 0 rs) refl
    where
      go : (f : Option ℕ) → first_from (has_receipt x.receipt) 0 rs ≡ f → (m : Option ℕ) → first_from (matches x) 0 rs ≡ m → m ≡ narrowed x rs f
      go None e None q = refl
      go None e (Some k) q = no-claim (sym (found_none (has_receipt x.receipt) rs no_record e k (within (matches x) k q)) ∙ by-receipt k q)
      go (Some i) e m q = pick m q (matches x (get_or rs i no_record)) refl
        where
          same : (k : ℕ) → first_from (matches x) 0 rs ≡ Some k → k ≡ i
          same k q =
              once-same rs once k i (within (matches x) k q) (within (has_receipt x.receipt) i e)
              (eqb-true _ _ (by-receipt k q) ∙ sym (eqb-true _ _ (found-fits (has_receipt x.receipt) rs no_record e)))

          pick : (m : Option ℕ) → first_from (matches x) 0 rs ≡ m → (b : Bool) → matches x (get_or rs i no_record) ≡ b → m ≡ cond b (Some i) None
          pick (Some k) q true h = ap Some (same k q)
          pick (Some k) q false h = no-claim (sym h ∙ ap (λ (n : ℕ). matches x (get_or rs n no_record)) (sym (same k q)) ∙ found-fits (matches x) rs no_record q)
          pick None q true h = no-claim (ap is_found (sym q) ∙ found_some (matches x) rs no_record i (within (has_receipt x.receipt) i e) h)
          pick None q false h = refl

-- as many records with the same receipts
once-onward : (l l' : Ledger) → Onward l l' → length l'.records ≡ length l.records → Once l.records → Once l'.records
once-onward l l' o n once i j h k e =
    let b : j < length l.records = omega (arith, n) in
    once i j h b (sym (o.keys i (omega arith)).receipt ∙ e ∙ (o.keys j b).receipt)

once_more : (rs : List Record) (r : Record) → find_record r.receipt rs ≡ None → Once rs → Once (rs ++ (r ∷ []))
unfolding find_record
once_more rs r new once i j h k e = pick (ℕ_discrete j (length rs))
  where
    size : length (rs ++ (r ∷ [])) ≡ length rs + 1
    size = length-append rs (r ∷ [])

    old : (n : ℕ) → n < length rs → (get_or (rs ++ (r ∷ [])) n no_record).receipt ≡ (get_or rs n no_record).receipt
    old n b = ap (λ (y : Record). y.receipt) (get_or-append rs (r ∷ []) no_record n b)

    pick : Dec (j ≡ length rs) → ⊥
    pick (yes s) =
        let b : i < length rs = omega arith in
        let last : (get_or (rs ++ (r ∷ [])) j no_record).receipt ≡ r.receipt = ap (λ (y : Record). y.receipt) (get_or_at rs r [] no_record j (sym s)) in
        eqb-false _ _ (found_none (has_receipt r.receipt) rs no_record new i b) (sym (old i b) ∙ e ∙ last)
    pick (no n) =
        let b : j < length rs = omega (arith, size) in
        once i j h b (sym (old i (omega arith)) ∙ e ∙ old j b)

module _ (clock : List ℕ) (cap : ℕ) where
  line-once : (x : Line) (l : Ledger) → Once l.records → Once (settle_line clock cap x l).records
  unfolding settle_line
  line-once x l once = go (verdict_of l.gate l.records cap x) refl
    where
      go : (v : Verdict) → verdict_of l.gate l.records cap x ≡ v → Once (applied clock x v l).records
      go Keeps e = unfold applied in once
      go Unposted e = unfold applied in once
      go (Restores k) e = once-onward l (applied clock x (Restores k) l) (applied-onward clock x (Restores k) l) (unfold applied in length-set l.records k (restored (get_or l.records k no_record))) once
      go (Posts a) e =
          let f = find_account x.number x.kind (accounts_of l.gate) in
          let post : post_verdict (find_record x.receipt l.records) f (is_full l.gate cap) ≡ Posts a = unfold verdict_of in verdict-post l.records (first_from (matches x) 0 l.records) _ a e in
          let new = post-new (find_record x.receipt l.records) f (is_full l.gate cap) a post in
          unfold applied in once_more l.records (posted_record l.gate clock x) (unfold posted_record make_record in new) once

  lines-once : (xs : List Line) (l : Ledger) → Once l.records → Once (settle_lines clock cap xs l).records
  unfolding settle_lines
  lines-once [] l once = once
  lines-once (x ∷ xs) l once = lines-once xs (settle_line clock cap x l) (line-once x l once)

-- where no receipt is recorded twice, none is after a settlement
module _ (g : Gate) (t : Rows) (clock : List ℕ) (day : Day) (text out : List ℕ) (once : Distinct g t) where
  start-once : Once (records_of t g.used)
  start-once i j l h e =
      let b : j < g.used = omega (arith, length-records t g.used) in
      once.apart i j l b (sym (at i (omega arith)) ∙ e ∙ at j b)
    where
      at : (n : ℕ) → n < g.used → (get_or (records_of t g.used) n no_record).receipt ≡ (record_at t n).receipt
      at n h = ap (λ (r : Record). r.receipt) (get_d-records t g.used n no_record h)

  today-once : Distinct (settle_day g t clock day (registry_lines text) out).gate (settle_day g t clock day (registry_lines text) out).rows
  unfolding settle_day
  today-once = record { apart = λ i j l h e. let b : j < length rs = omega (arith, h, after-used g t clock day text out) in last i j l b (sym (at i (omega arith)) ∙ e ∙ at j b) }
    where
      xs : List Line
      xs = registry_lines text

      mid : Ledger
      mid = settle_lines clock (length t.nums) xs (before g t clock day text out)

      rs : List Record
      rs = (after g t clock day text out).records

      last : Once rs
      last = once-onward mid (swept clock day xs mid) (swept-onward clock day xs mid) (unfold swept in length-map mid.records (swept_record clock day xs)) (lines-once clock (length t.nums) xs (before g t clock day text out) start-once)

      at : (n : ℕ) → n < length rs → (record_at (rows_from t rs) n).receipt ≡ (get_or rs n no_record).receipt
      at n h = ap (λ (r : Record). r.receipt) (from_at t rs n no_record h)

  pub settle-once : Distinct (settle g t clock day text out).gate (settle g t clock day text out).rows
  settle-once = settled-by g t clock day text out (λ (d : Delivery). Distinct d.gate d.rows) (λ _ _. once) (λ _ _. once) (λ _ _. today-once)
