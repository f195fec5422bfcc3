-- Demand 3, safety, whatever is lent. Where the table or the book that is lent is not good, every call of its side gives 68 and keeps the world as it is.
-- If both are refused, nothing ever happens. If one is, the run is told of a world with a good one in its place: of the steps only the other side's are kept.
use Prim.Native.Nat.{ℕ, ◌<◌}
use native.Mathlib.Omega.{arith}
use mathlib.Core.Path.{◌≡◌, refl, sym, ap, ◌∙◌, subst}
use mathlib.Core.Logic.{◌⊎◌, inl, inr}
use mathlib.Core.Bool.{Bool, true, false, cond}
use mathlib.Core.List.{List, [], ◌∷◌}
use mathlib.Core.Option.{Option, none, some}
use lib.Dec.{eqb}
use lib.ListN.{take, get_elem?}
use Rattle.days.specs.declared.calendar.Day.{Day}
use Rattle.fields.specs.declared.number.Number.{Number}
use Rattle.days.specs.Calendar.{is_day}
use Rattle.texts.proofs.Tests.{and_left}
use Rattle.payments.specs.declared.Action.{Action}
use Rattle.payments.specs.declared.Action.TheVariants.{Check, Payment, Status, Cancel}
use Rattle.lists.specs.Lists.{tab}
use Rattle.lists.specs.Lent.{lent_well}
use Rattle.table.specs.declared.Gate.{Gate}
use Rattle.table.specs.declared.Record.{Record}
use Rattle.table.specs.Table.{Rows, records_of}
use Rattle.table.specs.Daily.{records_on}
use Rattle.validity.specs.Valid.{lent_good, table_good}
use Rattle.ledger.specs.declared.Reply.{Reply}
use Rattle.admission.specs.Delivery.{Delivery, undelivered}
use Rattle.opening.specs.Opening.{replies, open_account, draw_funds}
use Rattle.validity.proofs.GoodLaws.{good-table}
use Rattle.gate_theorems.proofs.KeepsLaws.{refused-table}
use Rattle.settlement.specs.Settle.{settle}
use Rattle.book.specs.declared.Book.{Book}
use Rattle.book.specs.declared.Entry.{Entry}
use Rattle.book.specs.declared.State.{State}
use Rattle.book.specs.declared.State.TheVariants.{Asked, Credited, CancelAsked, Cancelled, Unposted}
use Rattle.book.specs.Entries.{BookRows, entries_of}
use Rattle.book_validity.specs.BookValid.{book_good}
use Rattle.book_validity.proofs.BookLaws.{good-lent, good_book}
use Rattle.daybook.specs.declared.freezing.Freezing.{Freezing}
use Rattle.acceptance.specs.Acceptance.{Acceptance, accept_fault, accept}
use Rattle.daybook.specs.Freezing.{froze, freeze}
use Rattle.listing.specs.Listing.{Listing, unlisted, write_registry}
use Rattle.writing.specs.Writing.{Writing, unwritten, write_request, write_check}
use Rattle.channel.specs.World.{World, Sent, sent_request, sent_answer, sent_registry, sent_report, Step, opens, draws, accepts, writes_check, writes_payment, writes_status, writes_cancel, freezes, writes_registry, delivers, sent_if, at_gate, at_agent, is_answered, request_arrives, registry_arrives, answer_arrives, report_arrives, delivered, opening, drawing, accepting, checking, writing, freezing, listing, step, run}
use Rattle.channel.specs.Claim.{Start, Lent, records_in, entry_in, entries_in, state_in, done_on, credited_on, by_number, total, Says, DeliversReport, ReportDelivered, SettledDay, Safe}
use Rattle.channel.proofs.words.Safety.{safe}

-- a place among none
no-place : {A : Type 0} {n : ℕ} (i : ℕ) → n ≡ 0 → i < n → A
no-place i e l = absurd (omega (arith, e))

-- ---- a side that is refused keeps the world
-- the gate's: a table that is not good
module _ (u : World) (bad : table_good u.gate u.table ≡ false) where
  open_stays : (n : Number) (k : ℕ) → (opening u n k).world ≡ u
  unfolding opening open_account
  open_stays n k =
      let e : open_account u.gate u.table n k ≡ replies 68 u.gate = rw bad in
      ap (λ (d : Reply). at_gate u d.gate u.table u.sent) e

  draw-stays : (n : Number) (k kopecks : ℕ) → (drawing u n k kopecks).world ≡ u
  unfolding drawing draw_funds
  draw-stays n k kopecks =
      let e : draw_funds u.gate u.table n k kopecks ≡ replies 68 u.gate = rw bad in
      ap (λ (d : Reply). record { gate = d.gate; table = u.table; book = u.book; book_rows = u.book_rows; sent = u.sent; drawn = cond (eqb d.code 0) (record { number = n; kind = k; kopecks = kopecks } ∷ u.drawn) u.drawn }) e

  request-stays : (a : Action) (receipt : ℕ) (text clock out : List ℕ) → (request_arrives u a receipt text clock out).world ≡ u
  unfolding request_arrives
  request-stays a receipt text clock out =
      ap (λ (d : Delivery). at_gate u d.gate d.rows (sent_if (is_answered d.code) (sent_answer a receipt (take d.size d.out)) u.sent))
      (refused-table u.gate u.table clock text out bad)

  registry-stays : (day : Day) (text clock out : List ℕ) → (registry_arrives u day text clock out).world ≡ u
  unfolding registry_arrives settle
  registry-stays day text clock out =
      let e : settle u.gate u.table clock day text out ≡ undelivered 68 u.gate u.table out = rw bad in
      ap (λ (d : Delivery). at_gate u d.gate d.rows (sent_if (eqb d.code 0) (sent_report day (take d.size d.out)) u.sent)) e

-- the agent's: a book that is not good
module _ (u : World) (bad : book_good u.book u.book_rows ≡ false) where
  accept-stays : (n : Number) (k kopecks : ℕ) (date : List ℕ) → (accepting u n k kopecks date).world ≡ u
  unfolding accepting accept accept_fault
  accept-stays n k kopecks date =
      let e : accept u.book u.book_rows n k kopecks date ≡ record { code = 68; book = u.book; rows = u.book_rows; receipt = 0 } = rw bad in
      ap (λ (d : Acceptance). at_agent u d.book d.rows u.sent) e

  check-stays : (n : Number) (k kopecks : ℕ) (out : List ℕ) → (checking u n k kopecks out).world ≡ u
  unfolding checking write_check
  check-stays n k kopecks out =
      let e : write_check u.book u.book_rows n k kopecks out ≡ unwritten 68 u.book_rows out = rw bad in
      ap (λ (d : Writing). at_agent u u.book d.rows (sent_if (eqb d.code 0) (sent_request Check 0 (take d.size d.out)) u.sent)) e

  write-stays : (a : Action) (receipt reason : ℕ) (out : List ℕ) → (writing u a receipt reason out).world ≡ u
  unfolding writing write_request
  write-stays a receipt reason out =
      let e : write_request u.book u.book_rows a receipt reason out ≡ unwritten 68 u.book_rows out = rw bad in
      ap (λ (d : Writing). at_agent u u.book d.rows (sent_if (eqb d.code 0) (sent_request a receipt (take d.size d.out)) u.sent)) e

  freeze-stays : (day : Day) → (freezing u day).world ≡ u
  unfolding freezing freeze
  freeze-stays day =
      let e : freeze u.book u.book_rows day ≡ froze 68 u.book = rw bad in
      ap (λ (d : Freezing). at_agent u d.book u.book_rows u.sent) e

  list-stays : (day : Day) (out : List ℕ) → (listing u day out).world ≡ u
  unfolding listing write_registry
  list-stays day out =
      let e : write_registry u.book u.book_rows day out ≡ unlisted 68 out = rw bad in
      ap (λ (d : Listing). at_agent u u.book u.book_rows (sent_if (eqb d.code 0) (sent_registry day (take d.size d.out)) u.sent)) e

-- where nothing was sent there is nothing to deliver
none_stays : (u : World) → u.sent ≡ [] → (i : ℕ) (clock out : List ℕ) → (delivered u (get_elem? u.sent i) clock out).world ≡ u
none_stays u e i clock out = ap (λ (l : List Sent). (delivered u (get_elem? l i) clock out).world) e

abbrev IsReport : Option Sent → Type 0
IsReport none = ⊥
IsReport (some (sent_request a receipt text)) = ⊥
IsReport (some (sent_answer a receipt text)) = ⊥
IsReport (some (sent_registry day text)) = ⊥
IsReport (some (sent_report day text)) = Unit {0}

-- the place i of what was sent has a report of the day
abbrev ReportAt : World → ℕ → Day → Type 0
ReportAt u i day = (text : List ℕ) × (get_elem? u.sent i ≡ some (sent_report day text))

none-report : (u : World) → u.sent ≡ [] → (i : ℕ) (day : Day) → ReportAt u i day → ⊥
none-report u e i day q = subst IsReport (sym q.1 ∙ ap (λ (l : List Sent). get_elem? l i) e) tt

-- ---- a run of a world with one side refused, told of the world with that side replaced
-- a step keeps the world and delivers no report, or it does the same in the world with the side replaced
data Moves (swap : World → World) (Bad : World → Type 0) (u v z : World) (D E : Day → Type 0) : Type 0 where
  stays : v ≡ u → ((day : Day) → D day → ⊥) → Moves swap Bad u v z D E
  goes : Bad v → swap v ≡ z → ((day : Day) → D day → E day) → Moves swap Bad u v z D E

-- the steps that are kept, and what they give: the same world but for the side replaced, reports of the same days, and the side is refused still
record Told (swap : World → World) (Bad : World → Type 0) (ss : List Step) (u : World) : Type 0 where
  steps : List Step
  ran : swap (run ss u) ≡ run steps (swap u)
  days : (day : Day) → ReportDelivered ss u day → ReportDelivered steps (swap u) day
  still : Bad (run ss u)

module _ (swap : World → World) (Bad : World → Type 0)
    (move : (s : Step) (u : World) → Bad u → Moves swap Bad u (step s u) (step s (swap u)) (DeliversReport s u) (DeliversReport s (swap u))) where
  told : (ss : List Step) (u : World) → Bad u → Told swap Bad ss u
  unfolding run
  told [] u b = record { steps = []; ran = refl; days = λ day h. h; still = b }
  told (s ∷ ss) u b = go (move s u b) (λ v k. told ss v k)
    where
      go : Moves swap Bad u (step s u) (step s (swap u)) (DeliversReport s u) (DeliversReport s (swap u))
          → ((v : World) → Bad v → Told swap Bad ss v) → Told swap Bad (s ∷ ss) u
      go (stays e n) rest =
          let t : Told swap Bad ss u = rest u b in
          record {
            steps = t.steps;
            ran = ap (λ (v : World). swap (run ss v)) e ∙ t.ran;
            days = λ day h. late day h;
            still = subst (λ (v : World). Bad (run ss v)) (sym e) t.still;
          }
        where
          late : (day : Day) → DeliversReport s u day ⊎ ReportDelivered ss (step s u) day → ReportDelivered (rest u b).steps (swap u) day
          late day (inl d) = absurd (n day d)
          late day (inr h) = (rest u b).days day (subst (λ (v : World). ReportDelivered ss v day) e h)
      go (goes k e m) rest =
          let t : Told swap Bad ss (step s u) = rest (step s u) k in
          record {
            steps = s ∷ t.steps;
            ran = t.ran ∙ ap (run t.steps) e;
            days = λ day h. late day h;
            still = t.still;
          }
        where
          late : (day : Day) → DeliversReport s u day ⊎ ReportDelivered ss (step s u) day
              → DeliversReport s (swap u) day ⊎ ReportDelivered (rest (step s u) k).steps (step s (swap u)) day
          late day (inl d) = inl (m day d)
          late day (inr h) = inr (subst (λ (v : World). ReportDelivered (rest (step s u) k).steps v day) e ((rest (step s u) k).days day h))

-- safety there, and the same settled days
module _ (swap : World → World) (Bad : World → Type 0) (ss : List Step) (w : World) (t : Told swap Bad ss w) where
  told-safe : Start (swap w) → Lent (swap w) → Safe (swap w) t.steps (swap (run ss w))
  told-safe st lent = subst (λ (v : World). Safe (swap w) t.steps v) (sym t.ran) (safe (swap w) st lent t.steps)

  told-settled : (swap w).book.frozen ≡ w.book.frozen → (day : Day) → SettledDay w ss day → SettledDay (swap w) t.steps day
  told-settled e day (inl d) = inl (d ∙ sym e)
  told-settled e day (inr h) = inr (t.days day h)

-- ---- a table that is refused, with no record and no account
pub record NoTable (g : Gate) (t : Rows) : Type 0 where
  pub refused : table_good g t ≡ false
  pub records : g.used ≡ 0
  accounts : g.count ≡ 0

abbrev pub BadTable : World → Type 0
BadTable u = NoTable u.gate u.table

-- rows of one place are a good table for that gate
abbrev one_row : Rows
one_row = record { nums = [] ∷ []; numbers = [] ∷ []; dates = [] ∷ [] }

abbrev with_table : World → World
with_table u = record { gate = u.gate; table = one_row; book = u.book; book_rows = u.book_rows; sent = u.sent; drawn = u.drawn }

table-move : (s : Step) (u : World) → BadTable u → Moves with_table BadTable u (step s u) (step s (with_table u)) (DeliversReport s u) (DeliversReport s (with_table u))
unfolding accepting checking writing freezing listing answer_arrives report_arrives
table-move (opens n k) u b = stays (open_stays u b.refused n k) (λ day d. d)
table-move (draws n k kopecks) u b = stays (draw-stays u b.refused n k kopecks) (λ day d. d)
table-move (accepts n k kopecks date) u b = goes b refl (λ day d. d)
table-move (writes_check n k kopecks out) u b = goes b refl (λ day d. d)
table-move (writes_payment receipt out) u b = goes b refl (λ day d. d)
table-move (writes_status receipt out) u b = goes b refl (λ day d. d)
table-move (writes_cancel receipt reason out) u b = goes b refl (λ day d. d)
table-move (freezes day) u b = goes b refl (λ day d. d)
table-move (writes_registry day out) u b = goes b refl (λ day d. d)
table-move (delivers i clock out) u b = go (get_elem? u.sent i) refl
  where
    go : (o : Option Sent) → get_elem? u.sent i ≡ o → Moves with_table BadTable u (delivered u o clock out).world (delivered (with_table u) o clock out).world (ReportAt u i) (ReportAt u i)
    go none e = goes b refl (λ day d. d)
    go (some (sent_request a receipt text)) e = stays (request-stays u b.refused a receipt text clock out) (λ day d. subst IsReport (sym d.1 ∙ e) tt)
    go (some (sent_answer a receipt text)) e = goes b refl (λ day d. d)
    go (some (sent_registry day text)) e = stays (registry-stays u b.refused day text clock out) (λ day d. subst IsReport (sym d.1 ∙ e) tt)
    go (some (sent_report day text)) e = goes b refl (λ day d. d)

no-records : (t : Rows) {n : ℕ} → n ≡ 0 → records_of t n ≡ []
unfolding records_of tab
no-records t e = ap (records_of t) e

module _ (w : World) (st : Start w) (bad : table_good w.gate w.table ≡ false) (ss : List Step) where
  abbrev of-table : Told with_table BadTable ss w
  of-table = told with_table BadTable table-move ss w (record { refused = bad; records = st.records; accounts = st.accounts })

  pub table-bad : BadTable (run ss w)
  table-bad = of-table.still

  table-safe : Lent (with_table w) → Safe w ss (run ss w)
  table-safe book =
      let u : World = run ss w in
      let b : BadTable u = of-table.still in
      let s : Safe (with_table w) of-table.steps (with_table u) = told-safe with_table BadTable ss w of-table
      (record { accounts = st.accounts; records = st.records; entries = st.entries; days = st.days; settled = st.settled; sent = st.sent; drawn = st.drawn; places = st.places }) book in
      let r : records_in (with_table u) ≡ records_in u = no-records one_row b.records ∙ sym (no-records u.table b.records) in
      record {
        once = λ i j l m e. no-place i b.records l;
        accounts_once = λ i j l m e. no-place i b.accounts l;
        opened = λ i l. no-place i b.records l;
        balances = λ i l. no-place i b.accounts l;
        says = λ i l. said (entry_in u i) (state_in u i) (s.says i l);
        lists = λ day h. s.lists day (settled day h) ∙ ap (λ (rs : List Record). by_number (done_on day rs)) r;
        totals = λ day h. s.totals day (settled day h) ∙ ap (λ (rs : List Record). total (done_on day rs)) r;
        final = λ day h. s.final day (settled day h);
      }
    where
      settled : (day : Day) → SettledDay w ss day → SettledDay (with_table w) of-table.steps day
      settled = told-settled with_table BadTable ss w of-table refl

      said : (e : Entry) (x : State) → Says (with_table (run ss w)) e x → Says (run ss w) e x
      said e Asked q = tt
      said e Credited q = no-place q.place of-table.still.records q.used
      said e CancelAsked q = tt
      said e Cancelled q = no-place q.place of-table.still.records q.used
      said e Unposted q = λ i l h. no-place i of-table.still.records l

-- ---- a book that is refused, with no entry, where nothing was sent
pub record NoBook (b : Book) (t : BookRows) (s : List Sent) : Type 0 where
  refused : book_good b t ≡ false
  entries : b.used ≡ 0
  pub sent : s ≡ []

abbrev pub BadBook : World → Type 0
BadBook u = NoBook u.book u.book_rows u.sent

-- an empty book of one place, of the same day, is a good one
abbrev one_entry : BookRows
one_entry = record { nums = [] ∷ []; numbers = [] ∷ []; dates = [] ∷ [] }

abbrev with_book : World → World
with_book u =
    record {
      gate = u.gate;
      table = u.table;
      book = record { first = 1; used = 0; frozen = u.book.frozen; settled = u.book.settled };
      book_rows = one_entry;
      sent = u.sent;
      drawn = u.drawn;
    }

book-move : (s : Step) (u : World) → BadBook u → Moves with_book BadBook u (step s u) (step s (with_book u)) (DeliversReport s u) (DeliversReport s (with_book u))
unfolding opening drawing
book-move (opens n k) u b = goes b refl (λ day d. d)
book-move (draws n k kopecks) u b = goes b refl (λ day d. d)
book-move (accepts n k kopecks date) u b = stays (accept-stays u b.refused n k kopecks date) (λ day d. d)
book-move (writes_check n k kopecks out) u b = stays (check-stays u b.refused n k kopecks out) (λ day d. d)
book-move (writes_payment receipt out) u b = stays (write-stays u b.refused Payment receipt 0 out) (λ day d. d)
book-move (writes_status receipt out) u b = stays (write-stays u b.refused Status receipt 0 out) (λ day d. d)
book-move (writes_cancel receipt reason out) u b = stays (write-stays u b.refused Cancel receipt reason out) (λ day d. d)
book-move (freezes day) u b = stays (freeze-stays u b.refused day) (λ day d. d)
book-move (writes_registry day out) u b = stays (list-stays u b.refused day out) (λ day d. d)
book-move (delivers i clock out) u b = stays (none_stays u b.sent i clock out) (none-report u b.sent i)

no-entries : (t : BookRows) {n : ℕ} → n ≡ 0 → entries_of t n ≡ []
unfolding entries_of tab
no-entries t e = ap (entries_of t) e

module _ (w : World) (st : Start w) (bad : book_good w.book w.book_rows ≡ false) (ss : List Step) where
  abbrev of-book : Told with_book BadBook ss w
  of-book = told with_book BadBook book-move ss w (record { refused = bad; entries = st.entries; sent = st.sent })

  pub book-bad : BadBook (run ss w)
  book-bad = of-book.still

  book-safe : Lent (with_book w) → Safe w ss (run ss w)
  book-safe table =
      let u : World = run ss w in
      let b : BadBook u = of-book.still in
      let s : Safe (with_book w) of-book.steps (with_book u) = told-safe with_book BadBook ss w of-book
      (record { accounts = st.accounts; records = st.records; entries = refl; days = st.days; settled = st.settled; sent = st.sent; drawn = st.drawn; places = st.places }) table in
      let r : entries_in u ≡ entries_in (with_book u) = no-entries u.book_rows b.entries ∙ sym (no-entries one_entry refl) in
      record {
        once = s.once;
        accounts_once = s.accounts_once;
        opened = s.opened;
        balances = s.balances;
        says = λ i l. no-place i b.entries l;
        lists = λ day h. ap (λ (es : List Entry). by_number (credited_on day es)) r ∙ s.lists day (settled day h);
        totals = λ day h. ap (λ (es : List Entry). total (credited_on day es)) r ∙ s.totals day (settled day h);
        final = λ day h i l. no-place i b.entries l;
      }
    where
      settled : (day : Day) → SettledDay w ss day → SettledDay (with_book w) of-book.steps day
      settled = told-settled with_book BadBook ss w of-book refl

-- ---- both refused: the world stays as it is
module _ (u : World) (g : BadTable u) (b : BadBook u) where
  idle : (s : Step) → step s u ≡ u
  idle (opens n k) = open_stays u g.refused n k
  idle (draws n k kopecks) = draw-stays u g.refused n k kopecks
  idle (accepts n k kopecks date) = accept-stays u b.refused n k kopecks date
  idle (writes_check n k kopecks out) = check-stays u b.refused n k kopecks out
  idle (writes_payment receipt out) = write-stays u b.refused Payment receipt 0 out
  idle (writes_status receipt out) = write-stays u b.refused Status receipt 0 out
  idle (writes_cancel receipt reason out) = write-stays u b.refused Cancel receipt reason out
  idle (freezes day) = freeze-stays u b.refused day
  idle (writes_registry day out) = list-stays u b.refused day out
  idle (delivers i clock out) = none_stays u b.sent i clock out

  run-idle : (ss : List Step) → run ss u ≡ u
  unfolding run
  run-idle [] = refl
  run-idle (s ∷ ss) = ap (run ss) (idle s) ∙ run-idle ss

  idle-safe : (ss : List Step) → Safe u ss (run ss u)
  unfolding credited_on records_on
  idle-safe ss = subst (λ (v : World). Safe u ss v) (sym (run-idle ss)) here
    where
      here : Safe u ss u
      here =
          record {
            once = λ i j l m e. no-place i g.records l;
            accounts_once = λ i j l m e. no-place i g.accounts l;
            opened = λ i l. no-place i g.records l;
            balances = λ i l. no-place i g.accounts l;
            says = λ i l. no-place i b.entries l;
            lists = λ day h. ap (λ (es : List Entry). by_number (credited_on day es)) (no-entries u.book_rows b.entries) ∙ ap (λ (rs : List Record). by_number (done_on day rs)) (sym (no-records u.table g.records));
            totals = λ day h. ap (λ (es : List Entry). total (credited_on day es)) (no-entries u.book_rows b.entries) ∙ ap (λ (rs : List Record). total (done_on day rs)) (sym (no-records u.table g.records));
            final = λ day h i l. no-place i b.entries l;
          }

-- ---- safety, for whatever is lent: by whether the table and the book are good at the start
module _ (w : World) (st : Start w) where
  table-lent : table_good w.gate w.table ≡ true → lent_good w.gate w.table ≡ true
  unfolding table_good
  table-lent h = and_left (lent_good w.gate w.table) _ h

  table-date : table_good w.gate w.table ≡ true → is_day w.gate.closed ≡ true
  table-date h = (good-table w.gate w.table st.places h).closed

  one_lent : lent_well w.gate.used 1 1 1 ≡ true
  unfolding lent_well
  one_lent = ap (λ (n : ℕ). lent_well n 1 1 1) st.records

  none_lent : lent_well 0 1 1 1 ≡ true
  unfolding lent_well
  none_lent = refl

  -- a table and a book that are good are lent as they should be
  pub good-lent-both : table_good w.gate w.table ≡ true → book_good w.book w.book_rows ≡ true → Lent w
  good-lent-both eg eb =
      record { table = table-lent eg; book = good-lent w.book w.book_rows eb; first = (good_book w.book w.book_rows eb).first; date = table-date eg }

pub safe-always : (w : World) → Start w → (ss : List Step) → Safe w ss (run ss w)
safe-always w st ss = go (table_good w.gate w.table) (book_good w.book w.book_rows) refl refl
  where
    go : (g b : Bool) → table_good w.gate w.table ≡ g → book_good w.book w.book_rows ≡ b → Safe w ss (run ss w)
    go true true eg eb = safe w st (good-lent-both w st eg eb) ss
    go false true eg eb = table-safe w st eg ss (record { table = one_lent w st; book = good-lent w.book w.book_rows eb; first = (good_book w.book w.book_rows eb).first; date = ap is_day st.days ∙ (good_book w.book w.book_rows eb).frozen })
    go true false eg eb = book-safe w st eb ss (record { table = table-lent w st eg; book = none_lent w st; first = refl; date = table-date w st eg })
    go false false eg eb = idle-safe w (record { refused = eg; records = st.records; accounts = st.accounts }) (record { refused = eb; entries = st.entries; sent = st.sent }) ss
