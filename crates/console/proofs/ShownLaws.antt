-- Laws of what a line prints: what it rests on, how long it is, and that the table keeps its places.
use Rattle.std.specs.Prelude.{Option, Some, None}
use Prim.Native.Nat.{ℕ, ◌+◌, ◌*◌, ◌≤◌, ◌<◌}
use native.Mathlib.Omega.{arith}
use mathlib.Core.Path.{◌≡◌, refl, sym, ap, subst, ◌∙◌}
use mathlib.Core.Bool.{true, ◌&&◌}
use mathlib.Core.List.{List, [], ◌∷◌, ◌++◌}
use lib.Dec.{eqb, leb, ltb}
use lib.ListN.{length, set, replicate, length-set, length-append}
use borrow.Author.Tests.{lt-ltb, le-ltb, ltb-true, ltb-false}
use Rattle.texts.specs.Lists.{written, cursor_after}
use Rattle.texts.proofs.DigitLaws.{within-high}
use Rattle.texts.proofs.Tests.{and_left, cond-elim, by-test}
use Rattle.texts.specs.Digits.{digits_read}
use Rattle.days.specs.declared.calendar.Day.{Day}
use Rattle.days.specs.Calendar.{day_read}
use Rattle.lists.proofs.LentLaws.{lent-facts}
use Rattle.table.specs.declared.Gate.{Gate}
use Rattle.table.specs.declared.Record.{Record}
use Rattle.table.specs.Table.{Rows, record_at, records_of, rows_from}
use Rattle.table.proofs.TableLaws.{length-records, from-whole}
use Rattle.ledger.specs.Change.{make_record, revoked}
use Rattle.validity.specs.Valid.{lent_good, table_good}
use Rattle.validity.proofs.GoodLaws.{record-good}
use Rattle.payments.specs.declared.Instruction.{Instruction}
use Rattle.message.specs.Request.{request_read, fault_number}
use Rattle.admission.specs.Delivery.{Delivery}
use Rattle.gate.specs.Deliver.{instruction_in, deliver, respond}
use Rattle.gate_theorems.proofs.OutcomeLaws.{Outcome, stays, appends, revokes, outcome}
use Rattle.gate_theorems.proofs.KeepsLaws.{delivered-by}
use Rattle.gate_theorems.proofs.KeptLaws.{parts-of}
use Rattle.figures.specs.Figures.{printed}
use Rattle.figures.specs.Daily.{day_text}
use Rattle.figures.specs.Listing.{Payable, Put}
use Rattle.figures.proofs.PrintLaws.{printed-length, put_first}
use Rattle.figures.proofs.DailyLaws.{day-length}
use Rattle.line_fields.specs.LineFields.{field_at, field_count, has_letter, params_in}
use Rattle.orders.specs.declared.turn.Shown.{Shown}
use Rattle.orders.specs.declared.turn.Shown.TheVariants.{Figures, Payments}
use Rattle.orders.specs.Order.{Console, Turn, clock_in, start_turn, open_turn, draw_of, draw_turn, ask_turn, list_of, list_turn, order_turn, line_turn, shown_text, turn_text}
use Rattle.console.specs.Feed.{line_room}
use Rattle.console.specs.Parts.{Showable}

-- ---- the room of a line
module _ (n : ℕ) where
  pub room-few : n < 4096 → 64 * (n + 2) ≡ line_room n
  unfolding line_room
  room-few h = rw (lt-ltb _ _ h)

  pub room_most : 4096 ≤ n → 262272 ≡ line_room n
  unfolding line_room
  room_most h = rw (le-ltb _ _ h)

  pub room-some : 64 ≤ line_room n
  unfolding line_room
  room-some = omega arith

  pub room-day : (used : ℕ) → used ≤ n → used ≤ 4096 → 64 * (used + 2) ≤ line_room n
  room-day used h few = by-test (ltb n 4096) (λ t. omega (arith, room-few (ltb-true _ _ t))) (λ t. omega (arith, room_most (ltb-false _ _ t)))

-- ---- a table that is not refused can be printed
pub good-payable : (g : Gate) (t : Rows) → table_good g t ≡ true → Payable t g.used
unfolding table_good
good-payable g t good =
    let lent = lent-facts _ _ _ _ (and_left (lent_good g t) _ good) in
    record {
      few = omega (arith, lent.room, lent.most);
      nums = lent.room;
      numbers = omega (arith, lent.room, lent.second);
      dates = omega (arith, lent.room, lent.third);
      amounts = λ i h. omega (arith, within-high 1 999999999 (record_at t i).amount (parts-of g i (record_at t i) (record-good g t good i h)).amount);
    }

-- ---- a line keeps the table's places, and what it prints can be printed
rows-length : (t : Rows) (rs : List Record) → length rs ≤ length t.nums → length (rows_from t rs).nums ≡ length t.nums
rows-length t rs h = omega (arith, (from-whole t rs).0)

outcome-length : (g : Gate) (t : Rows) (clock : List ℕ) (q : Instruction) (d : Delivery) → Payable t g.used → Outcome g t clock q d → length d.rows.nums ≡ length t.nums
outcome-length g t clock q d p (stays eg er) = rw er (rows-length t (records_of t g.used) (omega (arith, length-records t g.used, p.nums)))
outcome-length g t clock q d p (appends a ea en ef fu day ec eg er) =
    let r = make_record g clock q.details in
    rw er (rows-length t (records_of t g.used ++ (r ∷ [])) (omega (arith, length-append (records_of t g.used) (r ∷ []), length-records t g.used)))
outcome-length g t clock q d p (revokes i r f ea ei er ef es day fu ec eg el) =
    rw el (rows-length t (set (records_of t g.used) i (revoked clock r)) (omega (arith, length-set (records_of t g.used) i (revoked clock r), length-records t g.used, p.nums)))

deliver-length : (g : Gate) (t : Rows) (clock params out : List ℕ) → length (deliver g t clock params out).rows.nums ≡ length t.nums
deliver-length g t clock params out =
    let f : ℕ = fault_number (request_read params) in
    let q : Instruction = instruction_in params in
    delivered-by g t clock params out (λ (d : Delivery). length d.rows.nums ≡ length t.nums) (λ code left size. refl)
    (λ good _. outcome-length g t clock q (respond g t clock f q out) (good-payable g t good) (outcome g t clock f q out))

module _ (x : Console) (t : Rows) (l : List ℕ) where
  abbrev Shows : Turn → Type 0
  Shows r = (length r.rows.nums ≡ length t.nums) × Showable r.shown r.rows r.console.gate.used

  draw-of-shows : (d : Option ℕ) → Shows (draw_of x t l d)
  draw-of-shows None = (refl, tt)
  draw-of-shows (Some m) = (refl, tt)

  list-of-shows : (d : Option Day) → Shows (list_of x t d)
  list-of-shows None = (refl, tt)
  list-of-shows (Some d) = cond-elim Shows (table_good x.gate t) _ _ (λ good. (refl, good-payable x.gate t good)) (λ _. (refl, tt))

  order-shows : Shows (order_turn x t l)
  unfolding order_turn open_turn draw_turn ask_turn list_turn
  order-shows =
      cond-elim Shows (has_letter 79 l && eqb (field_count l) 3) _ _ (λ _. (refl, tt))
      (λ _. cond-elim Shows (has_letter 68 l && eqb (field_count l) 4) _ _ (λ _. draw-of-shows (digits_read 15 (field_at 3 l)))
      (λ _. cond-elim Shows (has_letter 82 l && leb 3 (field_count l)) _ _
      (λ _. (deliver-length x.gate t (clock_in l) (params_in l) (replicate 512 0), tt))
      (λ _. cond-elim Shows (has_letter 80 l && eqb (field_count l) 2) _ _ (λ _. list-of-shows (day_read (field_at 1 l))) (λ _. (refl, tt)))))

  start-shows : Shows (start_turn x t l)
  unfolding start_turn
  start-shows = cond-elim Shows (has_letter 67 l && eqb (field_count l) 2) _ _ (λ _. (refl, tt)) (λ _. (refl, tt))

  turn-shows : Shows (line_turn x t l)
  unfolding line_turn
  turn-shows = cond-elim Shows x.started (order_turn x t l) (start_turn x t l) (λ _. order-shows) (λ _. start-shows)

  pub turn-places : length (line_turn x t l).rows.nums ≡ length t.nums
  turn-places = turn-shows.0

  pub turn-showable : Showable (line_turn x t l).shown (line_turn x t l).rows (line_turn x t l).console.gate.used
  turn-showable = turn-shows.1

pub places-left : (x : Console) (t : Rows) (l : List ℕ) (rows : Rows) → rows ≡ (line_turn x t l).rows → length rows.nums ≡ length t.nums
places-left x t l rows e = ap (λ (r : Rows). length r.nums) e ∙ turn-places x t l

-- ---- no more than there is room for
pub shown-length : (s : Shown) (code : ℕ) (g : Gate) (t : Rows) → Showable s t g.used → length (shown_text s code g t) ≤ line_room (length t.nums)
unfolding shown_text
shown-length Figures code g t h = omega (arith, printed-length code g, room-some (length t.nums))
shown-length (Payments d) code g t h = omega (arith, day-length d t g.used, room-day (length t.nums) g.used h.nums h.few)

pub turn-length : (x : Console) (t : Rows) (l : List ℕ) → length (turn_text (line_turn x t l)) ≤ line_room (length t.nums)
turn-length x t l =
    let r : Turn = line_turn x t l in
    let most : length (turn_text r) ≤ line_room (length r.rows.nums) = shown-length r.shown r.code r.console.gate r.rows (turn-showable x t l) in
    omega (arith, most, ap line_room (turn-places x t l))

-- ---- the two ways to print
module _ (t : Rows) (d : List ℕ) (at : ℕ) (room : at + line_room (length t.nums) ≤ length d) (s : Shown) (code : ℕ) (g : Gate) where
  pub shows-figures : s ≡ Figures → (p : ℕ) (e : List ℕ) → p ≡ cursor_after d at (printed code g) → e ≡ written d at (printed code g) → Put d at (shown_text s code g t) p e
  unfolding shown_text
  shows-figures es p e ep ee =
      rw es (put_first (omega (arith, printed-length code g, room-some (length t.nums))) p e ep ee)

  pub shows-day : (day : Day) → s ≡ Payments day → (p : ℕ) (e : List ℕ) → Put d at (day_text day (records_of t g.used)) p e → Put d at (shown_text s code g t) p e
  unfolding shown_text
  shows-day day es p e put = subst (λ (z : Shown). Put d at (shown_text z code g t) p e) (sym es) put

-- what the second rests on
module _ (t : Rows) (used : ℕ) (s : Shown) (h : Showable s t used) (day : Day) (es : s ≡ Payments day) where
  pub shows-payable : Payable t used
  shows-payable = subst (λ (z : Shown). Showable z t used) es h

  pub shows-room : (d : List ℕ) (at : ℕ) → at + line_room (length t.nums) ≤ length d → at + 64 * (used + 2) ≤ length d
  shows-room d at room = omega (arith, room-day (length t.nums) used shows-payable.nums shows-payable.few)
