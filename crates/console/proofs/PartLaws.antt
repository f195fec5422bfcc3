-- Laws of a session that is fed in parts: a line that ends, the loop over a part, and the ways out.
use Rattle.std.specs.Prelude.{Some, None}
use Prim.Native.Nat.{ℕ, suc, ◌+◌, ◌-◌, ◌*◌, ◌/◌, ◌≤◌, ◌<◌}
use native.Mathlib.Nat.{add-zero, zero-add, mod-lt, div-add-mod', div-mul-le_self, mul-le-mul_right}
use native.Mathlib.Omega.{arith}
use mathlib.Core.Path.{◌≡◌, refl, sym, ap, subst, ◌∙◌}
use mathlib.Core.List.{List, [], ◌∷◌, ◌++◌, append_assoc, append-nil}
use mathlib.Core.Bool.{Bool, true, false, cond, not, ◌&&◌}
use lib.Dec.{eqb, leb, ltb}
use lib.IntN.{ℤ, pos}
use lib.ListN.{length, take, drop, replicate, length-append, length-drop, drop_of_length-le}
use lib.Seq.{take_at, length-take-le}
use borrow.Author.Tests.{lt-ltb, le-ltb, lt-leb, le-leb, ltb-false, leb-true, leb-false, not-true, not-false}
use Rattle.texts.specs.Lists.{over}
use Rattle.texts.proofs.OutLaws.{over_none, over-length, over-over}
use Rattle.texts.proofs.Tests.{and_right, cond-elim, by-test}
use Rattle.table.specs.declared.Account.{Account}
use Rattle.table.specs.Table.{Rows}
use Rattle.table.specs.Accounts.{with_accounts}
use Rattle.table.specs.declared.Head.{Head}
use Rattle.table.specs.Columns.{gate_of, columns_of}
use Rattle.table.proofs.ColumnLaws.{empty-in}
use Rattle.orders.specs.Order.{Console}
use Rattle.gathering.specs.Held.{Held}
use Rattle.gathering.specs.Gather.{Gathered}
use Rattle.orders.specs.declared.ConsoleHead.{ConsoleHead}
use Rattle.orders.specs.declared.turn.Shown.{Shown}
use Rattle.orders.specs.declared.turn.Shown.TheVariants.{Figures, Payments}
use Rattle.orders.specs.Order.{console_of, Turn, line_turn, shown_text, turn_text}
use Rattle.figures.specs.Sums.{Summable, nameless}
use Rattle.figures.specs.Listing.{Put}
use Rattle.figures.proofs.SumLaws.{nameless-printed}
use Rattle.gathering.specs.declared.Mark.{Mark}
use Rattle.gathering.specs.Held.{held_of, new_mark, held_text, emptied}
use Rattle.console.specs.Feed.{Fed, ended, fed_byte, fed, finished, line_room, filled}
use Rattle.gathering.specs.Gather.{gathered}
use Rattle.gathering.specs.Held.{new_held}
use Rattle.console.specs.Session.{empty_gate, new_console, new_head, new_fed, session_text}
use Rattle.console.specs.Parts.{Part, before, printed_at, feed_part, last_part, Run, run_all, EndedAt, Showable}
use Rattle.console.proofs.SummableLaws.{turn-summable, none-summable}
use Rattle.console.proofs.ShownLaws.{room-few, room-some, turn-places, turn-showable, turn-length}
use Rattle.console.proofs.FeedLaws.{gathered-on, gathered-in, fill_stop, fill-ended, fill-rest, fill-within, fill-some, session-fed}

-- ---- a line that has ended
module _ (x : Console) (t : Rows) (h : Held) (l : List ℕ) (el : l ≡ take h.len h.bytes) (code : ℕ) (y : Console) (t' : Rows) (s : Shown)
    (e : ◌≡◌ {A = Turn} (record { code = code; console = y; rows = t'; shown = s }) (line_turn x t l)) where
  is-turn : ◌≡◌ {A = Turn} (record { code = code; console = y; rows = t'; shown = s }) (line_turn x t (held_text h))
  is-turn = e ∙ ap (line_turn x t) el

  pub turn-sums : Summable x.gate → Summable y.gate
  turn-sums s = subst (λ (r : Turn). Summable r.console.gate) (sym is-turn) (turn-summable x t (held_text h) s)

  pub turn-shown : Showable s t' y.gate.used
  turn-shown = subst (λ (r : Turn). Showable r.shown r.rows r.console.gate.used) (sym is-turn) (turn-showable x t (held_text h))

  pub turn-room : (at n : ℕ) → at + line_room (length t.nums) ≤ n → at + line_room (length t'.nums) ≤ n
  turn-room at n room =
      let same : length t'.nums ≡ length t.nums = ap (λ (r : Turn). length r.rows.nums) is-turn ∙ turn-places x t (held_text h) in
      omega (arith, ap line_room same)

  pub ended_at : (d : List ℕ) (at : ℕ) (p : List ℕ) → p ≡ shown_text s code y.gate t' → (r : ℕ) (o : List ℕ) → Put d at p r o → EndedAt x h t d at y t' o r
  ended_at d at p ep r o put =
      let text : p ≡ turn_text (line_turn x t (held_text h)) = ep ∙ ap turn_text is-turn in
      record {
        consoles = ap (λ (q : Turn). q.console) is-turn;
        left = ap (λ (q : Turn). q.rows) is-turn;
        buffer = put.text ∙ ap (over d at) text;
        cursor = put.cursor ∙ ap (λ (q : List ℕ). at + length q) text;
      }

-- the room of a line is that of the places, which stay
pub room-positive : (need n : ℕ) → need ≡ line_room n → 0 < need
room-positive need n e = omega (arith, e, room-some n)

pub room-same : (need n m : ℕ) → need ≡ line_room n → m ≡ n → need ≡ line_room m
room-same need n m e s = e ∙ ap line_room (sym s)

pub room_at : (n m : ℕ) → n < 4096 → 64 * (n + 2) ≤ m → line_room n ≤ m
room_at n m h fit = omega (arith, fit, room-few n h)

pub room-kept : (n m a b : ℕ) → n ≡ m → a ≡ b → line_room m ≤ b → line_room n ≤ a
room-kept n m a b e q h = omega (arith, ap line_room e)

-- what is printed without the accounts' names
pub nameless-shown : (h : Head) (names keys : List (List ℕ)) (b : List ℤ) (s : Shown) (code : ℕ) (t : Rows)
    → shown_text s code (nameless h b) t ≡ shown_text s code (gate_of h (columns_of names keys b)) t
unfolding shown_text
nameless-shown h names keys b Figures code t = nameless-printed h names keys b code
nameless-shown h names keys b (Payments d) code t = refl

-- the text up to the cursor
take-over : (d : List ℕ) (at : ℕ) (xs : List ℕ) → at ≤ length d → take (at + length xs) (over d at xs) ≡ take at d ++ xs
take-over d at xs h =
    let n : length (take at d ++ xs) ≡ at + length xs = length-append (take at d) xs ∙ omega (arith, length-take-le at d h) in
    ap (take (at + length xs)) (sym (append_assoc (take at d) xs (drop (at + length xs) d))) ∙ take_at (take at d ++ xs) (drop (at + length xs) d) (at + length xs) n

-- ---- the loop: what is printed so far stands in the buffer, and what is left of the input gives the rest
abbrev going : Console → Held → Rows → List ℕ → ℕ → Fed
going y h t o size = record { console = y; held = h; rows = t; text = take size o }

pub record Going (need : ℕ) (f₀ : Fed) (input out₀ : List ℕ) (t : Rows) (o : List ℕ) (y : Console) (h : Held) (size at : ℕ) : Type 0 where
  pub same : filled need (length out₀) f₀ 0 input ≡ filled need (length out₀) (record { console = y; held = h; rows = t; text = take size o }) at (drop at input)
  pub shown : o ≡ over out₀ 0 (take size o)
  pub sizes : length o ≡ length out₀
  pub fits : size ≤ length o
  pub inside : at ≤ length input
  pub sums : Summable y.gate

pub going_start : (need : ℕ) (x : Console) (h : Held) (t : Rows) (input out : List ℕ) → Summable x.gate → Going need (before x h t) input out t out x h 0 0
going_start need x h t input out s =
    record { same = refl; shown = sym (over_none out 0); sizes = refl; fits = omega arith; inside = omega arith; sums = s }

module _ (need : ℕ) (f₀ : Fed) (input out₀ : List ℕ) (t : Rows) (o : List ℕ) (y : Console) (h : Held) (size at : ℕ) (v : Going need f₀ input out₀ t o y h size at) where
  first : length (take size o) ≡ size
  first = length-take-le size o v.fits

  part-is : (h' : Held) (n : ℕ) → filled need (length out₀) f₀ 0 input ≡ record { fed = going y h' t o size; taken = n }
      → ◌≡◌ {A = Part} (record { console = y; held = h'; rows = t; out = o; size = size; taken = n }) (printed_at out₀ 0 (filled need (length out₀) f₀ 0 input))
  part-is h' n e = sym (ap (printed_at out₀ 0) e ∙ rw (← v.shown, first, zero-add))

  -- the part is at its end, or the buffer has no more room for a line
  part-full : length o - size < need
      → ◌≡◌ {A = Part} (record { console = y; held = h; rows = t; out = o; size = size; taken = at }) (printed_at out₀ 0 (filled need (length out₀) f₀ 0 input))
  part-full less =
      part-is h at (v.same ∙ fill_stop need (length out₀) (going y h t o size) at (drop at input) (omega (arith, less, v.fits, v.sizes, first)))

  part_end : length input ≤ at
      → ◌≡◌ {A = Part} (record { console = y; held = h; rows = t; out = o; size = size; taken = at }) (printed_at out₀ 0 (filled need (length out₀) f₀ 0 input))
  unfolding filled
  part_end l = part-is h at (v.same ∙ rw (drop_of_length-le input l))

  pub part-stops : ltb at (length input) && leb need (length o - size) ≡ false
      → ◌≡◌ {A = Part} (record { console = y; held = h; rows = t; out = o; size = size; taken = at }) (printed_at out₀ 0 (filled need (length out₀) f₀ 0 input))
  part-stops e = by-test (ltb at (length input)) (λ z. part-full (leb-false _ _ (sym (and-true-left z) ∙ e))) (λ z. part_end (ltb-false _ _ z))
    where
      and-true-left : ltb at (length input) ≡ true → ltb at (length input) && leb need (length o - size) ≡ leb need (length o - size)
      and-true-left z = rw z

  module _ (goes : ltb at (length input) && leb need (length o - size) ≡ true) where
    room : need ≤ length o - size
    room = leb-true _ _ (and_right (ltb at (length input)) _ goes)

    text-room : length (take size o) + need ≤ length out₀
    text-room = omega (arith, room, v.fits, v.sizes, first)

    room-now : size + need ≤ length o
    room-now = omega (arith, room, v.fits)

    pub line-room : (n m : ℕ) → need ≡ line_room n → m ≡ n → size + line_room m ≤ length o
    line-room n m en same = omega (arith, room-now, en, ap line_room same)

    module _ (g : Gathered) (eg : g ≡ gathered h (drop at input) at) where
      -- a part that ends within a line
      pub part-rest : not g.ended ≡ true
          → ◌≡◌ {A = Part} (record { console = y; held = g.held; rows = t; out = o; size = size; taken = g.at }) (printed_at out₀ 0 (filled need (length out₀) f₀ 0 input))
      part-rest n =
          part-is g.held g.at (v.same ∙ fill-rest (going y h t o size) input at g eg (not-true g.ended n) need (length out₀) text-room)

      -- a line that ends
      module _ (end : not g.ended ≡ false) where
        pub part-on : at < g.at
        part-on = gathered-on (going y h t o size) input at g eg (not-false g.ended end)

        pub part_in : g.at ≤ length input
        part_in = gathered-in (going y h t o size) input at g eg (not-false g.ended end)

        pub going_on : need ≡ line_room (length t.nums) → (y' : Console) (h' : Held) → h' ≡ emptied g.held → (t' : Rows) (o' : List ℕ) (size' : ℕ)
            → EndedAt y g.held t o size y' t' o' size' → Summable y'.gate → Going need f₀ input out₀ t' o' y' h' size' g.at
        unfolding ended
        going_on en y' h' eh t' o' size' d s =
            let text : List ℕ = turn_text (line_turn y t (held_text g.held)) in
            let few : length text ≤ line_room (length t.nums) = turn-length y t (held_text g.held) in
            let most : size + length text ≤ length o = omega (arith, few, en, room-now) in
            let now : take size' o' ≡ take size o ++ text = ap (λ (k : ℕ). take k o') d.cursor ∙ ap (take (size + length text)) d.buffer ∙ take-over o size text v.fits in
            let whole : 0 + length (take size o) ≤ length out₀ = omega (arith, first, v.sizes, v.fits) in
            let long : length o' ≡ length o = ap length d.buffer ∙ over-length o size text most in
            record {
              same =
                  v.same ∙ fill-ended (going y h t o size) input at g eg (not-false g.ended end) need (length out₀) text-room
                  ∙ ap (λ (f : Fed). filled need (length out₀) f g.at (drop g.at input)) (rw (d.consoles, eh, d.left, now));
              shown =
                  d.buffer ∙ ap (λ (q : List ℕ). over q size text) v.shown
                  ∙ ap (λ (k : ℕ). over (over out₀ 0 (take size o)) k text) (sym (zero-add (length (take size o)) ∙ first))
                  ∙ over-over out₀ 0 (take size o) whole text ∙ ap (over out₀ 0) (sym now);
              sizes = long ∙ v.sizes;
              fits = omega (arith, d.cursor, most, long);
              inside = part_in;
              sums = s;
            }

pub feed-is : (x : Console) (h : Held) (t : Rows) (input out : List ℕ) (need : ℕ) → need ≡ line_room (length t.nums) → (p : Part)
    → p ≡ printed_at out 0 (filled need (length out) (before x h t) 0 input) → p ≡ feed_part x h t input out
unfolding feed_part
feed-is x h t input out need en p e = e ∙ ap (λ (n : ℕ). printed_at out 0 (filled n (length out) (before x h t) 0 input)) en

-- a part is taken in part where there is room for a line, and never past its end
module _ (x : Console) (h : Held) (t : Rows) (input out : List ℕ) (p : Part) (e : p ≡ feed_part x h t input out) where
  taken_is : p.taken ≡ (filled (line_room (length t.nums)) (length out) (before x h t) 0 input).taken
  unfolding feed_part
  taken_is = ap (λ (q : Part). q.taken) e

  part-within : p.taken ≤ length input
  part-within = omega (arith, taken_is, fill-within (line_room (length t.nums)) (length out) input (before x h t))

  part-goes : line_room (length t.nums) ≤ length out → 0 < length input → 0 < p.taken
  part-goes room some = omega (arith, taken_is, fill-some (line_room (length t.nums)) (length out) input (before x h t) (omega (arith, room)) some)

  -- the same of the rest of an input
  module _ (all : List ℕ) (at : ℕ) (q : input ≡ take (length all - at) (drop at all)) where
    rest-length : length input ≡ length all - at
    rest-length = ap length q ∙ length-take-le (length all - at) (drop at all) (omega (arith, length-drop at all))

    pub rest-within : at ≤ length all → at + p.taken ≤ length all
    rest-within h = omega (arith, part-within, rest-length)

    pub rest_goes : at < length all → line_room (length t.nums) ≤ length out → 0 < p.taken
    rest_goes h room = part-goes room (omega (arith, rest-length))

-- ---- the end of the input
module _ (x : Console) (h : Held) (t : Rows) (out : List ℕ) (at : ℕ) where
  pub last_none : h.len ≡ 0 → (rows : Rows) → rows ≡ t → (o : List ℕ) → o ≡ out
      → ◌≡◌ {A = Part} (record { console = x; held = h; rows = rows; out = o; size = at; taken = 0 }) (last_part x h t out at)
  unfolding last_part finished
  last_none e rows er o eo =
      let none : h.len ≤ 0 = omega arith in
      rw (le-ltb 0 h.len none, er, eo)
      (ap (λ (q : List ℕ). record { console = x; held = h; rows = t; out = q; size = at; taken = 0 }) (sym (over_none out at))
      ∙ ap (λ (n : ℕ). record { console = x; held = h; rows = t; out = over out at []; size = n; taken = 0 }) (sym (add-zero at)))

  pub last_line : (h.len ≡ 0 → ⊥) → (y : Console) (hd : Held) → hd ≡ emptied h → (t' : Rows) (o : List ℕ) (r : ℕ) → EndedAt x h t out at y t' o r
      → ◌≡◌ {A = Part} (record { console = y; held = hd; rows = t'; out = o; size = r; taken = 0 }) (last_part x h t out at)
  unfolding last_part finished ended
  last_line n y hd eh t' o r d =
      let some : 0 < h.len = omega arith in
      rw (lt-ltb 0 h.len some, d.consoles, eh, d.left, d.buffer, d.cursor)

-- ---- a whole session
pub new-sums : (x : Console) → x ≡ new_console → Summable x.gate
new-sums x e = subst (λ (c : Console). Summable c.gate) (sym e) (none-summable empty_gate refl refl)

-- its console and its held line, as the code makes them
pub console-new : (x : ConsoleHead) (names keys : List (List ℕ)) (balances : List ℤ) → x ≡ new_head → names ≡ replicate 256 (replicate 30 0) → keys ≡ replicate 256 (replicate 2 0)
    → balances ≡ replicate 256 (pos 0) → console_of x (columns_of names keys balances) ≡ new_console
console-new x names keys balances ex en ek eb =
    ap (λ (c : ConsoleHead). console_of c (columns_of names keys balances)) ex
    ∙ ap (λ (l : List Account). record { started = false; gate = with_accounts empty_gate l }) (empty-in names keys balances en ek eb)

pub held_new : (b : List ℕ) (m : Mark) → b ≡ replicate 2177 0 → m ≡ new_mark → held_of b m ≡ new_held
held_new b m eb em = ap (λ (x : List ℕ). held_of x m) eb ∙ ap (held_of (replicate 2177 0)) em

pub line-new : (b : List ℕ) (m : Mark) → m ≡ new_mark → held_of b m ≡ held_of b new_mark
line-new b m e = ap (held_of b) e

-- a byte prints no more than there is room for, and the table keeps its places
module _ (f : Fed) (b : ℕ) where
  abbrev places : Fed → ℕ
  places x = length x.rows.nums

  byte-few : length (fed_byte f b).text ≤ length f.text + line_room (places f)
  unfolding fed_byte ended
  byte-few =
      let text : List ℕ = turn_text (line_turn f.console f.rows (held_text f.held)) in
      cond-elim (λ (x : Fed). length x.text ≤ length f.text + line_room (places f)) (eqb b 10) _ _
      (λ _. omega (arith, length-append f.text text, turn-length f.console f.rows (held_text f.held)))
      (λ _. omega arith)

  byte-places : places (fed_byte f b) ≡ places f
  unfolding fed_byte ended
  byte-places = cond-elim (λ (x : Fed). places x ≡ places f) (eqb b 10) _ _ (λ _. turn-places f.console f.rows (held_text f.held)) (λ _. refl)

fed-places : (s : List ℕ) (f : Fed) → length (fed f s).rows.nums ≡ length f.rows.nums
unfolding fed
fed-places [] f = refl
fed-places (b ∷ s) f = fed-places s (fed_byte f b) ∙ byte-places f b

-- with room for a line at each byte all is taken
fill-all : (need room : ℕ) (s : List ℕ) (f : Fed) (n : ℕ) → need ≡ line_room (length f.rows.nums) → length f.text + need * length s ≤ room
    → (filled need room f n s ≡ record { fed = fed f s; taken = n + length s }) × (length (fed f s).text ≤ length f.text + need * length s)
unfolding filled fed
fill-all need room [] f n e h = (rw (add-zero n), omega arith)
fill-all need room (b ∷ s) f n e h =
    let few = byte-few f b in
    let rest = fill-all need room s (fed_byte f b) (n + 1) (e ∙ ap line_room (sym (byte-places f b))) (omega (arith, few, e)) in
    let here : length f.text + need ≤ room = omega arith in
    let k : n + 1 + length s ≡ n + suc (length s) = omega arith in
    (rw (le-leb _ _ here) (rest.0 ∙ ap (λ (m : ℕ). record { fed = fed (fed_byte f b) s; taken = m }) k), omega (arith, few, e, rest.1))

-- what was printed before stays in front
finished-front : (f : Fed) → (finished f).text ≡ f.text ++ (finished (before f.console f.held f.rows)).text
unfolding finished ended
finished-front f = go (ltb 0 f.held.len)
  where
    go : (b : Bool) → (cond b (ended f) f).text ≡ f.text ++ (cond b (ended (before f.console f.held f.rows)) (before f.console f.held f.rows)).text
    go true = refl
    go false = sym (append-nil f.text)

finished-rows : (f : Fed) → (finished f).rows ≡ (finished (before f.console f.held f.rows)).rows
unfolding finished ended
finished-rows f = go (ltb 0 f.held.len)
  where
    go : (b : Bool) → (cond b (ended f) f).rows ≡ (cond b (ended (before f.console f.held f.rows)) (before f.console f.held f.rows)).rows
    go true = refl
    go false = refl

module _ (t : Rows) (input out : List ℕ) (need : ℕ) (en : need ≡ line_room (length t.nums)) where
  pub run-refused : length out / need ≤ length input → (rows : Rows) → rows ≡ t → (o : List ℕ) → o ≡ out
      → ◌≡◌ {A = Run} (record { size = None; rows = rows; out = o }) (run_all t input out)
  unfolding run_all
  run-refused h rows er o eo =
      let less : length out < need * (length input + 1)
      = omega (arith, div-add-mod' (length out) need, mod-lt (length out) (room-positive need (length t.nums) en), mul-le-mul_right need h) in
      rw (← en, lt-leb _ _ less, er, eo)

  module _ (room : length input < length out / need) where
    enough : need * (length input + 1) ≤ length out
    enough = omega (arith, div-mul-le_self (length out) need, mul-le-mul_right need room)

    module _ (x : Console) (h : Held) (ex : x ≡ new_console) (eh : h ≡ new_held) (p : Part) (fed₁ : p ≡ feed_part x h t input out) where
      abbrev all : Fed
      all = fed (new_fed t) input

      taken-all : (filled need (length out) (new_fed t) 0 input ≡ record { fed = all; taken = 0 + length input }) × (length all.text ≤ 0 + need * length input)
      taken-all = fill-all need (length out) input (new_fed t) 0 en (omega (arith, enough))

      first_part : p ≡ printed_at out 0 (record { fed = all; taken = 0 + length input })
      unfolding feed_part
      first_part =
          fed₁ ∙ ap (λ (c : Console). feed_part c h t input out) ex ∙ ap (λ (l : Held). feed_part new_console l t input out) eh
          ∙ ap (λ (n : ℕ). printed_at out 0 (filled n (length out) (new_fed t) 0 input)) (sym en) ∙ ap (printed_at out 0) taken-all.0

      shown : p.out ≡ over out 0 all.text
      shown = ap (λ (x : Part). x.out) first_part

      size : p.size ≡ length all.text
      size = ap (λ (x : Part). x.size) first_part ∙ zero-add (length all.text)

      fit : 0 + length all.text ≤ length out
      fit = omega (arith, taken-all.1, enough)

      places-all : length p.rows.nums ≡ length t.nums
      places-all = ap (λ (x : Part). length x.rows.nums) first_part ∙ fed-places input (new_fed t)

      pub last-room : p.size + line_room (length p.rows.nums) ≤ length p.out
      last-room = omega (arith, size, taken-all.1, enough, ap length shown, over-length out 0 all.text fit, en, ap line_room places-all)

      pub run-whole : (q : Part) → q ≡ last_part p.console p.held p.rows p.out p.size
          → ◌≡◌ {A = Run} (record { size = Some q.size; rows = q.rows; out = q.out }) (run_all t input out)
      unfolding run_all last_part
      run-whole q e =
          let rest : Fed = finished (before p.console p.held p.rows) in
          let same : before all.console all.held all.rows ≡ before p.console p.held p.rows
          = ap (λ (x : Part). before x.console x.held x.rows) (sym first_part) in
          let whole : session_text t input ≡ all.text ++ rest.text
          = sym (session-fed t input) ∙ finished-front all ∙ ap (λ (f : Fed). all.text ++ (finished f).text) same in
          let rows : (finished all).rows ≡ q.rows = finished-rows all ∙ ap (λ (f : Fed). (finished f).rows) same ∙ ap (λ (x : Part). x.rows) (sym e) in
          let text : q.out ≡ over out 0 (all.text ++ rest.text)
          = ap (λ (x : Part). x.out) e ∙ ap (λ (r : List ℕ). over r p.size rest.text) shown
          ∙ ap (λ (i : ℕ). over (over out 0 all.text) i rest.text) (size ∙ sym (zero-add (length all.text)))
          ∙ over-over out 0 all.text fit rest.text in
          let long : q.size ≡ length (all.text ++ rest.text)
          = ap (λ (x : Part). x.size) e ∙ ap (λ (i : ℕ). i + length rest.text) size ∙ sym (length-append all.text rest.text) in
          rw (← en, le-leb _ _ enough, whole, rows, ← text, ← long)

pub ruleset finish_laws = (last_none, last_line, line-new)
