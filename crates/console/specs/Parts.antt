-- The calls of a session: a part of its input, the end of its input, or all of it at once.
use Rattle.std.specs.Prelude.{ℕ, ◌+◌, ◌*◌, ◌≡◌, List, [], Option, Some, None, cond, leb, length}
use Rattle.texts.specs.Lists.{over}
use Rattle.table.specs.Table.{Rows}
use Rattle.orders.specs.Order.{Console}
use Rattle.gathering.specs.Held.{Held}
use Rattle.table.specs.Columns.{Columns}
use Rattle.orders.specs.declared.turn.Shown.{Shown}
use Rattle.orders.specs.declared.turn.Shown.TheVariants.{Figures, Payments}
use Rattle.orders.specs.Order.{console_of, line_turn, turn_text}
use Rattle.figures.specs.Listing.{Payable}
use Rattle.gathering.specs.Held.{held_of, held_text}
use Rattle.console.specs.Feed.{Fed, fed, finished, line_room, Fill, filled}
use Rattle.console.specs.Session.{new_fed, session_text}
use Rattle.console.specs.declared.feed.Part.{Part as GivenPart}

-- what a part leaves: the session, the buffer with what it prints, the cursor behind that, and how much of the part was taken
pub record Part : Type 0 where
  pub console : Console
  pub held : Held
  pub rows : Rows
  pub out : List ℕ
  pub size : ℕ
  pub taken : ℕ

abbrev pub part_of : GivenPart → Columns → List ℕ → Rows → List ℕ → Part
part_of r a bytes rows out = record { console = console_of r.console a; held = held_of bytes r.mark; rows = rows; out = out; size = r.size; taken = r.taken }

abbrev pub before : Console → Held → Rows → Fed
before x h t = record { console = x; held = h; rows = t; text = [] }

abbrev pub printed_at : List ℕ → ℕ → Fill → Part
printed_at out at x =
    record {
      console = x.fed.console;
      held = x.fed.held;
      rows = x.fed.rows;
      out = over out at x.fed.text;
      size = at + length x.fed.text;
      taken = x.taken;
    }

unfoldable pub feed_part : Console → Held → Rows → List ℕ → List ℕ → Part
feed_part x h t input out = printed_at out 0 (filled (line_room (length t.nums)) (length out) (before x h t) 0 input)

-- the end, printed at a cursor
unfoldable pub last_part : Console → Held → Rows → List ℕ → ℕ → Part
last_part x h t out at = printed_at out at (record { fed = finished (before x h t); taken = 0 })

-- ---- a whole session: how many bytes it printed; a buffer without room for a line at each byte and one more is refused
pub record Run : Type 0 where
  pub size : Option ℕ
  pub rows : Rows
  pub out : List ℕ

abbrev pub run_of : Option ℕ → Rows → List ℕ → Run
run_of size rows out = record { size = size; rows = rows; out = out }

unfoldable pub run_all : Rows → List ℕ → List ℕ → Run
run_all t input out =
    cond (leb (line_room (length t.nums) * (length input + 1)) (length out))
    (record { size = Some (length (session_text t input)); rows = (finished (fed (new_fed t) input)).rows; out = over out 0 (session_text t input) })
    (record { size = None; rows = t; out = out })

-- ---- a line that has ended, printed at the cursor
pub record EndedAt (x : Console) (h : Held) (t : Rows) (d : List ℕ) (at : ℕ) (console : Console) (rows : Rows) (out : List ℕ) (size : ℕ) : Type 0 where
  pub consoles : console ≡ (line_turn x t (held_text h)).console
  pub left : rows ≡ (line_turn x t (held_text h)).rows
  pub buffer : out ≡ over d at (turn_text (line_turn x t (held_text h)))
  pub cursor : size ≡ at + length (turn_text (line_turn x t (held_text h)))

-- ---- what printing a line rests on
abbrev pub Showable : Shown → Rows → ℕ → Type 0
Showable Figures t used = Unit {0}
Showable (Payments d) t used = Payable t used
