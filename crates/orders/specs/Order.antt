-- Document 01, the session program: one line of input, and what it does.
use Rattle.days.specs.declared.calendar.Day.{Day}
use Rattle.std.specs.Prelude.{ℕ, List, Bool, true, cond, ◌&&◌, eqb, leb, replicate, Option, Some, None}
use Rattle.texts.specs.Digits.{digits_read}
use Rattle.fields.specs.Codes.{kind_read}
use Rattle.std.specs.Option.{unwrap_or}
use Rattle.fields.specs.declared.number.Number.{Number}
use Rattle.fields.specs.Number.{empty_number, number_read}
use Rattle.days.specs.Calendar.{day_fault, day_read}
use Rattle.dates.specs.Date.{empty_date, date_read}
use Rattle.table.specs.declared.Gate.{Gate}
use Rattle.table.specs.Table.{Rows, records_of}
use Rattle.table.specs.Columns.{Columns, gate_of}
use Rattle.table.specs.Accounts.{with_closed}
use Rattle.validity.specs.Valid.{table_good}
use Rattle.ledger.specs.declared.Reply.{Reply}
use Rattle.opening.specs.Opening.{open_account, draw_funds}
use Rattle.gate.specs.Deliver.{deliver}
use Rattle.admission.specs.Delivery.{Delivery}
use Rattle.line_fields.specs.LineFields.{field_count, field_at, has_letter, params_in}
use Rattle.figures.specs.Figures.{printed}
use Rattle.figures.specs.Daily.{day_text}
use Rattle.orders.specs.declared.ConsoleHead.{ConsoleHead}
use Rattle.orders.specs.declared.turn.Shown.{Shown}
use Rattle.orders.specs.declared.turn.Shown.TheVariants.{Figures, Payments}
use Rattle.orders.specs.declared.turn.Turn.{Turn as Given}

-- the gate of a session, once a closed day has started it; its accounts are lent in columns
pub record Console : Type 0 where
  pub started : Bool
  pub gate : Gate

abbrev pub console_of : ConsoleHead → Columns → Console
console_of x a = record { started = x.started; gate = gate_of x.head a }

-- ---- what a line does
-- its code, or 99; the console and the rows after it; what of them it prints
pub record Turn : Type 0 where
  pub code : ℕ
  pub console : Console
  pub rows : Rows
  pub shown : Shown

abbrev pub turn_of : Given → Columns → Rows → Turn
turn_of r a rows = record { code = r.code; console = console_of r.console a; rows = rows; shown = r.shown }

abbrev pub unread : Console → Rows → Turn
unread x t = record { code = 99; console = x; rows = t; shown = Figures }

abbrev pub replied : Rows → Reply → Turn
replied t r = record { code = r.code; console = record { started = true; gate = r.gate }; rows = t; shown = Figures }

-- C day: a day that is a date starts the session, and a day that is none is 99
abbrev pub start_at : Console → Option Day → Console
start_at x None = x
start_at x (Some d) = record { started = true; gate = with_closed x.gate d }

abbrev pub start_on : Console → Rows → Option Day → Turn
start_on x t d = record { code = day_fault 99 d; console = start_at x d; rows = t; shown = Figures }

unfoldable pub start_turn : Console → Rows → List ℕ → Turn
start_turn x t l = cond (has_letter 67 l && eqb (field_count l) 2) (start_on x t (day_read (field_at 1 l))) (unread x t)

-- the account that a line names: a number that is malformed is one without bytes, and a type that is malformed one that there is not
abbrev pub number_in : List ℕ → Number
number_in l = unwrap_or (number_read (field_at 1 l)) empty_number

abbrev pub kind_in : List ℕ → ℕ
kind_in l = unwrap_or (kind_read (field_at 2 l)) 1000

-- O number type
unfoldable pub open_turn : Console → Rows → List ℕ → Turn
open_turn x t l = replied t (open_account x.gate t (number_in l) (kind_in l))

-- D number type kopecks: kopecks are 1 to 15 digits
abbrev pub draw_of : Console → Rows → List ℕ → Option ℕ → Turn
draw_of x t l None = unread x t
draw_of x t l (Some n) = replied t (draw_funds x.gate t (number_in l) (kind_in l) n)

unfoldable pub draw_turn : Console → Rows → List ℕ → Turn
draw_turn x t l = draw_of x t l (digits_read 15 (field_at 3 l))

-- R clock parameters: the answer goes into a buffer of 512 bytes
abbrev pub answered : Delivery → Turn
answered d = record { code = d.code; console = record { started = true; gate = d.gate }; rows = d.rows; shown = Figures }

-- a clock that is malformed is nineteen zeros
abbrev pub clock_in : List ℕ → List ℕ
clock_in l = unwrap_or (date_read (field_at 1 l)) empty_date

unfoldable pub ask_turn : Console → Rows → List ℕ → Turn
ask_turn x t l = answered (deliver x.gate t (clock_in l) (params_in l) (replicate 512 0))

-- P day: a day that is a date is printed; as with every call, not from a table that is out of its ranges
abbrev pub list_of : Console → Rows → Option Day → Turn
list_of x t None = unread x t
list_of x t (Some d) =
    cond (table_good x.gate t) (record { code = 0; console = x; rows = t; shown = Payments d }) (record { code = 68; console = x; rows = t; shown = Figures })

unfoldable pub list_turn : Console → Rows → List ℕ → Turn
list_turn x t l = list_of x t (day_read (field_at 1 l))

-- the letter decides; another letter or field count is 99, and so is every C of a started session
unfoldable pub order_turn : Console → Rows → List ℕ → Turn
order_turn x t l =
    cond (has_letter 79 l && eqb (field_count l) 3) (open_turn x t l)
    (cond (has_letter 68 l && eqb (field_count l) 4) (draw_turn x t l)
    (cond (has_letter 82 l && leb 3 (field_count l)) (ask_turn x t l)
    (cond (has_letter 80 l && eqb (field_count l) 2) (list_turn x t l) (unread x t))))

unfoldable pub line_turn : Console → Rows → List ℕ → Turn
line_turn x t l = cond x.started (order_turn x t l) (start_turn x t l)

-- what it prints: the usual line, or the payments of a day
unfoldable pub shown_text : Shown → ℕ → Gate → Rows → List ℕ
shown_text Figures code g t = printed code g
shown_text (Payments d) code g t = day_text d (records_of t g.used)

abbrev pub turn_text : Turn → List ℕ
turn_text r = shown_text r.shown r.code r.console.gate r.rows
