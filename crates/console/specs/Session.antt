-- Document 01, the session program: all of its input to all of its output, line by line.
use Rattle.std.specs.Prelude.{ℕ, List, [], ◌∷◌, ◌++◌, false, pos, replicate}
use Rattle.fields.specs.Number.{empty_number}
use Rattle.coding.specs.Params.{split_at}
use Rattle.table.specs.declared.Gate.{Gate}
use Rattle.table.specs.Table.{Rows}
use Rattle.orders.specs.declared.ConsoleHead.{ConsoleHead}
use Rattle.orders.specs.Order.{Console}
use Rattle.gathering.specs.Held.{new_held}
use Rattle.orders.specs.Order.{line_turn, turn_text}
use Rattle.console.specs.Feed.{Fed}

-- the lines, ended by 0A (10); an empty rest behind the last is none
unfoldable pub lines_in : List (List ℕ) → List (List ℕ)
lines_in [] = []
lines_in ([] ∷ []) = []
lines_in ((b ∷ l) ∷ []) = (b ∷ l) ∷ []
lines_in (l ∷ (m ∷ ls)) = l ∷ lines_in (m ∷ ls)

-- what the lines print, one after the other
unfoldable pub lines_text : Console → Rows → List (List ℕ) → List ℕ
lines_text x t [] = []
lines_text x t (l ∷ ls) = let r = line_turn x t l in turn_text r ++ lines_text r.console r.rows ls

-- no accounts and no record used; the closed day is that of the first readable C
abbrev pub empty_gate : Gate
empty_gate =
    record {
      accounts = replicate 256 (record { number = empty_number; kind = 0; balance = pos 0 });
      count = 0;
      closed = record { year = 0; month = 0; day = 0 };
      used = 0;
    }

abbrev pub new_console : Console
new_console = record { started = false; gate = empty_gate }

-- the same without its accounts
abbrev pub new_head : ConsoleHead
new_head = record { started = false; head = record { count = 0; closed = record { year = 0; month = 0; day = 0 }; used = 0 } }

unfoldable pub session_text : Rows → List ℕ → List ℕ
session_text t s = lines_text new_console t (lines_in (split_at 10 s))

-- the start of a session that is fed in parts
abbrev pub new_fed : Rows → Fed
new_fed t = record { console = new_console; held = new_held; rows = t; text = [] }
