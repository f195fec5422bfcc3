-- How a session reads its input a part at a time.
use Rattle.std.specs.Prelude.{ℕ, ◌+◌, ◌*◌, List, [], ◌∷◌, ◌++◌, cond, eqb, leb, ltb, length}
use Rattle.table.specs.Table.{Rows}
use Rattle.orders.specs.Order.{Console}
use Rattle.gathering.specs.Held.{Held}
use Rattle.gathering.specs.Held.{held_text, absorbed, emptied}
use Rattle.orders.specs.Order.{line_turn, turn_text}

-- ---- the input, byte by byte
pub record Fed : Type 0 where
  pub console : Console
  pub held : Held
  pub rows : Rows
  pub text : List ℕ

-- a line that has ended: its turn, and what it prints behind what was printed before
unfoldable pub ended : Fed → Fed
ended f =
    let r = line_turn f.console f.rows (held_text f.held) in
    record { console = r.console; held = emptied f.held; rows = r.rows; text = f.text ++ turn_text r }

unfoldable pub fed_byte : Fed → ℕ → Fed
fed_byte f b =
    cond (eqb b 10) (ended f) (record { console = f.console; held = absorbed f.held b; rows = f.rows; text = f.text })

unfoldable pub fed : Fed → List ℕ → Fed
fed f [] = f
fed f (b ∷ s) = fed (fed_byte f b) s

-- the end of the input: a last line without 0A is read too
unfoldable pub finished : Fed → Fed
finished f = cond (ltb 0 f.held.len) (ended f) f

-- ---- a part of the input, taken as far as there is room for what a line can print
-- 64 bytes for each line that it prints: P prints one for each record, of which a table has at most 4,096, and two more
unfoldable pub line_room : ℕ → ℕ
line_room records = 64 * (cond (ltb records 4096) records 4096 + 2)

pub record Fill : Type 0 where
  pub fed : Fed
  pub taken : ℕ

-- `need` is that room, n the number of bytes taken before
unfoldable pub filled : ℕ → ℕ → Fed → ℕ → List ℕ → Fill
filled need room f n [] = record { fed = f; taken = n }
filled need room f n (b ∷ s) =
    cond (leb (length f.text + need) room) (filled need room (fed_byte f b) (n + 1) s) (record { fed = f; taken = n })
