-- The bytes of a line gathered from a part of the input: what one byte does to the numbers of a held line, and all of them up to the line's end. Cited by inner contracts only: it needs no belief.
use Rattle.std.specs.Prelude.{ℕ, ◌+◌, List, Bool, cond, ◌&&◌, eqb, leb, ltb, length, take, Option, Some, None}
use Rattle.texts.specs.Lists.{find}
use Rattle.gathering.specs.declared.Mark.{Mark}
use Rattle.gathering.specs.declared.Gathered.{Gathered as Given}
use Rattle.gathering.specs.Held.{Held, held_of, absorb_all}

-- a mark with one byte more, which is held, and the spaces and the run after it
abbrev pub taken : Mark → ℕ → ℕ → Option Mark
taken m k n = Some (record { len = m.len + 1; spaces = k; run = n })

unfoldable pub asks_at : ℕ → ℕ → Bool
asks_at first k = eqb first 82 && leb 2 k

-- the byte b behind the line that stands at m and begins with `first`; none where it is not held
unfoldable pub step_of : ℕ → Mark → ℕ → Option Mark
step_of first m b =
    cond (ltb m.len 2177)
    (cond (asks_at first m.spaces)
    (cond (ltb m.run 2049) (taken m m.spaces (m.run + 1)) None)
    (cond (eqb b 32)
    (cond (ltb m.spaces 4) (taken m (m.spaces + 1) 0) None)
    (cond (ltb m.run 31) (taken m m.spaces (m.run + 1)) None)))
    None

-- a held line, where the input is read on, and whether the line has ended
pub record Gathered : Type 0 where
  pub held : Held
  pub at : ℕ
  pub ended : Bool

-- what a call gives, with the bytes that it leaves
abbrev pub gathered_of : Given → List ℕ → Gathered
gathered_of r bytes = record { held = held_of bytes r.mark; at = r.at; ended = r.ended }

-- s is the input from `at` on: its bytes up to the first 0A (10), which is passed over, or all
unfoldable pub gathered : Held → List ℕ → ℕ → Gathered
gathered h s at =
    record {
      held = absorb_all h (take (find 10 s) s);
      at = cond (ltb (find 10 s) (length s)) (at + (find 10 s + 1)) (at + find 10 s);
      ended = ltb (find 10 s) (length s);
    }
