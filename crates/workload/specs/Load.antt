-- Document 02, [4]: the text of a load, and what a call writes of it into a lent buffer.
use Rattle.std.specs.Prelude.{ℕ, zero, suc, ◌-◌, List, [], ◌++◌, cond, leb, length}
use Rattle.texts.specs.Lists.{over}
use Rattle.generator.specs.Generator.{value_after}
use Rattle.workload.specs.declared.load.Written.{Written}
use Rattle.workload.specs.Given.{Load, is_load}
use Rattle.workload.specs.Lines.{line_after}

-- four values a step
unfoldable pub after_steps : ℕ → ℕ → ℕ
after_steps zero v = v
after_steps (suc n) v = after_steps n (value_after 4 v)

-- the lines of n steps
unfoldable pub lines_from : Load → ℕ → ℕ → List ℕ
lines_from l zero v = []
lines_from l (suc n) v = line_after l v ++ lines_from l n (value_after 4 v)

-- how many steps are written, of so many at most: it stops before the first whose line does not fit what is left
unfoldable pub steps_within : Load → ℕ → ℕ → ℕ → ℕ
steps_within l zero room v = 0
steps_within l (suc most) room v =
    cond (leb (length (line_after l v)) room) (suc (steps_within l most (room - length (line_after l v)) (value_after 4 v))) 0

-- ---- a call
-- its code, the bytes and steps written, the value that a second call goes on from, and the buffer after it
pub record Filled : Type 0 where
  pub code : ℕ
  pub size : ℕ
  pub steps : ℕ
  pub next : ℕ
  pub buffer : List ℕ

abbrev pub filled_of : Written → List ℕ → Filled
filled_of r d = record { code = r.code; size = r.size; steps = r.steps; next = r.next; buffer = d }

abbrev pub filled_by : Load → ℕ → List ℕ → ℕ → Filled
filled_by l v d n =
    record { code = 0; size = length (lines_from l n v); steps = n; next = after_steps n v; buffer = over d 0 (lines_from l n v) }

-- of a malformed load nothing is written
abbrev pub not_filled : ℕ → List ℕ → Filled
not_filled v d = record { code = 60; size = 0; steps = 0; next = v; buffer = d }

-- at most so many steps
unfoldable pub write_steps : Load → ℕ → ℕ → List ℕ → Filled
write_steps l most v d = cond (is_load l) (filled_by l v d (steps_within l most (length d) v)) (not_filled v d)

-- all that fit: a line has a byte at least, so no buffer holds more lines than bytes
unfoldable pub write_load : Load → ℕ → List ℕ → Filled
write_load l v d = write_steps l (length d) v d
