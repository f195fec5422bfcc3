-- What is held of a line that has not ended, in a fixed number of bytes.
-- A field is held to 31 bytes, one more than the longest form of any; the parameters of an R to 2,049; fields to the fifth. `console/proofs/HeldLaws` shows that a line's turn depends on no more.
use Rattle.std.specs.Prelude.{ℕ, ◌+◌, List, [], ◌∷◌, Bool, cond, ◌&&◌, eqb, leb, ltb, get_or, set, take, replicate}
use Rattle.gathering.specs.declared.Mark.{Mark}

-- a row of bytes, how many of its first a line has there, how many spaces of these split fields, and how many of these are of the last field
pub record Held : Type 0 where
  pub bytes : List ℕ
  pub len : ℕ
  pub spaces : ℕ
  pub run : ℕ

-- the line that stands so in lent bytes
abbrev pub held_of : List ℕ → Mark → Held
held_of bytes m = record { bytes = bytes; len = m.len; spaces = m.spaces; run = m.run }

-- where a new line stands
abbrev pub new_mark : Mark
new_mark = record { len = 0; spaces = 0; run = 0 }

-- before anything is held
abbrev pub new_held : Held
new_held = record { bytes = replicate 2177 0; len = 0; spaces = 0; run = 0 }

-- the bytes that are held
abbrev pub held_text : Held → List ℕ
held_text h = take h.len h.bytes

-- one byte more; a full row takes none
unfoldable pub pushed : Held → ℕ → ℕ → ℕ → Held
pushed h b spaces run =
    cond (ltb h.len 2177) (record { bytes = set h.bytes h.len b; len = h.len + 1; spaces = spaces; run = run }) h

-- whether the parameters of an R have begun
unfoldable pub in_params : Held → Bool
in_params h = eqb (get_or h.bytes 0 0) 82 && leb 2 h.spaces

-- the line with one byte more
unfoldable pub absorbed : Held → ℕ → Held
absorbed h b =
    cond (in_params h)
    (cond (ltb h.run 2049) (pushed h b h.spaces (h.run + 1)) h)
    (cond (eqb b 32)
    (cond (ltb h.spaces 4) (pushed h b (h.spaces + 1) 0) h)
    (cond (ltb h.run 31) (pushed h b h.spaces (h.run + 1)) h))

-- the line with the bytes of s more
unfoldable pub absorb_all : Held → List ℕ → Held
absorb_all h [] = h
absorb_all h (b ∷ s) = absorb_all (absorbed h b) s

-- a new line
abbrev pub emptied : Held → Held
emptied h = record { bytes = h.bytes; len = 0; spaces = 0; run = 0 }
