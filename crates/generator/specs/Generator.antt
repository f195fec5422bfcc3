-- Document 02, [4]: the values that a load is drawn from, each made from the one before.
use Rattle.std.specs.Prelude.{ℕ, zero, suc, ◌+◌, ◌*◌, ◌/◌, ◌%◌, ◌^◌}
use Rattle.generator.specs.declared.Rolls.{Rolls}

-- wrapped to 64 bits
unfoldable pub next_value : ℕ → ℕ
next_value v = (v * 6364136223846793005 + 1442695040888963407) % 2 ^ 64

-- a roll is the upper 32 bits of a value
unfoldable pub roll_of : ℕ → ℕ
roll_of v = v / 2 ^ 32

-- the value so many after v
unfoldable pub value_after : ℕ → ℕ → ℕ
value_after zero v = v
value_after (suc k) v = value_after k (next_value v)

-- a step takes the rolls of the four values after v, not of v itself, and the next step goes on from the fourth
unfoldable pub rolls_from : ℕ → Rolls
rolls_from v =
    record {
      step = roll_of (value_after 1 v);
      account = roll_of (value_after 2 v);
      receipt = roll_of (value_after 3 v);
      kopecks = roll_of (value_after 4 v);
      next = value_after 4 v;
    }
