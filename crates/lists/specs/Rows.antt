-- Rows that are lent as one value.
use Rattle.std.specs.Prelude.{◌≡◌}
use Rattle.lists.specs.declared.rows.Rows.{Rows}
use Rattle.lists.specs.declared.rows.RowsView.{RowsView}

-- a view holds what the rows hold
pub record IsView {N D : Type 0} (lent : Rows N D) (view : RowsView N D) : Type 0 where
  pub nums : view.nums.now ≡ lent.nums.now
  pub numbers : view.numbers.now ≡ lent.numbers.now
  pub dates : view.dates.now ≡ lent.dates.now

-- rows that are handed on to be written are the same slices afterwards, whatever these hold: their owner has them back
pub record SameLoan {N D : Type 0} (before after : Rows N D) : Type 0 where
  pub nums : after.nums.ghost_name ≡ before.nums.ghost_name
  pub numbers : after.numbers.ghost_name ≡ before.numbers.ghost_name
  pub dates : after.dates.ghost_name ≡ before.dates.ghost_name
