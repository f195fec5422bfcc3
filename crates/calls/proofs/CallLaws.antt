-- A call that row 68 refuses.
use Prim.Native.Nat.{ℕ}
use mathlib.Core.Path.{◌≡◌}
use mathlib.Core.Bool.{false}
use mathlib.Core.List.{List}
use Rattle.table.specs.declared.Gate.{Gate}
use Rattle.table.specs.Table.{Rows}
use Rattle.validity.specs.Valid.{table_good}
use Rattle.opening.specs.Opening.{open_account, draw_funds}
use Rattle.gate.specs.Deliver.{deliver}
use Rattle.admission.specs.Delivery.{undelivered}
use Rattle.settlement.specs.Settle.{settle}
use Rattle.calls.specs.declared.Call.{Call}
use Rattle.calls.specs.declared.Call.TheVariants.{Request, Registry, Opening, Drawing}
use Rattle.calls.specs.Calls.{call_on}

-- a table that is not good: 68, and all is kept
pub call-refused : (g : Gate) (c : Call) (text out : List ℕ) (t : Rows) → table_good g t ≡ false → call_on g c text out t ≡ undelivered 68 g t out
unfolding call_on deliver settle open_account draw_funds
call-refused g (Request clock) text out t h = rw h
call-refused g (Registry clock day) text out t h = rw h
call-refused g (Opening number kind) text out t h = rw h
call-refused g (Drawing number kind kopecks) text out t h = rw h
