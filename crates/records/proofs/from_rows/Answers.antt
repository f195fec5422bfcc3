use Rattle.std.proofs.Common.{refl, add-one}
use Rattle.records.specs.Copying.{restored}
use Rattle.records.proofs.from_rows.Goals as goal

pub loop-i-init : goal.loop-i-init
unfolding restored
loop-i-init c = refl

pub loop-i-preserved : goal.loop-i-preserved
unfolding restored
loop-i-preserved c = rw (add-one, c.load.ensures.value, ← c.loop-i.invariant)
