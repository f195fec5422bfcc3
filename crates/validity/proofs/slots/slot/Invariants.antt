use Prim.Native.Nat.{◌<◌}
use Rattle.validity.proofs.slots.slot.Given as goal

abbrev pub invariant-loop-k : goal.invariant-loop-k
invariant-loop-k l = l.h < 4096
