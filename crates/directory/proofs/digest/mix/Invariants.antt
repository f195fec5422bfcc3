use Prim.Native.Nat.{◌<◌}
use mathlib.Core.Path.{◌≡◌}
use lib.ListN.{drop}
use Rattle.directory.specs.Directory.{mixed}
use Rattle.directory.proofs.digest.mix.Given as goal

abbrev pub invariant-loop-b : goal.invariant-loop-b
invariant-loop-b l = (l.x < 4294967296) × (mixed l.h l.s ≡ mixed l.x (drop l.b-index l.s))
