-- What is left to gather gives the whole.
use mathlib.Core.Path.{◌≡◌}
use Rattle.std.proofs.Common.{◌+◌, drop}
use Rattle.gathering.specs.Held.{held_of}
use Rattle.gathering.specs.Gather.{Gathered, gathered}
use Rattle.gathering.proofs.gather.Given as goal

abbrev pub invariant-loop-i : goal.invariant-loop-i
invariant-loop-i l =
    ◌≡◌ {A = Gathered} (gathered (held_of l.fn.bytes l.fn.m) l.rest l.at) (gathered (held_of l.bytes l.mark) (drop l.i l.rest) (l.at + l.i))
