use Rattle.directory.specs.Directory.{Digests, Filled}
use Rattle.directory.proofs.fill.Given as goal

abbrev pub invariant-loop-i : goal.invariant-loop-i
invariant-loop-i l = Filled l.names l.keys l.fn.g l.i × Digests l.names l.keys l.i
