use Rattle.std.proofs.Common.{◌≡◌, drop}
use Rattle.texts.specs.Lists.{eq_list}
use Rattle.texts.proofs.scan.rest_same.Given as goal

abbrev pub invariant-loop-i : goal.invariant-loop-i
invariant-loop-i l = eq_list (drop l.from l.a) (drop l.from l.b) ≡ eq_list (drop l.i l.a) (drop l.i l.b)
