use Rattle.std.proofs.Common.{◌≡◌, ◌&&◌, take, drop}
use Rattle.texts.specs.Lists.{every}
use Rattle.texts.proofs.PassLaws.{is_other}
use Rattle.texts.proofs.scan.none_near.Given as goal

abbrev pub invariant-loop-j : goal.invariant-loop-j
invariant-loop-j l =
    every (is_other l.b) (take 16 (drop l.i l.s)) ≡ l.none && every (is_other l.b) (drop l.j (take 16 (drop l.i l.s)))
