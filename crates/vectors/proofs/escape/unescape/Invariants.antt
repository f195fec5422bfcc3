-- The invariant: writing what the bytes that are left give is the whole.
use Rattle.std.proofs.Common.{◌≡◌, ◌≤◌, ◌-◌, ◌+◌, length, drop}
use Rattle.texts.specs.Lists.{over}
use Rattle.vectors.specs.Escapes.{unescaped}
use Rattle.vectors.proofs.escape.unescape.Given as goal

abbrev pub invariant-loop-i : goal.invariant-loop-i
invariant-loop-i l =
    (l.j ≤ l.i) × (length l.dst ≡ length l.fn.dst)
    × (length (unescaped l.s) ≡ l.j + length (unescaped (drop l.i l.s))) × (over l.fn.dst 0 (unescaped l.s) ≡ over l.dst l.j (unescaped (drop l.i l.s)))

abbrev pub decreases-loop-i : goal.decreases-loop-i
decreases-loop-i l = length l.s - l.i
