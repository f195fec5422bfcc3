-- The invariant: writing what the units that are left stand for gives the whole.
use Rattle.std.proofs.Common.{◌≡◌, ◌≤◌, ◌-◌, ◌+◌, length, drop}
use Rattle.texts.specs.Lists.{over}
use Rattle.coding.specs.Url.{decoded}
use Rattle.coding.proofs.url.decode.Given as goal

abbrev pub invariant-loop-i : goal.invariant-loop-i
invariant-loop-i l =
    (l.i ≤ length l.s) × (l.j ≤ l.i) × (length l.dst ≡ length l.fn.dst)
    × (length (decoded l.s) ≡ l.j + length (decoded (drop l.i l.s))) × (over l.fn.dst 0 (decoded l.s) ≡ over l.dst l.j (decoded (drop l.i l.s)))

abbrev pub decreases-loop-i : goal.decreases-loop-i
decreases-loop-i l = length l.s - l.i
