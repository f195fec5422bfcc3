use Rattle.std.proofs.Common.{◌≡◌, ◌+◌, ◌≤◌, length, drop}
use Rattle.registry.specs.Registry.{line_end}
use Rattle.registry.proofs.text.end_of_line.Given as goal

abbrev pub invariant-loop-i : goal.invariant-loop-i
invariant-loop-i l = (l.i ≤ length l.s) × (l.at + line_end (drop l.at l.s) ≡ l.i + line_end (drop l.i l.s))
