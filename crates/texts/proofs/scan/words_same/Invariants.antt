-- The invariant: whole words are passed, and what is left of them decides.
use Rattle.std.proofs.Common.{◌≡◌, ◌≤◌, ◌-◌, ◌%◌, length, drop}
use Rattle.texts.specs.Lists.{eq_list}
use Rattle.texts.specs.Words.{whole_words}
use Rattle.texts.proofs.scan.words_same.Given as goal

abbrev pub invariant-loop-i : goal.invariant-loop-i
invariant-loop-i l = (l.i ≤ length l.a) × (l.i % 8 ≡ 0) × (eq_list (whole_words l.a) (whole_words l.b) ≡ eq_list (drop l.i (whole_words l.a)) (drop l.i (whole_words l.b)))

abbrev pub decreases-loop-i : goal.decreases-loop-i
decreases-loop-i l = length l.a - l.i
