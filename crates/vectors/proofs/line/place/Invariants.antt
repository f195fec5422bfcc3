use Rattle.std.proofs.Common.{◌≡◌, ◌≤◌, ◌-◌, ◌+◌, length}
use Rattle.vectors.specs.Lines.{place_of, spaced}
use Rattle.vectors.proofs.LineLaws.{words_from}
use Rattle.vectors.proofs.line.place.Given as goal

abbrev pub invariant-loop-at : goal.invariant-loop-at
invariant-loop-at l =
    (l.at ≤ length l.words + 1) × (l.i ≤ l.at) × (place_of l.word (spaced l.words) ≡ l.i + place_of l.word (words_from l.at l.words))

abbrev pub decreases-loop-at : goal.decreases-loop-at
decreases-loop-at l = (length l.words + 1) - l.at
