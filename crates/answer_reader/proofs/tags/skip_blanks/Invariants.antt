use Rattle.std.proofs.Common.{◌≡◌, drop}
use Rattle.answer_reader.specs.AnswerRead.{skip_blanks}
use Rattle.answer_reader.proofs.tags.skip_blanks.Given as goal

abbrev pub invariant-loop-i : goal.invariant-loop-i
invariant-loop-i l = skip_blanks l.t ≡ skip_blanks (drop l.i l.t)
