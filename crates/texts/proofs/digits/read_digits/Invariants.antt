use Rattle.std.proofs.Common.{◌≡◌, ◌^◌, ◌<◌, drop}
use Rattle.texts.specs.Lists.{every}
use Rattle.texts.specs.Digits.{is_digit, value_after}
use Rattle.texts.proofs.digits.read_digits.Given as goal

abbrev pub invariant-loop-b : goal.invariant-loop-b
invariant-loop-b l =
    (l.value < 2 ^ 64) × (every is_digit l.s ≡ every is_digit (drop l.b-index l.s)) × (value_after 0 l.s ≡ value_after l.value (drop l.b-index l.s))
