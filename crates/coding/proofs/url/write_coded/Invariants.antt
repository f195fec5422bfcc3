-- The invariant: writing what is left at the cursor gives the whole writing.
use Rattle.std.proofs.Common.{◌≡◌, ◌≤◌, ◌+◌, length, drop}
use Rattle.texts.specs.Lists.{written, cursor_after}
use Rattle.coding.specs.Url.{coded}
use Rattle.coding.proofs.url.write_coded.Given as goal

abbrev pub invariant-loop-b : goal.invariant-loop-b
invariant-loop-b l =
    (l.p + length (coded (drop l.b-index l.src)) ≤ length l.dst)
    × (cursor_after l.fn.dst l.at (coded l.src) ≡ cursor_after l.dst l.p (coded (drop l.b-index l.src)))
    × (written l.fn.dst l.at (coded l.src) ≡ written l.dst l.p (coded (drop l.b-index l.src)))
