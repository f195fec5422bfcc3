-- The invariant: the bytes that are left have to fit the room that is left.
use Rattle.std.proofs.Common.{◌≡◌, length, drop}
use lib.Dec.{leb}
use Rattle.coding.specs.Url.{coded}
use Rattle.coding.proofs.url.has_room.Given as goal

abbrev pub invariant-loop-b : goal.invariant-loop-b
invariant-loop-b l = leb (length (coded l.src)) l.room ≡ leb (length (coded (drop l.b-index l.src))) l.left
