-- The invariant: the pieces that are left, gathered into the slots so far, give the whole.
use Rattle.std.proofs.Common.{length, ◌-◌, ◌≡◌, ◌≤◌, drop, ◌+◌}
use Rattle.coding.specs.Params.{pieces}
use Rattle.parameters.specs.Slots.{gather_from}
use Rattle.parameters.specs.SlotWalk.{slots_in}
use Rattle.parameters.proofs.slots.gather.Given as goal

abbrev pub invariant-loop-at : goal.invariant-loop-at
invariant-loop-at l =
    record {
      inside : l.at ≤ length l.s + 1;
      sizes : length l.slots ≡ 7;
      so_far : gather_from (slots_in l.s l.fn.slots) (pieces l.s) ≡ gather_from (slots_in l.s l.slots) (pieces (drop l.at l.s));
    }

abbrev pub decreases-loop-at : goal.decreases-loop-at
decreases-loop-at l = (length l.s + 1) - l.at
