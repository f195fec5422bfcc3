use borrow.Author.Rules.{rules}
use Prim.Native.Nat.{◌<◌, ◌-◌}
use mathlib.Core.Path.{◌≡◌}
use lib.ListN.{get_or}
use Rattle.index.specs.Index.{slot_of}
use Rattle.index.proofs.ChainLaws.{chained-room, onward-in, onward-less, chain-ends}
use Rattle.posting.specs.Lookup.{receipt_at}
use Rattle.posting.proofs.LookupLaws.{last-slot}
use Rattle.posting.proofs.lookup.last_from.Statement.{statement}
use Rattle.posting.proofs.lookup.last_from.Tie as tie

abbrev invariant-loop-at : tie.invariant-loop-at
invariant-loop-at nums used heads next i k₀ at₀ k at = (k < used) × (slot_of (receipt_at nums k) ≡ slot_of (receipt_at nums i)) × (at ≡ get_or next k 0)

abbrev decreases-loop-at : tie.decreases-loop-at
decreases-loop-at nums used heads next i k₀ at₀ k at = used - k

ruleset laws = (chained-room, onward-in, last-slot, onward-less, chain-ends, rules)

pub last_from_spec : {M : Type 1} → statement M
last_from_spec =
    tie.close
    (tie.spec
    invariant-loop-at
    decreases-loop-at
    (λ c κs. search laws)
    (λ c. search laws)
    (λ c. search laws)
    (λ c κs. search laws)
    (λ c. search laws)
    (λ c. search laws)
    (λ c. search laws))
