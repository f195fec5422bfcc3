-- Document 02, [3], and document 01, "The channel": with one agent no payment number is sent with other money, so none of its requests gets 4.
-- `proofs/OneAgent.antt` proves it (`one-agent : OneAgent`).
use Rattle.std.specs.Prelude.{ℕ, ◌≡◌, true, List, Some}
use Rattle.std.proofs.Math.Option.{some}
use Rattle.std.proofs.Math.ListN.{get_elem?}
use Rattle.payments.specs.declared.Action.{Action}
use Rattle.payments.specs.declared.Action.TheVariants.{Payment}
use Rattle.table.specs.Table.{find_record}
use Rattle.planning.specs.Plan.{agrees}
use Rattle.gate.specs.Deliver.{instruction_in}
use Rattle.channel.specs.World.{World, sent_request, Step, delivers, code_of, run}
use Rattle.channel.specs.Claim.{Start, record_in, records_in}

pub record Undisputed (w : World) : Type 0 where
  -- a payment that was sent has the number, type, amount and date of the record that its receipt has
  pub agreed : (n receipt : ℕ) (text : List ℕ) → get_elem? w.sent n ≡ some (sent_request Payment receipt text)
      → (i : ℕ) → find_record receipt (records_in w) ≡ Some i → agrees Payment (instruction_in text).details (record_in w i) ≡ true
  -- whichever request arrives, and whenever, its code is not 4
  pub answers : (n : ℕ) (a : Action) (receipt : ℕ) (text : List ℕ) → get_elem? w.sent n ≡ some (sent_request a receipt text)
      → (clock out : List ℕ) → code_of (delivers n clock out) w ≡ 4 → ⊥

-- after every list of steps from a start, whatever is lent
abbrev pub OneAgent : Type 0
OneAgent = (w : World) → Start w → (ss : List Step) → Undisputed (run ss w)
