use borrow.Author.Rules.{rules}
use Rattle.texts.proofs.OutLaws.{past_end, past-end-kept}
use Rattle.coding.proofs.WriteLaws.{coded-stays, coded_kept, cursor-step, written_step, fit-step, cursor-done, written-done}
use Rattle.coding.proofs.url.write_coded.Goals as goal
use Rattle.coding.proofs.url.write_coded.Goals.{then-dst-at-via-then-dst-at, then-dst-at-via-else-dst-at+then-not-has_room}

pub returns-then-dst-at : goal.returns-then-dst-at
returns-then-dst-at c =
    elim c.then-dst-at.branch [
      | then-dst-at-via-then-dst-at w ↦ (search (past_end, rules), search (past-end-kept, rules))
      | then-dst-at-via-else-dst-at+then-not-has_room w ↦ (search (coded-stays, rules), search (coded_kept, rules))
    ]

pub loop-b-preserved : goal.loop-b-preserved
loop-b-preserved c = search (cursor-step, written_step, fit-step, rules)

pub returns : goal.returns
returns c = search (cursor-done, written-done, rules)
