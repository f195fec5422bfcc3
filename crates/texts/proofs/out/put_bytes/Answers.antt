use Rattle.texts.proofs.OutLaws.{past_end, past-end-kept, no_room, no-room-kept, put-cursor, put_done}
use borrow.Author.Rules.{rules}
use Rattle.texts.proofs.out.put_bytes.Goals as goal
use Rattle.texts.proofs.out.put_bytes.Goals.{then-dst-at-via-then-dst-at, then-dst-at-via-else-dst-at+then-dst-at-2}

pub returns-then-dst-at : goal.returns-then-dst-at
returns-then-dst-at c =
    elim c.then-dst-at.branch [
      | then-dst-at-via-then-dst-at w ↦ (search (past_end, rules), search (past-end-kept, rules))
      | then-dst-at-via-else-dst-at+then-dst-at-2 w ↦ (search (no_room, rules), search (no-room-kept, rules))
    ]

pub returns : goal.returns
returns c = (search (put-cursor, rules), search (put_done, rules))
