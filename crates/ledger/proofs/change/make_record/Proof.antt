use borrow.Author.Rules.{rules}
use Rattle.ledger.specs.Change.{make_record, next_authcode}
use Rattle.ledger.proofs.change.make_record.Statement.{statement}
use Rattle.ledger.proofs.change.make_record.Tie as tie

ruleset laws = (rules)

pub make_record_spec : {M : Type 1} → statement M
unfolding make_record next_authcode
make_record_spec =
    tie.close
    (tie.spec
    (λ c. search laws)
    (λ c g e. rw e))
