use borrow.Author.Rules.{rules}
use Rattle.ledger.specs.Change.{revoked}
use Rattle.ledger.proofs.change.revoke_record.Statement.{statement}
use Rattle.ledger.proofs.change.revoke_record.Tie as tie

ruleset laws = (rules)

pub revoke_record_spec : {M : Type 1} → statement M
unfolding revoked
revoke_record_spec =
    tie.close
    (tie.spec
    (λ c. search laws))
