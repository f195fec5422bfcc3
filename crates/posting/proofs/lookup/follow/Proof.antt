use borrow.Author.Rules.{rules}
use Rattle.index.proofs.ChainLaws.{follow-more, follow-none}
use Rattle.posting.proofs.lookup.follow.Statement.{statement}
use Rattle.posting.proofs.lookup.follow.Tie as tie

ruleset laws = (follow-more, follow-none, rules)

pub follow_spec : {M : Type 1} → statement M
follow_spec =
    tie.close
    (tie.spec
    (λ c κs. search laws)
    (λ c. search laws)
    (λ c. search laws)
    (λ c. search laws)
    (λ c. search laws))
