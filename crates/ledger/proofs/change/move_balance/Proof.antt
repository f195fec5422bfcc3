use borrow.Author.Rules.{rules}
use Rattle.ledger.proofs.ChangeLaws.{moved_none, moved-there}
use Rattle.ledger.proofs.change.move_balance.Statement.{statement}
use Rattle.ledger.proofs.change.move_balance.Tie as tie

ruleset laws = (moved_none, moved-there, rules)

put-balance-requires : tie.Need-put_balance-requires
put-balance-requires c κs =
    (search rules, c.requires.1.at _ c.in-Some.is)

pub move_balance_spec : {M : Type 1} → statement M
move_balance_spec =
    tie.close
    (tie.spec
    (λ c. search laws)
    put-balance-requires
    (λ c. search laws)
    (λ c. search laws)
    (λ c. search laws)
    (λ c. search laws))
