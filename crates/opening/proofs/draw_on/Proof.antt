use Rattle.ledger.proofs.ChangeLaws.{near-back, near-passed, rest_back}
use mathlib.Core.Path.{sym}
use Rattle.table.proofs.AccountLaws.{below-is}
use borrow.Author.Rules.{rules}
use Rattle.opening.proofs.OpeningLaws.{draw-unknown, draw-amount, draw-short, draw-done, kopecks-small}
use Rattle.opening.proofs.draw_on.Statement.{statement}
use Rattle.opening.proofs.draw_on.Tie as tie

returns : tie.Need-returns-in_default
returns c names keys eb = draw-unknown _ _ _ _ (search rules) (c.keep.ensures _)

returns-2 : tie.Need-returns-then-not-is_amount
returns-2 c names keys eb =
    draw-amount _ _ _ _ _ c.in-Some.is _ c.is_amount.ensures c.if-not-is_amount.true-raw (c.keep-then-not-is_amount.ensures _)

is-less-requires : tie.Need-is_less-requires
is-less-requires c κs =
    kopecks-small _ _ c.is_amount.ensures c.if-not-is_amount.false-raw

returns-3 : tie.Need-returns-then-is_less
returns-3 c names keys eb =
    let b = c.args.h.balance in
    draw-short _ _ _ _ _ c.in-Some.is _ c.is_amount.ensures c.if-not-is_amount.false-raw b eb _ (below-is b _ _ c.is_less.ensures (near-back b c.requires.1)) c.if-is_less.true (c.keep-then-is_less.ensures _)

minus-requires : tie.Need-minus-requires
minus-requires c κs =
    (near-passed c.args.h.balance c.requires.1, kopecks-small _ _ c.is_amount.ensures c.if-not-is_amount.false-raw)

put-balance-requires : tie.Need-put_balance-requires
put-balance-requires c κs =
    (sym c.put_balance-arg-1.given.0.1, c.requires.0.at _ c.in-Some.is)

returns-4 : tie.Need-returns
returns-4 c names keys eb =
    let b = c.args.h.balance in
    draw-done _ _ _ _ _ c.in-Some.is _ c.is_amount.ensures c.if-not-is_amount.false-raw b eb _ (below-is b _ _ c.is_less.ensures (near-back b c.requires.1)) c.if-is_less.false
    _ (rest_back b c.minus.result c.args.kopecks c.requires.1 c.minus.ensures.1 c.minus.ensures.0) _ (c.put_balance.ensures c.args.head names keys) (c.keep-2.ensures _)

pub draw_on_spec : {M : Type 1} → statement M
draw_on_spec =
    tie.close
    (tie.spec
    (λ c. search rules)
    (λ c. search rules)
    (λ c κs. search rules)
    returns
    (λ c κs. search rules)
    (λ c κs. search rules)
    returns-2
    is-less-requires
    (λ c κs. search rules)
    returns-3
    minus-requires
    put-balance-requires
    (λ c κs. search rules)
    returns-4)
