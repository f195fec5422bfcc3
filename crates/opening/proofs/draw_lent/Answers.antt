use borrow.Author.Tests.{not-false}
use mathlib.Core.Path.{refl}
use Rattle.table.specs.Columns.{gate_of, columns_in}
use Rattle.table.proofs.AccountLaws.{held_place}
use Rattle.opening.proofs.OpeningLaws.{draw-refused, draw-called, draw-malformed, draw-named, named-within, held-within, held-near, held-balance}
use Rattle.opening.proofs.draw_lent.Goals as goal

pub returns-then-not-table_good-clause-value : goal.returns-then-not-table_good-clause-value
returns-then-not-table_good-clause-value c =
    draw-refused _ _ _ _ _ _ (rw c.view-seen.ensures at c.table_good.ensures.value) _ c.if-not-table_good.true-raw (c.keep.ensures _)

pub returns-then-not-is_named-clause-value : goal.returns-then-not-is_named-clause-value
returns-then-not-is_named-clause-value c =
    draw-called _ _ _ _ _ _ (rw c.view-seen.ensures at c.table_good.ensures.value) _ c.if-not-table_good.false-raw
    (draw-malformed _ _ _ _ _ c.is_named.ensures _ c.if-not-is_named.true-raw (c.keep-then-not-is_named.ensures _))

pub draw_on-requires : goal.draw_on-requires
draw_on-requires c =
    let s = (c.table_good.ensures.ready (not-false c.table_good.result c.if-not-table_good.false-raw)).funds in
    let w = named-within _ _ _ _ s refl in
    (held-within _ s _ _ c.look_up-h.ensures w, held-near _ s _ _ c.look_up-h.ensures w)

pub returns-clause-value : goal.returns-clause-value
returns-clause-value c =
    let s = (rw c.view-seen.ensures at c.table_good.ensures.ready (not-false c.table_good.result c.if-not-table_good.false-raw)).funds in
    let w = named-within _ _ _ _ s refl in
    let h = rw c.view-seen.ensures at c.look_up-h.ensures in
    draw-called _ _ _ _ _ _ (rw c.view-seen.ensures at c.table_good.ensures.value) _ c.if-not-table_good.false-raw
    (draw-named _ _ _ _ _ c.is_named.ensures c.if-not-is_named.false-raw c.look_up-h.result.at (held_place (gate_of c.args.head (columns_in c.args.accounts.now)) _ _ h) _ (c.draw_on.ensures _ _ (held-balance _ s _ _ h w)))
