use Rattle.std.proofs.Common.{refl}
use Rattle.console.proofs.PartLaws.{room-positive, run-refused, new-sums, console-new, held_new, last-room, run-whole}
use Rattle.console.proofs.feed.run_session.Goals as goal

pub nonzero_div-out : goal.nonzero_div-out
nonzero_div-out c = room-positive _ _ c.line_room.ensures

pub returns-then-out-line_room-clause-value : goal.returns-then-out-line_room-clause-value
returns-then-out-line_room-clause-value c = run-refused _ _ _ _ c.line_room.ensures c.if-out-line_room.true _ refl _ refl

pub feed-s-requires : goal.feed-s-requires
feed-s-requires c =
    new-sums _ (console-new _ _ _ _ c.new_console.ensures c.empty_names-names.ensures.1 c.empty_keys-keys.ensures.1 c.empty_balances-balances.ensures.1)

pub finish-last-requires : goal.finish-last-requires
finish-last-requires c =
    let new = console-new _ _ _ _ c.new_console.ensures c.empty_names-names.ensures.1 c.empty_keys-keys.ensures.1 c.empty_balances-balances.ensures.1 in
    (c.feed-s.ensures.summable, last-room _ _ _ _ c.line_room.ensures c.if-out-line_room.false _ _ new (held_new _ _ c.new_bytes-bytes.ensures c.new_mark.ensures) _ c.feed-s.ensures.out_after)

pub returns-clause-value : goal.returns-clause-value
returns-clause-value c =
    let new = console-new _ _ _ _ c.new_console.ensures c.empty_names-names.ensures.1 c.empty_keys-keys.ensures.1 c.empty_balances-balances.ensures.1 in
    run-whole _ _ _ _ c.line_room.ensures c.if-out-line_room.false _ _ new (held_new _ _ c.new_bytes-bytes.ensures c.new_mark.ensures) _ c.feed-s.ensures.out_after _ c.finish-last.ensures.value
