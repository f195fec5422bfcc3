use Rattle.std.proofs.Common.{arith}
use Rattle.console.proofs.PartLaws.{new-sums, console-new, room_at, room-kept}
use Rattle.session.proofs.main.Goals as goal

-- the console is new, and the buffer has room for what a line prints
pub feed_all-fed-requires : goal.feed_all-fed-requires
feed_all-fed-requires c = (
  new-sums _ (console-new _ _ _ _ c.begin.ensures c.empty_names-names.ensures.1 c.empty_keys-keys.ensures.1 c.empty_balances-balances.ensures.1),
  room_at _ _ (omega (arith, c.empty_nums-nums.ensures)) (omega (arith, c.empty_nums-nums.ensures, c.output_part-out.ensures)),
)

pub print_last-written-requires : goal.print_last-written-requires
print_last-written-requires c = (
  c.in-Some.ensures.summable,
  room-kept _ _ _ _ c.feed_all-fed.ensures.places c.feed_all-fed.auto.out
      (room_at _ _ (omega (arith, c.empty_nums-nums.ensures)) (omega (arith, c.empty_nums-nums.ensures, c.output_part-out.ensures))),
)
