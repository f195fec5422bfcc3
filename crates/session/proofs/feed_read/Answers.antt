use Rattle.std.proofs.Common.{arith, refl, ◌∙◌}
use Rattle.console.proofs.PartLaws.{rest-within, rest_goes, room-kept}
use Rattle.session.proofs.feed_read.Goals as goal

-- what was taken lies within the input, so the sum is below 2^63
pub overflow_add-at : goal.overflow_add-at
overflow_add-at c =
    omega (arith, rest-within _ _ _ _ _ _ c.feed-session.ensures.out_after c.args.input.now c.loop-at.at refl c.loop-at.invariant.3, c.loop-at.invariant.4)

pub loop-at-smaller : goal.loop-at-smaller
loop-at-smaller c =
    omega (
      arith,
      rest-within _ _ _ _ _ _ c.feed-session.ensures.out_after c.args.input.now c.loop-at.at refl c.loop-at.invariant.3,
      rest_goes _ _ _ _ _ _ c.feed-session.ensures.out_after c.args.input.now c.loop-at.at refl c.loop-at-test.true (room-kept _ _ _ _ c.loop-at.invariant.0 c.loop-at.invariant.1 c.requires.1),
    )

pub loop-at-preserved : goal.loop-at-preserved
loop-at-preserved c = (
  c.feed-session.ensures.places ∙ c.loop-at.invariant.0,
  c.feed-session.auto.out ∙ c.loop-at.invariant.1,
  c.feed-session.ensures.summable,
  rest-within _ _ _ _ _ _ c.feed-session.ensures.out_after c.args.input.now c.loop-at.at refl c.loop-at.invariant.3,
  c.loop-at.invariant.4,
)
