use Rattle.std.proofs.Common.{◌≡◌, refl, ap, ◌∙◌, Some, None}
use Rattle.std.specs.Prelude.{Option}
use Rattle.std.specs.Option.{option_eq}
use Rattle.days.specs.declared.calendar.Day.{Day}
use Rattle.days.specs.contracts.calendar.DayPartialEq.TheImpl.{eq-value}
use Rattle.days.specs.Calendar.{same_day, on_day}
use Rattle.days.proofs.calendar.Day.follows.Goals as goal

compared : (x : Option Day) (d : Day) → option_eq eq-value.it x (Some d) ≡ on_day d x
unfolding same_day
compared None d = refl
compared (Some x) d = refl

pub returns : goal.returns
returns c = c.eq.ensures ∙ compared c.next.result c.args.self ∙ ap (on_day c.args.self) c.next.ensures
