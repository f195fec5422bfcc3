use Rattle.std.proofs.Common.{rules}
use Rattle.console.proofs.ShownLaws.{shows-figures, shows-payable, shows-room, shows-day}
use Rattle.console.proofs.show.write_shown.Goals as goal

pub write_day-requires : goal.write_day-requires
write_day-requires c = search (shows-payable, shows-room, rules)

pub returns-in-Figures : goal.returns-in-Figures
returns-in-Figures c = search (shows-figures, rules)

pub returns-in-Payments : goal.returns-in-Payments
returns-in-Payments c = search (shows-day, rules)
