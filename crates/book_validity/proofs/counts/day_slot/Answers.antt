use borrow.Author.Rules.{rules}
use Rattle.book_validity.proofs.CountLaws.{slot-year, slot-below}
use Rattle.book_validity.proofs.counts.day_slot.Goals as goal

ruleset laws = (slot-year, slot-below, rules)

pub overflow_sub-result : goal.overflow_sub-result
overflow_sub-result c = search laws

pub returns : goal.returns
returns c = search laws
