use borrow.Author.Rules.{rules}
use Rattle.book_validity.proofs.CountLaws.{count_fits}
use Rattle.book_validity.proofs.counts.count_day.Goals as goal

pub overflow_add-n : goal.overflow_add-n
overflow_add-n c = search (count_fits, rules)
