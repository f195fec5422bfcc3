use Rattle.texts.proofs.ScanLaws.{after-fits}
use borrow.Author.Rules.{rules}
use Rattle.texts.proofs.scan.after_byte.Goals as goal

pub overflow_add-find_byte : goal.overflow_add-find_byte
overflow_add-find_byte c = search (after-fits, rules)
