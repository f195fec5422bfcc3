use Rattle.texts.proofs.DecimalLaws.{size-le, skip-le, decimal-cursor, decimal-written}
use borrow.Author.Rules.{rules}
use Rattle.texts.proofs.digits.write_digits.Goals as goal

pub slice_bounds-put_bytes-count : goal.slice_bounds-put_bytes-count
slice_bounds-put_bytes-count c = search (size-le, skip-le, rules)

pub slice_bounds-put_bytes-start : goal.slice_bounds-put_bytes-start
slice_bounds-put_bytes-start c = search (size-le, skip-le, rules)

pub returns : goal.returns
returns c = search (decimal-cursor, decimal-written, rules)
