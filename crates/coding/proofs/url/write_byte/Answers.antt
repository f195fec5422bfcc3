use borrow.Author.Rules.{rules}
use Rattle.coding.proofs.WriteLaws.{code-plain, code_other, byte-cursor, byte-written}
use Rattle.coding.proofs.url.write_byte.Goals as goal

pub returns-then-is_plain : goal.returns-then-is_plain
returns-then-is_plain c = search (code-plain, byte-cursor, byte-written, rules)

pub returns-else-is_plain : goal.returns-else-is_plain
returns-else-is_plain c = search (code_other, byte-cursor, byte-written, rules)
