use borrow.Author.Rules.{rules}
use Rattle.directory.proofs.DigestLaws.{digest-is}
use Rattle.directory.proofs.digest.make_digest.Goals as goal

pub returns : goal.returns
returns c = search (digest-is, rules)
