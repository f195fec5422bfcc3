use Rattle.texts.proofs.WordLaws.{word-is}
use Rattle.texts.proofs.scan.word_at.Goals as goal

pub returns : goal.returns
returns c = word-is c.args.s.now c.args.i c.from_le_bytes.result c.requires c.from_le_bytes.ensures
