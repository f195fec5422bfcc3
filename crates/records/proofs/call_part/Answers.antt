use Rattle.std.proofs.Common.{rules}
use Rattle.records.proofs.PartLaws.{part-called}
use Rattle.records.proofs.call_part.Goals as goal

pub returns-clause-value : goal.returns-clause-value
returns-clause-value c = part-called _ _ _ _ _ _ (search rules) c.call_slices.ensures
