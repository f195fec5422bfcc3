use Rattle.table.proofs.RowsLaws.{sizes-with}
use Rattle.posting.proofs.applying.post.Goals as goal

pub returns-clause-sizes : goal.returns-clause-sizes
returns-clause-sizes c = sizes-with _ _ _ _ c.store.ensures.rows
