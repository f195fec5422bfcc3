use Rattle.opening.proofs.OpeningLaws.{open-refused, open-called}
use Rattle.opening.proofs.open_lent.Goals as goal

pub returns-then-not-table_good : goal.returns-then-not-table_good
returns-then-not-table_good c = open-refused _ _ _ _ _ _ c.table_good.ensures.value c.if-not-table_good.true-raw (c.keep.ensures _)

pub returns : goal.returns
returns c = open-called _ _ _ _ _ _ c.table_good.ensures.value c.if-not-table_good.false-raw c.open_to.ensures
