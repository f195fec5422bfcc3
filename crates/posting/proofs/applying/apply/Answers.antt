use Rattle.std.proofs.Common.{refl}
use mathlib.Core.Logic.{inl, inr}
use Rattle.posting.proofs.PostLaws.{applied-keeps, applied-none, applied-restores, applied-posts, found_within}
use Rattle.table.proofs.RowsLaws.{sizes-with}
use Rattle.posting.proofs.applying.apply.Goals as goal

pub returns-in-Keeps-clause-applied : goal.returns-in-Keeps-clause-applied
returns-in-Keeps-clause-applied c =
    elim c.in-Keeps.is [
      | inl e ↦ applied-keeps _ _ _ _ c.requires.whole.0 _ _ _ _ _ refl refl refl e
      | inr e ↦ applied-none _ _ _ _ c.requires.whole.0 _ _ _ _ _ refl refl refl e
    ]

pub returns-in-Restores-clause-applied : goal.returns-in-Restores-clause-applied
returns-in-Restores-clause-applied c =
    applied-restores _ _ _ _ c.requires.whole.0 _ _ _ _ _ _ c.in-Restores.is (c.requires.keyed.1.restores _ c.in-Restores.is) c.restore.ensures.value _ c.find.ensures refl
    refl

pub returns-in-Restores-clause-within : goal.returns-in-Restores-clause-within
returns-in-Restores-clause-within c = found_within _ _ _ _ _ c.find.ensures

pub returns-in-Posts-clause-applied : goal.returns-in-Posts-clause-applied
returns-in-Posts-clause-applied c =
    applied-posts _ _ _ _ c.requires.whole.0 _ _ _ _ _ _ c.in-Posts.is (c.requires.keyed.1.room _ c.in-Posts.is) c.requires.whole.1 c.post.ensures.value refl refl

pub returns-in-Restores-clause-sizes : goal.returns-in-Restores-clause-sizes
returns-in-Restores-clause-sizes c = sizes-with _ _ _ _ c.restore.ensures.value

pub returns-in-Posts-clause-sizes : goal.returns-in-Posts-clause-sizes
returns-in-Posts-clause-sizes c = c.post.ensures.sizes
