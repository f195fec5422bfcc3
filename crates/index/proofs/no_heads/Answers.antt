use mathlib.Core.Path.{refl}
use Rattle.index.proofs.ChainLaws.{zeros}
use Rattle.index.proofs.no_heads.Goals as goal

pub returns : goal.returns
returns c = (refl, zeros 8192)
