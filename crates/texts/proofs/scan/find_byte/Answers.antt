use Rattle.std.proofs.Common.{◌≡◌, ◌∙◌, rules, eqb}
use Rattle.std.specs.Prelude.{position}
use Rattle.std.proofs.lemmas.Iterator.{YieldsList-from_slice}
use Rattle.std.proofs.lemmas.Iterator.Search.{position_from_yields_List}
use borrow.Author.Tests.{tests}
use Rattle.texts.proofs.ScanLaws.{position_find}
use Rattle.texts.proofs.scan.find_byte.Goals as goal

pub returns : goal.returns
returns c =
    let found : c.position.result ≡ position (λ x. eqb x c.args.b) c.args.s.now =
    position_from_yields_List (λ x. eqb x c.args.b) _ _ c.position.result c.position.ensures.ran (YieldsList-from_slice c.args.s.now c.iter.ensures.rest) (λ x t q k. search (rules, tests)) in
    c.unwrap_or.ensures ∙ rw (found, position_find c.args.b c.args.s.now)
