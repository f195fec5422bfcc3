use Rattle.std.proofs.Common.{◌≡◌, ◌∙◌, rules}
use Rattle.std.specs.Prelude.{position}
use Rattle.std.proofs.lemmas.Iterator.{YieldsList-from_slice}
use Rattle.std.proofs.lemmas.Iterator.Search.{position_from_yields_List}
use borrow.Author.Tests.{tests}
use Rattle.fields.proofs.NumberLaws.{unseen, first-unseen}
use Rattle.fields.proofs.number.pass_visible.Goals as goal

pub returns : goal.returns
returns c =
    let found : c.position.result ≡ position unseen c.args.s.now =
    position_from_yields_List unseen _ _ c.position.result c.position.ensures.ran (YieldsList-from_slice c.args.s.now c.iter.ensures.rest) (λ x t q k. search (rules, tests)) in
    first-unseen c.args.s.now c.unwrap_or.result (c.unwrap_or.ensures ∙ rw found)
