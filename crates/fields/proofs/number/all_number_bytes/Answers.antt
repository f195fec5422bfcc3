use Rattle.std.proofs.Common.{◌≡◌, ◌-◌, ◌∙◌, sym, rules, length, take, drop}
use Rattle.std.specs.List.{list_all}
use Rattle.std.proofs.lemmas.Iterator.{YieldsList-from_slice}
use Rattle.std.proofs.lemmas.Iterator.Search.{all_from_yields_List}
use borrow.Author.Tests.{tests}
use Rattle.fields.specs.Number.{number_byte}
use Rattle.fields.proofs.NumberLaws.{rest-every}
use Rattle.fields.proofs.number.all_number_bytes.Goals as goal

pub returns : goal.returns
returns c =
    let s = c.args.s.now in
    let n = c.pass_visible.result in
    let all : c.all.result ≡ list_all number_byte (take (length s - n) (drop n s)) =
    all_from_yields_List number_byte _ _ c.all.result c.all.ensures.ran (YieldsList-from_slice _ c.iter.ensures.rest) (λ x t q k. search (rules, tests)) in
    all ∙ rest-every number_byte s n ∙ sym c.pass_visible.ensures.1
