use Rattle.std.proofs.Common.{List, ◌++◌, drop, ap, ◌∙◌}
use Rattle.table.specs.declared.Record.{Record}
use Rattle.ledger.specs.declared.Reply.{Reply}
use Rattle.records.specs.Records.{called_of}
use Rattle.gate_samples.specs.Lending.{with_rest}
use Rattle.gate_samples.proofs.lending.call_first.Goals as goal

pub returns : goal.returns
unfolding with_rest
returns c =
    let n = c.args.n in
    let out = c.call_records-reply.new.out in
    ap (λ (x : List Record). called_of c.at_desk.result.reply x out) c.at_desk.ensures.0
    ∙ ap (λ (x : Reply). called_of x (c.call_records-reply.new.records ++ drop n c.args.records) out) c.at_desk.ensures.1
    ∙ ap (with_rest n c.args.records) c.call_records-reply.ensures
