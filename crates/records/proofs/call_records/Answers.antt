use Rattle.std.proofs.Common.{length, ap, ◌∙◌}
use Rattle.table.proofs.RowsLaws.{rows-viewed}
use Rattle.records.specs.Copying.{rows_in, restored}
use Rattle.records.proofs.RecordsLaws.{call-made}
use Rattle.records.proofs.call_records.Goals as goal

pub returns : goal.returns
returns c =
    call-made _ _ _ _ _ _ _ _ _ _ c.to_rows.ensures.value c.call_rows-r.ensures.value c.call_rows-r.ensures.sized
    (c.from_rows.ensures ∙ ap (restored c.args.records.now (rows_in (length c.args.records.now))) (rows-viewed _ _ c.view.ensures))
