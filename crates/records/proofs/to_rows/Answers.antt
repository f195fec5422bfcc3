use Rattle.std.proofs.Common.{◌<◌, length, refl, ap, ◌∙◌, arith, add-one, get_or}
use Rattle.std.proofs.lemmas.List.{get_or_default}
use Rattle.lists.proofs.RowsLaws.{loan-on}
use Rattle.table.specs.Table.{Rows, no_record, rows_with}
use Rattle.table.specs.Lent.{rows_in}
use Rattle.records.specs.Copying.{filled}
use Rattle.records.proofs.PartLaws.{sized-with}
use Rattle.records.proofs.to_rows.Goals as goal

pub loop-i-init : goal.loop-i-init
unfolding filled
loop-i-init c = (refl, c.requires, record { nums = refl; numbers = refl; dates = refl })

pub loop-i-preserved : goal.loop-i-preserved
unfolding filled
loop-i-preserved c =
    let i = c.loop-i.i in
    let t : Rows = rows_in c.loop-i.table in
    let within : i < length c.args.records.now = omega arith in (
      rw add-one (c.store.ensures.rows ∙ ap (rows_with t i) (get_or_default c.args.records.now i _ no_record within)
          ∙ ap (λ (w : Rows). rows_with w i (get_or c.args.records.now i no_record)) c.loop-i.invariant.0),
      sized-with _ _ _ _ c.store.ensures.rows c.loop-i.invariant.1,
      loan-on c.loop-i.invariant.2 c.store.ensures.same_loan,
    )
