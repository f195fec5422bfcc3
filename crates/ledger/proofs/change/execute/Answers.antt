use borrow.Author.Rules.{rules}
use mathlib.Core.Path.{refl, sym, ◌∙◌}
use mir.Syntax.{w64}
use mir.Val.{to_z, of_z}
use Rattle.table.specs.declared.Gate.{Gate}
use Rattle.table.specs.Table.{Rows}
use Rattle.table.specs.Lent.{rows_in}
use Rattle.table.specs.Columns.{gate_of, columns_in}
use Rattle.table.proofs.RowsLaws.{rows-viewed}
use Rattle.ledger.proofs.ChangeLaws.{near-back, made-moved, decided-code, made_by, decided-viewed}
use Rattle.ledger.proofs.change.execute.Goals as goal

pub returns-clause-value : goal.returns-clause-value
returns-clause-value c =
    let t : Rows = rows_in c.args.table.now in
    let g : Gate = gate_of c.args.head (columns_in c.args.accounts.now) in
    let d = decided-viewed c.args.head _ _ _ t c.args.fault c.args.q _ _ c.view-2.ensures (rows-viewed _ _ c.view.ensures) c.plan_for-balance.ensures in
    let made = c.make_change-o.ensures.value g refl (d.balances ∙ sym (near-back _ d.near)) in
    let o = c.make_change-o.result in
    record {
      codes = decided-code g t c.args.clock c.args.q _ _ d.plan;
      made =
          made_by g t c.args.clock c.args.q _ _ d.plan _ _ _
          (made-moved t _ g c.plan_for-balance.result.0.account (to_z w64 (of_z w64 o.balance)) o.balance o.used _ _ made (search rules) _
          (c.move_balance.ensures c.args.head c.args.accounts.now.names.now c.args.accounts.now.keys.now o.used));
    }
