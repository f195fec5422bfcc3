use borrow.Author.Rules.{rules}
use mathlib.Core.Path.{refl, sym, ◌∙◌}
use Rattle.table.specs.declared.Gate.{Gate}
use Rattle.table.specs.Table.{Rows}
use Rattle.table.specs.Lent.{rows_seen}
use Rattle.table.specs.Columns.{gate_of, columns_seen}
use Rattle.planning.proofs.PlanLaws.{found_within, found-amount}
use Rattle.ledger.proofs.ChangeLaws.{near-back, near-passed, plan-by, plan-balance, plan-within, plan-near, planned}
use Rattle.ledger.proofs.change.plan_for.Goals as goal

pub found_record-payment-requires : goal.found_record-payment-requires
found_record-payment-requires c =
    let t : Rows = rows_seen c.args.table in
    let g : Gate = gate_of c.args.head (columns_seen c.args.accounts) in
    (search rules, search rules, search rules, found_within g t c.requires.good _ _ c.find_record-found.ensures)

pub make_plan-p-requires : goal.make_plan-p-requires
make_plan-p-requires c =
    let t : Rows = rows_seen c.args.table in
    let g : Gate = gate_of c.args.head (columns_seen c.args.accounts) in
    found-amount g t c.requires.good _ _ c.find_record-found.ensures _ c.found_record-payment.ensures

pub returns : goal.returns
returns c =
    let t : Rows = rows_seen c.args.table in
    let g : Gate = gate_of c.args.head (columns_seen c.args.accounts) in
    let f = c.find_record-found.ensures in
    let r = c.found_record-payment.ensures in
    let h = c.holding_of-h.ensures in
    let p = c.make_plan-p.ensures g refl refl h in
    let near = plan-near g t c.args.fault c.args.q _ f _ r _ h c.requires.ready.funds in
    let is = plan-by g t c.args.fault c.args.q _ f _ r _ h _ p in
    record {
      plan = is;
      planned = planned g t c.args.fault c.args.q _ is c.requires.good;
      balances = plan-balance g t c.args.fault c.args.q _ f _ r _ h _ p ∙ sym (near-back c.holding_of-h.result.balance near);
      near = near-passed c.holding_of-h.result.balance near;
      within = plan-within g t c.args.fault c.args.q _ f _ r _ h _ p c.requires.ready.funds;
    }
