-- Document 01, "Sample cases": K1 to K12 as one theorem over the definitions of the exported calls. K3 to K6 stand over the fields' definitions
-- and as what the gate gives to K1's payment with that amount, receipt or date.
use mathlib.Core.Path.{refl}
use Rattle.fields.specs.Amount.{amount_read}
use Rattle.dates.specs.Date.{date_read}
use Rattle.dates.proofs.Samples as F
use Rattle.table.specs.Accounts.{find_account}
use Rattle.gate.specs.Deliver.{deliver}
use Rattle.opening.specs.Opening.{open_account, draw_funds}
use Rattle.rules.specs.Answering as EA
use Rattle.planning.specs.Plan as LP
use Rattle.ledger.specs.Change as LC
use Rattle.gate.specs.Deliver as D
use Rattle.rules.specs.Decision as E
use Rattle.opening.specs.Opening as O
use Rattle.table.specs.Table as T
use Rattle.lists.specs.Lists as TL
use Rattle.lists.specs.Lent as Le
use Rattle.table.specs.Accounts as A
use Rattle.validity.specs.Valid as VA
use Rattle.texts.specs.Lists as L
use Rattle.texts.specs.Digits as G
use Rattle.fields.specs.Amount as M
use Rattle.fields.specs.Number as N
use Rattle.days.specs.Calendar as C
use Rattle.dates.specs.Date as W
use Rattle.coding.specs.Url as U
use Rattle.coding.specs.Params as P
use Rattle.parameters.specs.Names as MN
use Rattle.parameters.specs.Slots as MS
use Rattle.message.specs.Request as MR
use Rattle.answers.specs.Answer as AN
use Rattle.lines.specs.Line as RL
use Rattle.registry.specs.Registry as RR
use Rattle.settlement.specs.Settle.{settle}
use Rattle.posting.specs.Posting as PO
use Rattle.clearing.specs.Clearing as CL
use Rattle.closing.specs.Closing as CG
use Rattle.settlement.specs.Settle as S
use Rattle.settlement_theorems.specs.Claims.{K}
use Rattle.settlement_theorems.specs.Cases.{opens, at_start, pays, pays_again, draws, cancels_drawn, cancels, pays_cancelled, settles_none, settles_line, pays_late, settles_later}

-- every definition on the way is computed
pub cases : K
unfolding opens at_start pays pays_again draws cancels_drawn cancels pays_cancelled settles_none settles_line pays_late settles_later T.records_of TL.tab TL.first_from TL.all_from A.is_account A.find_account VA.table_good Le.lent_well VA.gate_good VA.account_good VA.near VA.record_good VA.ranges_good VA.state_good VA.account_known VA.authcode_good L.every L.eq_list N.number_byte N.is_number N.same_number C.leap_year C.days_in C.is_date C.day_of C.two_digits C.day_part W.clock_time W.date_day L.find G.digits_read G.range_read M.kopecks_after M.amount_read N.is_number_text N.number_read W.date_read T.rows_from T.find_record T.same_payment A.credited A.debited L.written L.cursor_after C.day_before LP.is_full LC.next_authcode LC.revoked deliver D.respond LP.plan_of LP.plan_with LP.view_of LP.date_of LP.account_of EA.is_cancel LP.date_closed LC.changed LC.make_record EA.answer_of EA.answers_authcode EA.answers_date EA.answer_date E.decision_on E.is_fault E.fault_code E.decision E.payment_new E.check_code E.cancel_done G.fixed G.decimal U.is_hex U.hex_value U.well_coded U.decoded P.split_at MN.name_index MN.action_word MN.action_of MS.add_piece MS.gather_from MS.gathered MR.held MR.field_of MR.first_fault MR.field_fault MR.nothing_asked MR.fields_asked MR.fields_read MR.request_read AN.element AN.message_of AN.answer_bytes open_account O.open_to A.opened draw_funds O.draw_from O.draw_on settle S.settle_read CG.settle_day PO.matches PO.verdict_of PO.restored PO.posted_record PO.applied PO.settle_line CL.settle_lines CL.any_matches CL.is_stray CL.swept_record CL.swept_gate CL.sweep_gates CL.swept CL.any_done CL.report_of RR.split_lines RR.count_of RR.line_count RR.good_line RR.good_lines RR.held_lines RR.registry_lines RR.rising RR.registry_fault RL.line_read C.same_day C.next_day
cases =
    record {
      opening = refl;
      start-closed = refl;
      start-account = refl;
      start-balance = refl;
      k1 = refl;
      k1-bytes = refl;
      k1-size = refl;
      k1-balance = refl;
      k2 = refl;
      k2-bytes = refl;
      k2-balance = refl;
      k3 = F.k3;
      k3-most = refl;
      k3-over = refl;
      k4 = F.k4;
      k4-one = refl;
      k4-none = refl;
      k4-point = refl;
      k4-three = refl;
      k4-tens = refl;
      k5 = F.k5;
      k5-most = refl;
      k5-long = refl;
      k5-zero = refl;
      k6 = F.k6;
      k6-leap = refl;
      k6-none = refl;
      drawing = refl;
      k7 = refl;
      k8-cancel = refl;
      k8-again = refl;
      k8-balance = refl;
      k9 = refl;
      k9-balance = refl;
      k10 = refl;
      k10-report = refl;
      k10-size = refl;
      k10-balance = refl;
      k11 = refl;
      k12 = refl;
    }
