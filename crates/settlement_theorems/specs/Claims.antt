-- Document 01, "Sample cases": what K1 to K12 say, as one claim about the runs of Cases.
use Rattle.std.specs.Prelude.{◌≡◌, ◌∷◌, ◌++◌, pos, negsuc, replicate, Some}
use Rattle.fields.specs.Amount.{amount_read, amount_fault}
use Rattle.fields.specs.Codes.{receipt_read, receipt_fault}
use Rattle.dates.specs.Date.{date_read, date_fault}
use Rattle.dates.proofs.Samples as F
use Rattle.table.specs.Accounts.{accounts_of, find_account, balance_at}
use Rattle.settlement_theorems.specs.Cases.{answer1, amount_most, amount_over, one_kopeck, no_kopecks, point_alone, three_decimals, one_decimal, receipt_most, receipt_long, receipt_zero, leap_date, no_leap_date, day19, account12, opens, at_start, pays, pays_again, draws, cancels_drawn, cancels, pays_cancelled, settles_none, settles_line, pays_late, settles_later}

pub record K : Type 0 where
  -- the start is the opening call's own: closed 2005-09-19, account12 type 1 open at 0
  pub opening : opens.code ≡ 0
  pub start-closed : opens.gate.closed ≡ day19
  pub start-account : find_account account12 1 (accounts_of opens.gate) ≡ Some 0
  pub start-balance : balance_at opens.gate 0 ≡ pos 0
  -- K1: the bytes of the answer with the rest of the buffer as it was, how many they are, and the balance
  pub k1 : pays.code ≡ 0
  pub k1-bytes : pays.out ≡ answer1 ++ replicate 378 0
  pub k1-size : pays.size ≡ 134
  pub k1-balance : balance_at pays.gate 0 ≡ pos 1012
  -- K2: the same bytes and balance
  pub k2 : pays_again.code ≡ 0
  pub k2-bytes : pays_again.out ≡ answer1 ++ replicate 378 0
  pub k2-balance : balance_at pays_again.gate 0 ≡ pos 1012
  -- K3: 9999999.99 is 999999999; 10000000 gives 3
  pub k3 : (amount_read F.amount_most ≡ Some 999999999) × (amount_fault (amount_read F.amount_over) ≡ 3)
  pub k3-most : balance_at (at_start amount_most).gate 0 ≡ pos 999999999
  pub k3-over : (at_start amount_over).code ≡ 3
  -- K4: 0.01 is 1; 0.00, `10.` and 10.125 give 3; 7.5 is 750
  pub k4 : (amount_read F.one_kopeck ≡ Some 1) × (amount_fault (amount_read F.no_kopecks) ≡ 3) × (amount_fault (amount_read F.point_alone) ≡ 3)
      × (amount_fault (amount_read F.three_decimals) ≡ 3) × (amount_read F.one_decimal ≡ Some 750)
  pub k4-one : balance_at (at_start one_kopeck).gate 0 ≡ pos 1
  pub k4-none : (at_start no_kopecks).code ≡ 3
  pub k4-point : (at_start point_alone).code ≡ 3
  pub k4-three : (at_start three_decimals).code ≡ 3
  pub k4-tens : balance_at (at_start one_decimal).gate 0 ≡ pos 750
  -- K5: a receipt of 15 nines reads; 16 digits or 0 give 4
  pub k5 : (receipt_read F.receipt_most ≡ Some 999999999999999) × (receipt_fault (receipt_read F.receipt_long) ≡ 4) × (receipt_fault (receipt_read F.receipt_zero) ≡ 4)
  pub k5-most : (at_start receipt_most).code ≡ 0
  pub k5-long : (at_start receipt_long).code ≡ 4
  pub k5-zero : (at_start receipt_zero).code ≡ 4
  -- K6: 2024-02-29 reads; 2023-02-29 gives 5
  pub k6 : (date_fault (date_read F.leap_date) ≡ 0) × (date_read F.leap_date ≡ Some F.leap_date) × (date_fault (date_read F.no_leap_date) ≡ 5)
  pub k6-leap : (at_start leap_date).code ≡ 0
  pub k6-none : (at_start no_leap_date).code ≡ 5
  -- K7: K1, draw 1, cancel: 9
  pub drawing : draws.code ≡ 0
  pub k7 : cancels_drawn.code ≡ 9
  -- K8: K1, cancel: 0; payment again: 7, balance 0
  pub k8-cancel : cancels.code ≡ 0
  pub k8-again : pays_cancelled.code ≡ 7
  pub k8-balance : balance_at pays_cancelled.gate 0 ≡ pos 0
  -- K9: K1, draw 1, empty registry: balance -1
  pub k9 : settles_none.code ≡ 0
  pub k9-balance : balance_at settles_none.gate 0 ≡ negsuc 0
  -- K10: K8, registry with K1's line: `1`, balance 1012
  pub k10 : settles_line.code ≡ 0
  pub k10-report : settles_line.out ≡ 49 ∷ replicate 511 0
  pub k10-size : settles_line.size ≡ 1
  pub k10-balance : balance_at settles_line.gate 0 ≡ pos 1012
  -- K11: after K9 a new receipt of that day: 5
  pub k11 : pays_late.code ≡ 5
  -- K12: after K9 day 2005-09-22: 55
  pub k12 : settles_later.code ≡ 55
