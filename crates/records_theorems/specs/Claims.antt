-- Document 01, "Sample cases": K1 to K12 over a lent slice of four records, as one claim about lists of calls. What K3 to K6 say of a field alone needs no table.
use Rattle.std.specs.Prelude.{ℕ, ◌≡◌, List, [], ◌∷◌, ◌++◌, ℤ, pos, negsuc, replicate, Some}
use Rattle.days.specs.declared.calendar.Day.{Day}
use Rattle.table.specs.Table.{no_record}
use Rattle.table.specs.Accounts.{accounts_of, find_account, balance_at}
use Rattle.settlement_theorems.specs.Cases.{payment1, cancel1, line1, answer1, clock1, clock2, clock3, clock4, clock5, clock6, amount_most, amount_over, one_kopeck, no_kopecks, point_alone, three_decimals, one_decimal, receipt_most, receipt_long, receipt_zero, leap_date, no_leap_date, payment2, day19, day20, day22, account12, empty_gate, blank}
use Rattle.records.specs.Records.{Called}
use Rattle.calls.specs.Calls.{request_call, registry_call, opening_call, drawing_call}
use Rattle.records_theorems.specs.Lists.{CallMade, over_records}

-- ---- the calls
abbrev pub request : List ℕ → List ℕ → CallMade
request clock params = record { call = request_call clock; text = params; out = blank }

abbrev pub registry : List ℕ → Day → List ℕ → CallMade
registry clock day text = record { call = registry_call clock day; text = text; out = blank }

abbrev pub opening : CallMade
opening = record { call = opening_call account12 1; text = []; out = blank }

abbrev pub draw : ℕ → CallMade
draw kopecks = record { call = drawing_call account12 1 kopecks; text = []; out = blank }

-- K1; K1 and a draw of 1; K8: K1, cancel, payment again; K9: a draw and the empty registry
abbrev pub pay : CallMade
pay = request clock1 payment1

abbrev pub drawn : List CallMade
drawn = pay ∷ draw 1 ∷ []

abbrev pub cancelled : List CallMade
cancelled = pay ∷ request clock3 cancel1 ∷ request clock4 payment1 ∷ []

abbrev pub closed : List CallMade
closed = drawn ++ (registry clock5 day20 [] ∷ [])

-- ---- the start: four records of which none is used, closed 2005-09-19; account12 of type 1 is opened by the first call
abbrev pub start : Called
start = record { code = 0; gate = empty_gate; records = replicate 4 no_record; out = blank; size = 0 }

unfoldable pub run : List CallMade → Called
run ms = over_records start (opening ∷ ms)

abbrev code : List CallMade → ℕ
code ms = (run ms).code

abbrev balance : List CallMade → ℤ
balance ms = balance_at (run ms).gate 0

pub record KRecords : Type 0 where
  -- the start
  pub start-code : code [] ≡ 0
  pub start-closed : (run []).gate.closed ≡ day19
  pub start-account : find_account account12 1 (accounts_of (run []).gate) ≡ Some 0
  pub start-balance : balance [] ≡ pos 0
  -- K1, and again
  pub k1 : code (pay ∷ []) ≡ 0
  pub k1-bytes : (run (pay ∷ [])).out ≡ answer1 ++ replicate 378 0
  pub k1-size : (run (pay ∷ [])).size ≡ 134
  pub k1-balance : balance (pay ∷ []) ≡ pos 1012
  pub k2 : code (pay ∷ request clock2 payment1 ∷ []) ≡ 0
  pub k2-bytes : (run (pay ∷ request clock2 payment1 ∷ [])).out ≡ answer1 ++ replicate 378 0
  pub k2-balance : balance (pay ∷ request clock2 payment1 ∷ []) ≡ pos 1012
  -- K3 to K6: K1 with another amount, receipt or date
  pub k3-most : balance (request clock1 amount_most ∷ []) ≡ pos 999999999
  pub k3-over : code (request clock1 amount_over ∷ []) ≡ 3
  pub k4-one : balance (request clock1 one_kopeck ∷ []) ≡ pos 1
  pub k4-none : code (request clock1 no_kopecks ∷ []) ≡ 3
  pub k4-point : code (request clock1 point_alone ∷ []) ≡ 3
  pub k4-three : code (request clock1 three_decimals ∷ []) ≡ 3
  pub k4-tens : balance (request clock1 one_decimal ∷ []) ≡ pos 750
  pub k5-most : code (request clock1 receipt_most ∷ []) ≡ 0
  pub k5-long : code (request clock1 receipt_long ∷ []) ≡ 4
  pub k5-zero : code (request clock1 receipt_zero ∷ []) ≡ 4
  pub k6-leap : code (request clock1 leap_date ∷ []) ≡ 0
  pub k6-none : code (request clock1 no_leap_date ∷ []) ≡ 5
  -- K7: K1, draw 1, cancel
  pub drawing : code drawn ≡ 0
  pub k7 : code (drawn ++ (request clock3 cancel1 ∷ [])) ≡ 9
  -- K8: K1, cancel, payment again
  pub k8-cancel : code (pay ∷ request clock3 cancel1 ∷ []) ≡ 0
  pub k8-again : code cancelled ≡ 7
  pub k8-balance : balance cancelled ≡ pos 0
  -- K9: K1, draw 1, empty registry
  pub k9 : code closed ≡ 0
  pub k9-balance : balance closed ≡ negsuc 0
  -- K10: K8, registry with K1's line
  pub k10 : code (cancelled ++ (registry clock5 day20 line1 ∷ [])) ≡ 0
  pub k10-report : (run (cancelled ++ (registry clock5 day20 line1 ∷ []))).out ≡ 49 ∷ replicate 511 0
  pub k10-size : (run (cancelled ++ (registry clock5 day20 line1 ∷ []))).size ≡ 1
  pub k10-balance : balance (cancelled ++ (registry clock5 day20 line1 ∷ [])) ≡ pos 1012
  -- K11, K12: after K9 a new receipt of that day, and the day 2005-09-22
  pub k11 : code (closed ++ (request clock6 payment2 ∷ [])) ≡ 5
  pub k12 : code (closed ++ (registry clock6 day22 [] ∷ [])) ≡ 55
