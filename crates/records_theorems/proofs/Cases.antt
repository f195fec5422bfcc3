-- Document 01, "Sample cases": K1 to K12 over records, by those over rows (`cases`) and `lists-are`.
use Prim.Native.Nat.{ℕ}
use mathlib.Core.Path.{◌≡◌, refl, ap, ◌∙◌}
use mathlib.Core.List.{List, [], ◌∷◌, ◌++◌}
use lib.ListN.{replicate}
use Rattle.table.specs.Table.{Rows, no_record}
use Rattle.table.specs.Accounts.{accounts_of, find_account, balance_at}
use Rattle.admission.specs.Delivery.{Delivery, delivery_of}
use Rattle.settlement_theorems.specs.Cases as C
use Rattle.settlement_theorems.specs.Cases.{empty_gate, empty_rows, blank, clock2, clock3, clock5, clock6, payment1, cancel1, line1, payment2, day20, day22, opens, at_start, pays, pays_again, draws, cancels_drawn, cancels, pays_cancelled, settles_none, settles_line, pays_late, settles_later}
use Rattle.settlement_theorems.proofs.Cases.{cases}
use Rattle.records.specs.Records.{rows_of, Called, back_from}
use Rattle.calls.specs.Calls.{call_on}
use Rattle.records_theorems.specs.Lists.{CallMade, over_rows}
use Rattle.records_theorems.specs.Claims.{request, registry, opening, pay, drawn, cancelled, closed, start, run, KRecords}
use Rattle.records_theorems.proofs.ListsTheorems.{lists-are}

-- ---- the same lists over rows
abbrev start_rows : Rows → Delivery
start_rows t = record { code = 0; gate = empty_gate; rows = t; out = blank; size = 0 }

abbrev on_rows : List CallMade → Delivery
on_rows ms = over_rows (start_rows empty_rows) (opening ∷ ms)

empty-rows : rows_of (replicate 4 no_record) ≡ empty_rows
unfolding rows_of
empty-rows = refl

run_is : (ms : List CallMade) → run ms ≡ back_from 4 (on_rows ms)
unfolding run
run_is ms = lists-are (opening ∷ ms) start ∙ ap (λ (t : Rows). back_from 4 (over_rows (start_rows t) (opening ∷ ms))) empty-rows

opens-is : on_rows [] ≡ delivery_of opens empty_rows blank
unfolding over_rows call_on opens
opens-is = refl

start_is : (params : List ℕ) → on_rows (request C.clock1 params ∷ []) ≡ at_start params
unfolding over_rows call_on opens at_start
start_is params = refl

pays-is : on_rows (pay ∷ []) ≡ pays
unfolding over_rows call_on opens at_start pays
pays-is = refl

again-is : on_rows (pay ∷ request clock2 payment1 ∷ []) ≡ pays_again
unfolding over_rows call_on opens at_start pays pays_again
again-is = refl

drawn-is : on_rows drawn ≡ delivery_of draws pays.rows blank
unfolding over_rows call_on opens at_start pays draws
drawn-is = refl

k7-is : on_rows (drawn ++ (request clock3 cancel1 ∷ [])) ≡ cancels_drawn
unfolding over_rows call_on opens at_start pays draws cancels_drawn
k7-is = refl

cancels-is : on_rows (pay ∷ request clock3 cancel1 ∷ []) ≡ cancels
unfolding over_rows call_on opens at_start pays cancels
cancels-is = refl

k8-is : on_rows cancelled ≡ pays_cancelled
unfolding over_rows call_on opens at_start pays cancels pays_cancelled
k8-is = refl

k9-is : on_rows closed ≡ settles_none
unfolding over_rows call_on opens at_start pays draws settles_none
k9-is = refl

k10-is : on_rows (cancelled ++ (registry clock5 day20 line1 ∷ [])) ≡ settles_line
unfolding over_rows call_on opens at_start pays cancels pays_cancelled settles_line
k10-is = refl

k11-is : on_rows (closed ++ (request clock6 payment2 ∷ [])) ≡ pays_late
unfolding over_rows call_on opens at_start pays draws settles_none pays_late
k11-is = refl

k12-is : on_rows (closed ++ (registry clock6 day22 [] ∷ [])) ≡ settles_later
unfolding over_rows call_on opens at_start pays draws settles_none settles_later
k12-is = refl

-- ---- what is said of a run over rows is so over records
module _ {A : Type 0} (f : Called → A) (ms : List CallMade) (d : Delivery) (e : on_rows ms ≡ d) where
  by : f (run ms) ≡ f (back_from 4 d)
  by = ap f (run_is ms) ∙ ap (λ (x : Delivery). f (back_from 4 x)) e

module _ (ms : List CallMade) (d : Delivery) (e : on_rows ms ≡ d) where
  code_by : (run ms).code ≡ d.code
  code_by = by (λ (r : Called). r.code) ms d e

  out-by : (run ms).out ≡ d.out
  out-by = by (λ (r : Called). r.out) ms d e

  size-by : (run ms).size ≡ d.size
  size-by = by (λ (r : Called). r.size) ms d e

  balance-by : balance_at (run ms).gate 0 ≡ balance_at d.gate 0
  balance-by = by (λ (r : Called). balance_at r.gate 0) ms d e

pub cases-records : KRecords
cases-records =
    record {
      start-code = code_by [] _ opens-is ∙ cases.opening;
      start-closed = by (λ (r : Called). r.gate.closed) [] _ opens-is ∙ cases.start-closed;
      start-account = by (λ (r : Called). find_account C.account12 1 (accounts_of r.gate)) [] _ opens-is ∙ cases.start-account;
      start-balance = balance-by [] _ opens-is ∙ cases.start-balance;
      k1 = code_by (pay ∷ []) _ pays-is ∙ cases.k1;
      k1-bytes = out-by (pay ∷ []) _ pays-is ∙ cases.k1-bytes;
      k1-size = size-by (pay ∷ []) _ pays-is ∙ cases.k1-size;
      k1-balance = balance-by (pay ∷ []) _ pays-is ∙ cases.k1-balance;
      k2 = code_by (pay ∷ request clock2 payment1 ∷ []) _ again-is ∙ cases.k2;
      k2-bytes = out-by (pay ∷ request clock2 payment1 ∷ []) _ again-is ∙ cases.k2-bytes;
      k2-balance = balance-by (pay ∷ request clock2 payment1 ∷ []) _ again-is ∙ cases.k2-balance;
      k3-most = balance-by (request C.clock1 C.amount_most ∷ []) _ (start_is C.amount_most) ∙ cases.k3-most;
      k3-over = code_by (request C.clock1 C.amount_over ∷ []) _ (start_is C.amount_over) ∙ cases.k3-over;
      k4-one = balance-by (request C.clock1 C.one_kopeck ∷ []) _ (start_is C.one_kopeck) ∙ cases.k4-one;
      k4-none = code_by (request C.clock1 C.no_kopecks ∷ []) _ (start_is C.no_kopecks) ∙ cases.k4-none;
      k4-point = code_by (request C.clock1 C.point_alone ∷ []) _ (start_is C.point_alone) ∙ cases.k4-point;
      k4-three = code_by (request C.clock1 C.three_decimals ∷ []) _ (start_is C.three_decimals) ∙ cases.k4-three;
      k4-tens = balance-by (request C.clock1 C.one_decimal ∷ []) _ (start_is C.one_decimal) ∙ cases.k4-tens;
      k5-most = code_by (request C.clock1 C.receipt_most ∷ []) _ (start_is C.receipt_most) ∙ cases.k5-most;
      k5-long = code_by (request C.clock1 C.receipt_long ∷ []) _ (start_is C.receipt_long) ∙ cases.k5-long;
      k5-zero = code_by (request C.clock1 C.receipt_zero ∷ []) _ (start_is C.receipt_zero) ∙ cases.k5-zero;
      k6-leap = code_by (request C.clock1 C.leap_date ∷ []) _ (start_is C.leap_date) ∙ cases.k6-leap;
      k6-none = code_by (request C.clock1 C.no_leap_date ∷ []) _ (start_is C.no_leap_date) ∙ cases.k6-none;
      drawing = code_by drawn _ drawn-is ∙ cases.drawing;
      k7 = code_by (drawn ++ (request clock3 cancel1 ∷ [])) _ k7-is ∙ cases.k7;
      k8-cancel = code_by (pay ∷ request clock3 cancel1 ∷ []) _ cancels-is ∙ cases.k8-cancel;
      k8-again = code_by cancelled _ k8-is ∙ cases.k8-again;
      k8-balance = balance-by cancelled _ k8-is ∙ cases.k8-balance;
      k9 = code_by closed _ k9-is ∙ cases.k9;
      k9-balance = balance-by closed _ k9-is ∙ cases.k9-balance;
      k10 = code_by (cancelled ++ (registry clock5 day20 line1 ∷ [])) _ k10-is ∙ cases.k10;
      k10-report = out-by (cancelled ++ (registry clock5 day20 line1 ∷ [])) _ k10-is ∙ cases.k10-report;
      k10-size = size-by (cancelled ++ (registry clock5 day20 line1 ∷ [])) _ k10-is ∙ cases.k10-size;
      k10-balance = balance-by (cancelled ++ (registry clock5 day20 line1 ∷ [])) _ k10-is ∙ cases.k10-balance;
      k11 = code_by (closed ++ (request clock6 payment2 ∷ [])) _ k11-is ∙ cases.k11;
      k12 = code_by (closed ++ (registry clock6 day22 [] ∷ [])) _ k12-is ∙ cases.k12;
    }
