-- Document 01, "Sample cases": what K1 to K12 are given, the start, and the runs over the definitions of the exported calls.
use Rattle.std.specs.Prelude.{ℕ, List, [], ◌∷◌, ◌++◌, pos, replicate}
use Rattle.days.specs.declared.calendar.Day.{Day}
use Rattle.fields.specs.declared.number.Number.{Number}
use Rattle.fields.specs.Number.{number_of}
use Rattle.table.specs.declared.Gate.{Gate}
use Rattle.table.specs.Table.{Rows}
use Rattle.ledger.specs.declared.Reply.{Reply}
use Rattle.gate.specs.Deliver.{deliver}
use Rattle.admission.specs.Delivery.{Delivery}
use Rattle.opening.specs.Opening.{open_account, draw_funds}
use Rattle.settlement.specs.Settle.{settle}

-- ---- the texts
-- account12
abbrev pub account12_text : List ℕ
account12_text = 97 ∷ 99 ∷ 99 ∷ 111 ∷ 117 ∷ 110 ∷ 116 ∷ 49 ∷ 50 ∷ []

-- action=payment&number=account12&amount=..&receipt=..&date=..&type=1
abbrev pub payment_text : List ℕ → List ℕ → List ℕ → List ℕ
payment_text amount receipt date =
    (97 ∷ 99 ∷ 116 ∷ 105 ∷ 111 ∷ 110 ∷ 61 ∷ 112 ∷ 97 ∷ 121 ∷ 109 ∷ 101 ∷ 110 ∷ 116 ∷ 38 ∷ 110 ∷ 117 ∷ 109 ∷ 98 ∷ 101 ∷ 114 ∷ 61 ∷ 97 ∷ 99 ∷ 99 ∷ 111 ∷ 117 ∷ 110 ∷ 116 ∷ 49 ∷ 50 ∷ 38 ∷ 97 ∷ 109 ∷ 111 ∷ 117 ∷ 110 ∷ 116 ∷ 61 ∷ [])
    ++ (amount
    ++ ((38 ∷ 114 ∷ 101 ∷ 99 ∷ 101 ∷ 105 ∷ 112 ∷ 116 ∷ 61 ∷ [])
    ++ (receipt ++ ((38 ∷ 100 ∷ 97 ∷ 116 ∷ 101 ∷ 61 ∷ []) ++ (date ++ (38 ∷ 116 ∷ 121 ∷ 112 ∷ 101 ∷ 61 ∷ 49 ∷ []))))))

-- 10.12, 987654321, 2005-09-20T15:53:00
abbrev pub amount1 : List ℕ
amount1 = 49 ∷ 48 ∷ 46 ∷ 49 ∷ 50 ∷ []

abbrev pub receipt1 : List ℕ
receipt1 = 57 ∷ 56 ∷ 55 ∷ 54 ∷ 53 ∷ 52 ∷ 51 ∷ 50 ∷ 49 ∷ []

abbrev pub date1 : List ℕ
date1 = 50 ∷ 48 ∷ 48 ∷ 53 ∷ 45 ∷ 48 ∷ 57 ∷ 45 ∷ 50 ∷ 48 ∷ 84 ∷ 49 ∷ 53 ∷ 58 ∷ 53 ∷ 51 ∷ 58 ∷ 48 ∷ 48 ∷ []

-- K1: 10.12, 987654321, 2005-09-20T15:53:00
abbrev pub payment1 : List ℕ
payment1 = payment_text amount1 receipt1 date1

-- action=cancel&receipt=987654321&mes=1
abbrev pub cancel1 : List ℕ
cancel1 = 97 ∷ 99 ∷ 116 ∷ 105 ∷ 111 ∷ 110 ∷ 61 ∷ 99 ∷ 97 ∷ 110 ∷ 99 ∷ 101 ∷ 108 ∷ 38 ∷ 114 ∷ 101 ∷ 99 ∷ 101 ∷ 105 ∷ 112 ∷ 116 ∷ 61 ∷ 57 ∷ 56 ∷ 55 ∷ 54 ∷ 53 ∷ 52 ∷ 51 ∷ 50 ∷ 49 ∷ 38 ∷ 109 ∷ 101 ∷ 115 ∷ 61 ∷ 49 ∷ []

-- account12, 1, 2005-09-20T15:53:00, 10.12 and 987654321, split by 09 and ended by 0D 0A
abbrev pub line1 : List ℕ
line1 = 97 ∷ 99 ∷ 99 ∷ 111 ∷ 117 ∷ 110 ∷ 116 ∷ 49 ∷ 50 ∷ 9 ∷ 49 ∷ 9 ∷ 50 ∷ 48 ∷ 48 ∷ 53 ∷ 45 ∷ 48 ∷ 57 ∷ 45 ∷ 50 ∷ 48 ∷ 84 ∷ 49 ∷ 53 ∷ 58 ∷ 53 ∷ 51 ∷ 58 ∷ 48 ∷ 48 ∷ 9 ∷ 49 ∷ 48 ∷ 46 ∷ 49 ∷ 50 ∷ 9 ∷ 57 ∷ 56 ∷ 55 ∷ 54 ∷ 53 ∷ 52 ∷ 51 ∷ 50 ∷ 49 ∷ 13 ∷ 10 ∷ []

-- <?xml version="1.0" encoding="windows-1251"?><response><code>0</code><authcode>1</authcode><date>2005-09-20T15:55:00</date></response>
abbrev pub answer1 : List ℕ
answer1 = 60 ∷ 63 ∷ 120 ∷ 109 ∷ 108 ∷ 32 ∷ 118 ∷ 101 ∷ 114 ∷ 115 ∷ 105 ∷ 111 ∷ 110 ∷ 61 ∷ 34 ∷ 49 ∷ 46 ∷ 48 ∷ 34 ∷ 32 ∷ 101 ∷ 110 ∷ 99 ∷ 111 ∷ 100 ∷ 105 ∷ 110 ∷ 103 ∷ 61 ∷ 34 ∷ 119 ∷ 105 ∷ 110 ∷ 100 ∷ 111 ∷ 119 ∷ 115 ∷ 45 ∷ 49 ∷ 50 ∷ 53 ∷ 49 ∷ 34 ∷ 63 ∷ 62 ∷ 60 ∷ 114 ∷ 101 ∷ 115 ∷ 112 ∷ 111 ∷ 110 ∷ 115 ∷ 101 ∷ 62 ∷ 60 ∷ 99 ∷ 111 ∷ 100 ∷ 101 ∷ 62 ∷ 48 ∷ 60 ∷ 47 ∷ 99 ∷ 111 ∷ 100 ∷ 101 ∷ 62 ∷ 60 ∷ 97 ∷ 117 ∷ 116 ∷ 104 ∷ 99 ∷ 111 ∷ 100 ∷ 101 ∷ 62 ∷ 49 ∷ 60 ∷ 47 ∷ 97 ∷ 117 ∷ 116 ∷ 104 ∷ 99 ∷ 111 ∷ 100 ∷ 101 ∷ 62 ∷ 60 ∷ 100 ∷ 97 ∷ 116 ∷ 101 ∷ 62 ∷ 50 ∷ 48 ∷ 48 ∷ 53 ∷ 45 ∷ 48 ∷ 57 ∷ 45 ∷ 50 ∷ 48 ∷ 84 ∷ 49 ∷ 53 ∷ 58 ∷ 53 ∷ 53 ∷ 58 ∷ 48 ∷ 48 ∷ 60 ∷ 47 ∷ 100 ∷ 97 ∷ 116 ∷ 101 ∷ 62 ∷ 60 ∷ 47 ∷ 114 ∷ 101 ∷ 115 ∷ 112 ∷ 111 ∷ 110 ∷ 115 ∷ 101 ∷ 62 ∷ []

-- 2005-09-20T15:55:00
abbrev pub clock1 : List ℕ
clock1 = 50 ∷ 48 ∷ 48 ∷ 53 ∷ 45 ∷ 48 ∷ 57 ∷ 45 ∷ 50 ∷ 48 ∷ 84 ∷ 49 ∷ 53 ∷ 58 ∷ 53 ∷ 53 ∷ 58 ∷ 48 ∷ 48 ∷ []

-- 2005-09-20T16:00:00
abbrev pub clock2 : List ℕ
clock2 = 50 ∷ 48 ∷ 48 ∷ 53 ∷ 45 ∷ 48 ∷ 57 ∷ 45 ∷ 50 ∷ 48 ∷ 84 ∷ 49 ∷ 54 ∷ 58 ∷ 48 ∷ 48 ∷ 58 ∷ 48 ∷ 48 ∷ []

-- 2005-09-20T16:05:00
abbrev pub clock3 : List ℕ
clock3 = 50 ∷ 48 ∷ 48 ∷ 53 ∷ 45 ∷ 48 ∷ 57 ∷ 45 ∷ 50 ∷ 48 ∷ 84 ∷ 49 ∷ 54 ∷ 58 ∷ 48 ∷ 53 ∷ 58 ∷ 48 ∷ 48 ∷ []

-- 2005-09-20T16:10:00
abbrev pub clock4 : List ℕ
clock4 = 50 ∷ 48 ∷ 48 ∷ 53 ∷ 45 ∷ 48 ∷ 57 ∷ 45 ∷ 50 ∷ 48 ∷ 84 ∷ 49 ∷ 54 ∷ 58 ∷ 49 ∷ 48 ∷ 58 ∷ 48 ∷ 48 ∷ []

-- 2005-09-21T09:00:00
abbrev pub clock5 : List ℕ
clock5 = 50 ∷ 48 ∷ 48 ∷ 53 ∷ 45 ∷ 48 ∷ 57 ∷ 45 ∷ 50 ∷ 49 ∷ 84 ∷ 48 ∷ 57 ∷ 58 ∷ 48 ∷ 48 ∷ 58 ∷ 48 ∷ 48 ∷ []

-- 2005-09-21T09:05:00
abbrev pub clock6 : List ℕ
clock6 = 50 ∷ 48 ∷ 48 ∷ 53 ∷ 45 ∷ 48 ∷ 57 ∷ 45 ∷ 50 ∷ 49 ∷ 84 ∷ 48 ∷ 57 ∷ 58 ∷ 48 ∷ 53 ∷ 58 ∷ 48 ∷ 48 ∷ []

-- K3 to K6: payments with other amounts, receipts and dates

-- 9999999.99
abbrev pub amount_most : List ℕ
amount_most = payment_text (57 ∷ 57 ∷ 57 ∷ 57 ∷ 57 ∷ 57 ∷ 57 ∷ 46 ∷ 57 ∷ 57 ∷ []) receipt1 date1

-- 10000000
abbrev pub amount_over : List ℕ
amount_over = payment_text (49 ∷ 48 ∷ 48 ∷ 48 ∷ 48 ∷ 48 ∷ 48 ∷ 48 ∷ []) receipt1 date1

-- 0.01
abbrev pub one_kopeck : List ℕ
one_kopeck = payment_text (48 ∷ 46 ∷ 48 ∷ 49 ∷ []) receipt1 date1

-- 0.00
abbrev pub no_kopecks : List ℕ
no_kopecks = payment_text (48 ∷ 46 ∷ 48 ∷ 48 ∷ []) receipt1 date1

-- 10.
abbrev pub point_alone : List ℕ
point_alone = payment_text (49 ∷ 48 ∷ 46 ∷ []) receipt1 date1

-- 10.125
abbrev pub three_decimals : List ℕ
three_decimals = payment_text (49 ∷ 48 ∷ 46 ∷ 49 ∷ 50 ∷ 53 ∷ []) receipt1 date1

-- 7.5
abbrev pub one_decimal : List ℕ
one_decimal = payment_text (55 ∷ 46 ∷ 53 ∷ []) receipt1 date1

-- 999999999999999
abbrev pub receipt_most : List ℕ
receipt_most = payment_text amount1 (57 ∷ 57 ∷ 57 ∷ 57 ∷ 57 ∷ 57 ∷ 57 ∷ 57 ∷ 57 ∷ 57 ∷ 57 ∷ 57 ∷ 57 ∷ 57 ∷ 57 ∷ []) date1

-- 9999999999999999
abbrev pub receipt_long : List ℕ
receipt_long = payment_text amount1 (57 ∷ 57 ∷ 57 ∷ 57 ∷ 57 ∷ 57 ∷ 57 ∷ 57 ∷ 57 ∷ 57 ∷ 57 ∷ 57 ∷ 57 ∷ 57 ∷ 57 ∷ 57 ∷ []) date1

-- 0
abbrev pub receipt_zero : List ℕ
receipt_zero = payment_text amount1 (48 ∷ []) date1

-- 2024-02-29T15:53:00
abbrev pub leap_date : List ℕ
leap_date = payment_text amount1 receipt1 (50 ∷ 48 ∷ 50 ∷ 52 ∷ 45 ∷ 48 ∷ 50 ∷ 45 ∷ 50 ∷ 57 ∷ 84 ∷ 49 ∷ 53 ∷ 58 ∷ 53 ∷ 51 ∷ 58 ∷ 48 ∷ 48 ∷ [])

-- 2023-02-29T15:53:00
abbrev pub no_leap_date : List ℕ
no_leap_date = payment_text amount1 receipt1 (50 ∷ 48 ∷ 50 ∷ 51 ∷ 45 ∷ 48 ∷ 50 ∷ 45 ∷ 50 ∷ 57 ∷ 84 ∷ 49 ∷ 53 ∷ 58 ∷ 53 ∷ 51 ∷ 58 ∷ 48 ∷ 48 ∷ [])

-- K11: a new receipt of the day that K9 closes

-- 987654322, 2005-09-20T15:54:00
abbrev pub payment2 : List ℕ
payment2 = payment_text amount1 (57 ∷ 56 ∷ 55 ∷ 54 ∷ 53 ∷ 52 ∷ 51 ∷ 50 ∷ 50 ∷ []) (50 ∷ 48 ∷ 48 ∷ 53 ∷ 45 ∷ 48 ∷ 57 ∷ 45 ∷ 50 ∷ 48 ∷ 84 ∷ 49 ∷ 53 ∷ 58 ∷ 53 ∷ 52 ∷ 58 ∷ 48 ∷ 48 ∷ [])

-- ---- the start: closed 2005-09-19, a lent table of four records with none used, and account12 of type 1 opened by the call
abbrev pub day19 : Day
day19 = record { year = 2005; month = 9; day = 19 }

abbrev pub day20 : Day
day20 = record { year = 2005; month = 9; day = 20 }

abbrev pub day22 : Day
day22 = record { year = 2005; month = 9; day = 22 }

abbrev pub account12 : Number
account12 = number_of account12_text

abbrev pub empty_gate : Gate
empty_gate =
    record {
      accounts = replicate 256 (record { number = record { bytes = replicate 30 0; len = 0 }; kind = 0; balance = pos 0 });
      count = 0;
      closed = day19;
      used = 0;
    }

abbrev pub empty_rows : Rows
empty_rows = record { nums = replicate 4 (replicate 6 0); numbers = replicate 4 (replicate 30 0); dates = replicate 4 (replicate 3 (replicate 19 0)) }

-- an answer's buffer, and a report's
abbrev pub blank : List ℕ
blank = replicate 512 0

unfoldable pub opens : Reply
opens = open_account empty_gate empty_rows account12 1

-- ---- the runs
-- a request at the start
unfoldable pub at_start : List ℕ → Delivery
at_start params = deliver opens.gate empty_rows clock1 params blank

-- K1, and again
unfoldable pub pays : Delivery
pays = at_start payment1

unfoldable pub pays_again : Delivery
pays_again = deliver pays.gate pays.rows clock2 payment1 blank

-- K1, draw 1
unfoldable pub draws : Reply
draws = draw_funds pays.gate pays.rows account12 1 1

-- K7: K1, draw 1, cancel
unfoldable pub cancels_drawn : Delivery
cancels_drawn = deliver draws.gate pays.rows clock3 cancel1 blank

-- K8: K1, cancel, payment again
unfoldable pub cancels : Delivery
cancels = deliver pays.gate pays.rows clock3 cancel1 blank

unfoldable pub pays_cancelled : Delivery
pays_cancelled = deliver cancels.gate cancels.rows clock4 payment1 blank

-- K9: K1, draw 1, empty registry
unfoldable pub settles_none : Delivery
settles_none = settle draws.gate pays.rows clock5 day20 [] blank

-- K10: K8, registry with K1's line
unfoldable pub settles_line : Delivery
settles_line = settle pays_cancelled.gate pays_cancelled.rows clock5 day20 line1 blank

-- K11: after K9 a new receipt of that day
unfoldable pub pays_late : Delivery
pays_late = deliver settles_none.gate settles_none.rows clock6 payment2 blank

-- K12: after K9 day 2005-09-22
unfoldable pub settles_later : Delivery
settles_later = settle settles_none.gate settles_none.rows clock6 day22 [] blank
