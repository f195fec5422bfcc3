-- A start, and a story of runs from it by computation: no theorem of this crate is empty. The table has four places, the book six; receipts are given from 1001 on.
-- Each run starts where the one before it ended.
use Prim.Native.Nat.{ℕ}
use mathlib.Core.Path.{◌≡◌, refl}
use mathlib.Core.Logic.{inl, inr}
use mathlib.Core.Bool.{Bool, true, false}
use mathlib.Core.List.{List, [], ◌∷◌, ◌++◌, map}
use mathlib.Core.Option.{some}
use lib.IntN.{ℤ, pos}
use lib.ListN.{length, replicate, get_elem?}
use Rattle.days.specs.declared.calendar.Day.{Day}
use Rattle.fields.specs.declared.number.Number.{Number}
use Rattle.fields.specs.Number.{number_of}
use Rattle.table.specs.declared.Record.{Record}
use Rattle.table.specs.Accounts.{no_account, balance_at}
use Rattle.book.specs.declared.Entry.{Entry}
use Rattle.book.specs.declared.State.{State}
use Rattle.book.specs.declared.State.TheVariants.{Asked, Credited, CancelAsked, Cancelled, Unposted}
use Rattle.book.specs.Entries.{state_of}
use Rattle.channel.specs.World.{sent_report, World, Step, opens, draws, accepts, writes_check, writes_payment, writes_status, writes_cancel, freezes, writes_registry, delivers, request_arrives, registry_arrives, answer_arrives, report_arrives, opening, drawing, accepting, checking, writing, freezing, listing, step, run, codes}
use Rattle.channel.specs.Claim.{Start, Lent, records_in, entries_in, done_of, drawn_of, Paid, done_sum, drawn_sum, done_on, credited_on, placed, by_number, total, ReportDelivered, SettledDay}
use Rattle.fields.specs.Amount as FiAmount
use Rattle.days.specs.Calendar as FiCalendar
use Rattle.dates.specs.Date as FiDate
use Rattle.texts.specs.Digits as FiDigits
use Rattle.texts.specs.Lists as FiLists
use Rattle.fields.specs.Number as FiNumber
use Rattle.coding.specs.Params as CoParams
use Rattle.coding.specs.Url as CoUrl
use Rattle.parameters.specs.Names as MeNames
use Rattle.message.specs.Request as MeRequest
use Rattle.message.specs.RequestText as MeRequestText
use Rattle.parameters.specs.Slots as MeSlots
use Rattle.answers.specs.Answer as AnAnswer
use Rattle.answer_reader.specs.AnswerRead as AnAnswerRead
use Rattle.lines.specs.Line as ReLine
use Rattle.registry.specs.Registry as ReRegistry
use Rattle.registry.specs.Report as ReReport
use Rattle.lists.specs.Lent as LiLent
use Rattle.lists.specs.Lists as LiLists
use Rattle.table.specs.Accounts as TaAccounts
use Rattle.table.specs.Daily as TaDaily
use Rattle.table.specs.Table as TaTable
use Rattle.validity.specs.Valid as VaValid
use Rattle.rules.specs.Decision as RuDecision
use Rattle.rules.specs.Answering as RuAnswering
use Rattle.planning.specs.Plan as LePlan
use Rattle.ledger.specs.Change as LeChange
use Rattle.gate.specs.Deliver as GaDeliver
use Rattle.opening.specs.Opening as OpOpening
use Rattle.posting.specs.Posting as PoPosting
use Rattle.clearing.specs.Clearing as ClClearing
use Rattle.closing.specs.Closing as ClClosing
use Rattle.settlement.specs.Settle as SeSettle
use Rattle.book_validity.specs.BookValid as BoBookValid
use Rattle.book.specs.Entries as BoEntries
use Rattle.acceptance.specs.Acceptance as AcAcceptance
use Rattle.daybook.specs.Freezing as DaFreezing
use Rattle.listing.specs.Listing as LiListing
use Rattle.answering.specs.Answering as AgAnswering
use Rattle.writing.specs.Writing as AgWriting
use Rattle.asking.specs.Asking as AsAsking
use Rattle.reporting.specs.Reporting as ReReporting
use Rattle.marking.specs.Marking as MaMarking

-- ---- what the steps are about
abbrev pub day19 : Day
day19 = record { year = 2005; month = 9; day = 19 }

abbrev pub day20 : Day
day20 = record { year = 2005; month = 9; day = 20 }

abbrev pub day21 : Day
day21 = record { year = 2005; month = 9; day = 21 }

-- 2005-09-20T15:53:00
abbrev pub date20 : List ℕ
date20 = 50 ∷ 48 ∷ 48 ∷ 53 ∷ 45 ∷ 48 ∷ 57 ∷ 45 ∷ 50 ∷ 48 ∷ 84 ∷ 49 ∷ 53 ∷ 58 ∷ 53 ∷ 51 ∷ 58 ∷ 48 ∷ 48 ∷ []

-- 2005-09-21T10:00:00
abbrev pub date21 : List ℕ
date21 = 50 ∷ 48 ∷ 48 ∷ 53 ∷ 45 ∷ 48 ∷ 57 ∷ 45 ∷ 50 ∷ 49 ∷ 84 ∷ 49 ∷ 48 ∷ 58 ∷ 48 ∷ 48 ∷ 58 ∷ 48 ∷ 48 ∷ []

-- 2005-09-20T15:55:00
abbrev pub clock : List ℕ
clock = 50 ∷ 48 ∷ 48 ∷ 53 ∷ 45 ∷ 48 ∷ 57 ∷ 45 ∷ 50 ∷ 48 ∷ 84 ∷ 49 ∷ 53 ∷ 58 ∷ 53 ∷ 53 ∷ 58 ∷ 48 ∷ 48 ∷ []

-- account12, which is opened, and nobody, which isn't
abbrev pub account12 : Number
account12 = number_of (97 ∷ 99 ∷ 99 ∷ 111 ∷ 117 ∷ 110 ∷ 116 ∷ 49 ∷ 50 ∷ [])

abbrev pub nobody : Number
nobody = number_of (110 ∷ 111 ∷ 98 ∷ 111 ∷ 100 ∷ 121 ∷ [])

-- a lent buffer, of the least size that does for requests, answers and reports, and one for registries
abbrev pub blank : ℕ → List ℕ
blank n = replicate n 0

abbrev pub page : List ℕ
page = blank 512

abbrev pub sheets : List ℕ
sheets = blank 65536

-- ---- the start
abbrev pub first : World
first =
    record {
      gate = record { accounts = replicate 256 no_account; count = 0; closed = day19; used = 0 };
      table = record { nums = replicate 4 (blank 6); numbers = replicate 4 (blank 30); dates = replicate 4 (replicate 3 (blank 19)) };
      book = record { first = 1001; used = 0; frozen = day19; settled = true };
      book_rows = record { nums = replicate 6 (blank 6); numbers = replicate 6 (blank 30); dates = replicate 6 (blank 19) };
      sent = [];
      drawn = [];
    }

-- ---- the runs; what is sent has its place in brackets, and a delivery to the agent needs neither clock nor buffer
-- 1001 is paid: its request [0] arrives, and its answer [1]
abbrev pub paid : List Step
paid = opens account12 1 ∷ accepts account12 1 1012 date20 ∷ writes_payment 1001 page ∷ delivers 0 clock page ∷ delivers 1 [] [] ∷ []

-- the request of 1002 [2] arrives, its answer [3] is lost
abbrev pub lost : List Step
lost = accepts account12 1 500 date20 ∷ writes_payment 1002 page ∷ delivers 2 clock page ∷ []

-- a status [4] and its answer [5] tell it instead
abbrev pub told : List Step
told = writes_status 1002 page ∷ delivers 4 clock page ∷ delivers 5 [] [] ∷ []

-- a draw, and one over what is left
abbrev pub drawn : List Step
drawn = draws account12 1 1000 ∷ draws account12 1 513 ∷ []

-- the cancel of 1001 [6] comes late, the balance is short; its answer [7] arrives, and the payment's answer [1] once more
abbrev pub late : List Step
late = writes_cancel 1001 1 page ∷ delivers 6 clock page ∷ delivers 7 [] [] ∷ delivers 1 [] [] ∷ []

-- the cancel of 1002 [8] succeeds; its answer [9] arrives, and the status's answer [5] once more
abbrev pub cancelled : List Step
cancelled = writes_cancel 1002 2 page ∷ delivers 8 clock page ∷ delivers 9 [] [] ∷ delivers 5 [] [] ∷ []

-- 1003 is for nobody: its request [10] is refused, and the answer [11] arrives; then a buffer that lacks a byte, a place where nothing was sent, and a draw of nothing
abbrev pub refused : List Step
refused =
    accepts nobody 1 700 date20 ∷ writes_payment 1003 page ∷ delivers 10 clock page ∷ delivers 11 [] [] ∷ delivers 10 clock (blank 511)
    ∷ delivers 12 clock page ∷ draws account12 1 0 ∷ []

-- 1004 is paid [12, 13] and cancelled at the gate [14], but that answer [15] doesn't arrive; nor does the request of 1005 [16]
abbrev pub parted : List Step
parted =
    accepts account12 1 300 date20 ∷ writes_payment 1004 page ∷ delivers 12 clock page ∷ delivers 13 [] [] ∷ writes_cancel 1004 3 page
    ∷ delivers 14 clock page ∷ accepts account12 1 200 date20 ∷ writes_payment 1005 page ∷ []

-- a day is frozen in its turn, not the one after it; nothing of it is accepted or written then, and the cancel's answer [15] comes too late
abbrev pub frozen : List Step
frozen = freezes day21 ∷ freezes day20 ∷ freezes day21 ∷ accepts account12 1 100 date20 ∷ writes_payment 1005 page ∷ delivers 15 [] [] ∷ []

-- its registry [17] arrives: 1001 is kept, 1003 not posted, 1004 restored, 1005 posted
abbrev pub settled : List Step
settled = writes_registry day20 sheets ∷ delivers 17 clock page ∷ []

-- its report [18] arrives
abbrev pub reported : List Step
reported = delivers 18 [] [] ∷ []

-- once more the registry, its new report [19] and the first one; then late copies: the request of 1005 [16], which is posted, and the cancel of 1004 [14], whose day is closed
abbrev pub again : List Step
again = delivers 17 clock page ∷ delivers 19 [] [] ∷ delivers 18 [] [] ∷ delivers 16 clock page ∷ delivers 14 clock page ∷ []

-- the table is full when the request of 1006 [22] arrives, and the book with it; the next day is frozen, and settled without 1006 [24, 25]; a check [26] is told the same [27]
abbrev pub full : List Step
full =
    accepts account12 1 600 date21 ∷ writes_payment 1006 page ∷ delivers 22 clock page ∷ accepts account12 1 100 date21 ∷ freezes day21
    ∷ writes_registry day21 sheets ∷ delivers 24 clock page ∷ delivers 25 [] [] ∷ writes_check account12 1 100 page ∷ delivers 26 clock page
    ∷ delivers 27 [] [] ∷ []

-- ---- the worlds that they leave
abbrev pub after_paid : World
after_paid = run paid first

abbrev pub after_lost : World
after_lost = run lost after_paid

abbrev pub after_told : World
after_told = run told after_lost

abbrev pub after_drawn : World
after_drawn = run drawn after_told

abbrev pub after_late : World
after_late = run late after_drawn

abbrev pub after_cancelled : World
after_cancelled = run cancelled after_late

abbrev pub after_refused : World
after_refused = run refused after_cancelled

abbrev pub after_parted : World
after_parted = run parted after_refused

abbrev pub after_frozen : World
after_frozen = run frozen after_parted

abbrev pub after_settled : World
after_settled = run settled after_frozen

abbrev pub after_reported : World
after_reported = run reported after_settled

abbrev pub after_again : World
after_again = run again after_reported

-- ---- what a run shows: the codes of its steps, the states in the book and in the table (1 done, 2 cancelled), the balance of account12, whether the last frozen
-- day is settled in the book, and how much was sent so far
pub record Books : Type 0 where
  pub returned : List ℕ
  pub entries : List State
  pub records : List ℕ
  pub balance : ℤ
  pub settled : Bool
  pub sent : ℕ

abbrev pub books : List Step → World → Books
books ss w =
    record {
      returned = codes ss w;
      entries = map (λ (e : Entry). state_of e.state) (entries_in (run ss w));
      records = map (λ (r : Record). r.state) (records_in (run ss w));
      balance = balance_at (run ss w).gate 0;
      settled = (run ss w).book.settled;
      sent = length (run ss w).sent;
    }

-- a payment of account12 on the 20th
abbrev pub payment : ℕ → ℕ → Paid
payment receipt amount = record { receipt = receipt; number = 97 ∷ 99 ∷ 99 ∷ 111 ∷ 117 ∷ 110 ∷ 116 ∷ 49 ∷ 50 ∷ []; kind = 1; amount = amount; date = date20 }

abbrev pub payments : List Paid
payments = payment 1001 1012 ∷ payment 1004 300 ∷ payment 1005 200 ∷ []

-- the book's and the table's numbers after it: receipt, length of the number, type, kopecks, state, authcode
abbrev pub book_left : List (List ℕ)
book_left =
    (1001 ∷ 9 ∷ 1 ∷ 1012 ∷ 2 ∷ 1 ∷ []) ∷ (1002 ∷ 9 ∷ 1 ∷ 500 ∷ 4 ∷ 2 ∷ []) ∷ (1003 ∷ 6 ∷ 1 ∷ 700 ∷ 5 ∷ 0 ∷ [])
    ∷ (1004 ∷ 9 ∷ 1 ∷ 300 ∷ 2 ∷ 3 ∷ []) ∷ (1005 ∷ 9 ∷ 1 ∷ 200 ∷ 2 ∷ 0 ∷ []) ∷ blank 6 ∷ []

abbrev pub table_left : List (List ℕ)
table_left =
    (1001 ∷ 9 ∷ 1 ∷ 1012 ∷ 1 ∷ 1 ∷ []) ∷ (1002 ∷ 9 ∷ 1 ∷ 500 ∷ 2 ∷ 2 ∷ []) ∷ (1004 ∷ 9 ∷ 1 ∷ 300 ∷ 1 ∷ 3 ∷ []) ∷ (1005 ∷ 9 ∷ 1 ∷ 200 ∷ 1 ∷ 4 ∷ []) ∷ []

-- all steps up to the report, and with it
abbrev pub before : List Step
before = paid ++ (lost ++ (told ++ (drawn ++ (late ++ (cancelled ++ (refused ++ (parted ++ (frozen ++ settled))))))))

abbrev pub story : List Step
story = before ++ reported

pub record Run : Type 0 where
  -- credited in the book, done in the table
  pub paid-books : books paid first
      ≡ record { returned = 0 ∷ 0 ∷ 0 ∷ 0 ∷ 0 ∷ []; entries = Credited ∷ []; records = 1 ∷ []; balance = pos 1012; settled = true; sent = 2 }
  -- done in the table, and the book doesn't know it
  pub lost-books : books lost after_paid
      ≡ record { returned = 0 ∷ 0 ∷ 0 ∷ []; entries = Credited ∷ Asked ∷ []; records = 1 ∷ 1 ∷ []; balance = pos 1512; settled = true; sent = 4 }
  -- now it does
  pub told-books : books told after_lost
      ≡ record { returned = 0 ∷ 0 ∷ 0 ∷ []; entries = Credited ∷ Credited ∷ []; records = 1 ∷ 1 ∷ []; balance = pos 1512; settled = true; sent = 6 }
  -- with the authcodes of the table's places
  pub told-authcode : map (λ (e : Entry). e.authcode) (entries_in after_told) ≡ 1 ∷ 2 ∷ []
  -- the second draw is refused
  pub drawn-books : books drawn after_told
      ≡ record { returned = 0 ∷ 58 ∷ []; entries = Credited ∷ Credited ∷ []; records = 1 ∷ 1 ∷ []; balance = pos 512; settled = true; sent = 6 }
  -- the balance is what is done less what is drawn
  pub drawn-sums : (done_of after_drawn 0 ≡ 1512) × (drawn_of after_drawn 0 ≡ 1000)
  -- 9, which is not final; and the payment's 0 moves nothing after a cancel was written
  pub late-books : books late after_drawn
      ≡ record { returned = 0 ∷ 9 ∷ 0 ∷ 0 ∷ []; entries = CancelAsked ∷ Credited ∷ []; records = 1 ∷ 1 ∷ []; balance = pos 512; settled = true; sent = 8 }
  -- cancelled in the book and in the table
  pub cancelled-books : books cancelled after_late
      ≡ record { returned = 0 ∷ 0 ∷ 0 ∷ 0 ∷ []; entries = CancelAsked ∷ Cancelled ∷ []; records = 1 ∷ 2 ∷ []; balance = pos 12; settled = true; sent = 10 }
  -- 2 leaves it asked; the other refusals send nothing
  pub refused-books : books refused after_cancelled
      ≡ record { returned = 0 ∷ 0 ∷ 2 ∷ 0 ∷ 50 ∷ 1 ∷ 58 ∷ []; entries = CancelAsked ∷ Cancelled ∷ Asked ∷ []; records = 1 ∷ 2 ∷ []; balance = pos 12; settled = true; sent = 12 }
  -- book and table stand apart on 1001, 1004 and 1005
  pub parted-books : books parted after_refused
      ≡ record { returned = 0 ∷ 0 ∷ 0 ∷ 0 ∷ 0 ∷ 0 ∷ 0 ∷ 0 ∷ []; entries = CancelAsked ∷ Cancelled ∷ Asked ∷ CancelAsked ∷ Asked ∷ []; records = 1 ∷ 2 ∷ 2 ∷ []; balance = pos 12; settled = true; sent = 17 }
  -- the refusals around the freezing
  pub frozen-books : books frozen after_parted
      ≡ record { returned = 66 ∷ 0 ∷ 66 ∷ 60 ∷ 63 ∷ 0 ∷ []; entries = CancelAsked ∷ Cancelled ∷ Asked ∷ CancelAsked ∷ Asked ∷ []; records = 1 ∷ 2 ∷ 2 ∷ []; balance = pos 12; settled = false; sent = 17 }
  -- 1004 is done again and 1005 recorded; the book waits for the report
  pub settled-books : books settled after_frozen
      ≡ record { returned = 0 ∷ 0 ∷ []; entries = CancelAsked ∷ Cancelled ∷ Asked ∷ CancelAsked ∷ Asked ∷ []; records = 1 ∷ 2 ∷ 1 ∷ 1 ∷ []; balance = pos 512; settled = false; sent = 19 }
  -- the report has a byte for each of 1001, 1003, 1004, 1005
  pub report : get_elem? (run before first).sent 18 ≡ some (sent_report day20 (49 ∷ 48 ∷ 49 ∷ 49 ∷ []))
  pub settled-sums : (done_of after_settled 0 ≡ 1512) × (drawn_of after_settled 0 ≡ 1000)
  -- the report decides, and the day is settled
  pub reported-books : books reported after_settled
      ≡ record { returned = 0 ∷ []; entries = Credited ∷ Cancelled ∷ Unposted ∷ Credited ∷ Credited ∷ []; records = 1 ∷ 2 ∷ 1 ∷ 1 ∷ []; balance = pos 512; settled = true; sent = 19 }
  pub reported-rows : (after_reported.book_rows.nums ≡ book_left) × (after_reported.table.nums ≡ table_left)
  -- this is the world after the story
  pub whole : run story first ≡ after_reported
  -- both sides have the same three payments, of the same total
  pub credited : by_number (credited_on day20 (entries_in after_reported)) ≡ payments
  pub done : by_number (done_on day20 (records_in after_reported)) ≡ payments
  pub totals : (total (credited_on day20 (entries_in after_reported)) ≡ 1512) × (total (done_on day20 (records_in after_reported)) ≡ 1512)
  -- nothing moves any more
  pub again-books : books again after_reported
      ≡ record { returned = 0 ∷ 0 ∷ 0 ∷ 0 ∷ 9 ∷ []; entries = Credited ∷ Cancelled ∷ Unposted ∷ Credited ∷ Credited ∷ []; records = 1 ∷ 2 ∷ 1 ∷ 1 ∷ []; balance = pos 512; settled = true; sent = 22 }
  pub again-rows : (after_again.book_rows.nums ≡ book_left) × (after_again.table.nums ≡ table_left)
  -- 30, and 61; the next day is frozen with 0
  pub full-books : books full after_again
      ≡ record { returned = 0 ∷ 0 ∷ 30 ∷ 61 ∷ 0 ∷ 0 ∷ 0 ∷ 0 ∷ 0 ∷ 30 ∷ 0 ∷ []; entries = Credited ∷ Cancelled ∷ Unposted ∷ Credited ∷ Credited ∷ Unposted ∷ []; records = 1 ∷ 2 ∷ 1 ∷ 1 ∷ []; balance = pos 512; settled = true; sent = 28 }

-- every definition on the way is computed
pub ran : Run
unfolding FiAmount.kopecks_after FiAmount.amount_read FiAmount.amount_bytes
    FiCalendar.leap_year FiCalendar.days_in FiCalendar.is_date FiCalendar.day_of FiCalendar.next_day FiCalendar.day_before FiCalendar.same_day
    FiCalendar.two_digits FiCalendar.day_part
    FiDate.clock_time FiDate.date_day FiDate.date_read
    FiDigits.digits_read FiDigits.range_read FiDigits.fixed FiDigits.decimal
    FiLists.every FiLists.find FiLists.eq_list FiLists.written FiLists.cursor_after
    FiNumber.number_byte FiNumber.is_number FiNumber.is_number_text FiNumber.number_read FiNumber.same_number
    CoParams.split_at
    CoUrl.is_hex CoUrl.hex_value CoUrl.well_coded CoUrl.decoded CoUrl.is_plain CoUrl.coded_byte CoUrl.coded
    MeNames.name_index MeNames.action_word MeNames.action_of
    MeRequest.held MeRequest.field_of MeRequest.first_fault MeRequest.field_fault MeRequest.nothing_asked MeRequest.fields_asked MeRequest.fields_read
    MeRequest.request_read
    MeRequestText.is_asked MeRequestText.pair MeRequestText.request_bytes MeRequestText.request_text
    MeSlots.add_piece MeSlots.gather_from MeSlots.gathered
    AnAnswer.element AnAnswer.message_of AnAnswer.answer_bytes
    AnAnswerRead.starts AnAnswerRead.is_blank AnAnswerRead.skip_blanks AnAnswerRead.content_of AnAnswerRead.between AnAnswerRead.may_stand
    AnAnswerRead.may_lack_date AnAnswerRead.may_lack AnAnswerRead.filled AnAnswerRead.tag_step AnAnswerRead.part_step AnAnswerRead.open_step
    AnAnswerRead.parts_step AnAnswerRead.end_step AnAnswerRead.answer_read
    ReLine.line_read ReLine.line_body ReLine.line_bytes
    ReRegistry.split_lines ReRegistry.count_of ReRegistry.line_count ReRegistry.good_line ReRegistry.good_lines ReRegistry.held_lines ReRegistry.registry_lines
    ReRegistry.rising ReRegistry.registry_fault ReRegistry.registry_bytes
    ReReport.is_report
    LiLent.lent_well
    LiLists.tab LiLists.first_from LiLists.all_from
    TaAccounts.is_account TaAccounts.find_account TaAccounts.credited TaAccounts.debited TaAccounts.opened
    TaTable.records_of TaTable.rows_from TaTable.find_record TaTable.same_payment
    VaValid.near VaValid.account_good VaValid.gate_good VaValid.state_good VaValid.ranges_good VaValid.account_known VaValid.authcode_good VaValid.record_good
    VaValid.table_good
    RuDecision.check_code RuDecision.payment_new RuDecision.cancel_done RuDecision.decision_on RuDecision.is_fault RuDecision.fault_code RuDecision.decision
    LePlan.date_closed RuAnswering.is_cancel LePlan.account_of LePlan.date_of LePlan.is_full LePlan.view_of LePlan.plan_with LePlan.plan_of
    LeChange.next_authcode LeChange.make_record LeChange.revoked LeChange.changed RuAnswering.answers_authcode RuAnswering.answers_date RuAnswering.answer_date
    RuAnswering.answer_of GaDeliver.respond GaDeliver.deliver
    OpOpening.open_to OpOpening.open_account OpOpening.draw_on OpOpening.draw_from OpOpening.draw_funds
    PoPosting.matches PoPosting.verdict_of PoPosting.restored PoPosting.posted_record PoPosting.applied PoPosting.settle_line ClClearing.settle_lines
    ClClearing.any_matches ClClearing.is_stray ClClearing.swept_record ClClearing.swept_gate ClClearing.sweep_gates ClClearing.swept ClClearing.any_done ClClearing.report_of
    ClClosing.settle_day SeSettle.settle_read SeSettle.settle
    BoBookValid.entry_fields BoBookValid.in_turn BoBookValid.entry_good BoBookValid.day_count BoBookValid.days_good BoBookValid.book_head BoBookValid.book_good
    BoEntries.state_number BoEntries.state_of BoEntries.entries_of BoEntries.book_from BoEntries.find_entry
    DaFreezing.is_frozen AcAcceptance.next_receipt AcAcceptance.made_entry AcAcceptance.may_accept AcAcceptance.has_place AcAcceptance.accept_fault
    AcAcceptance.accept
    DaFreezing.freeze_on DaFreezing.freeze LiListing.is_listed LiListing.listed LiListing.registry_of LiListing.list_on LiListing.write_registry
    AgAnswering.payment_meaning AgAnswering.cancel_meaning AgAnswering.meaning AgAnswering.turned AgAnswering.credits AgAnswering.authcode_after
    AgAnswering.answered_entry AgAnswering.take_at_place AgAnswering.take_receipt AgAnswering.check_code AgAnswering.take_answer
    AsAsking.may_write AsAsking.written_entry AsAsking.request_of AsAsking.forms_good AsAsking.is_open AgWriting.write_at AgWriting.write_request
    AsAsking.check_of AgWriting.write_check
    MaMarking.marked_state MaMarking.marked ReReporting.awaits ReReporting.report_on ReReporting.take_report
    done_sum drawn_sum TaDaily.records_on credited_on placed by_number total
    request_arrives registry_arrives answer_arrives report_arrives opening drawing accepting checking writing freezing listing run codes
ran =
    record {
      paid-books = refl;
      lost-books = refl;
      told-books = refl;
      told-authcode = refl;
      drawn-books = refl;
      drawn-sums = (refl, refl);
      late-books = refl;
      cancelled-books = refl;
      refused-books = refl;
      parted-books = refl;
      frozen-books = refl;
      settled-books = refl;
      report = refl;
      settled-sums = (refl, refl);
      reported-books = refl;
      reported-rows = (refl, refl);
      whole = refl;
      credited = refl;
      done = refl;
      totals = (refl, refl);
      again-books = refl;
      again-rows = (refl, refl);
      full-books = refl;
    }

-- ---- the start is one, and what it lends is a table and a book
pub first-start : Start first
first-start = record { accounts = refl; records = refl; entries = refl; days = refl; settled = refl; sent = refl; drawn = refl; places = refl }

pub first-lent : Lent first
unfolding LiLent.lent_well FiCalendar.leap_year FiCalendar.days_in FiCalendar.is_date
first-lent = record { table = refl; book = refl; first = refl; date = refl }

-- ---- and the 20th is settled by the story
later : (ss rest : List Step) (w : World) (day : Day) → ReportDelivered rest (run ss w) day → ReportDelivered (ss ++ rest) w day
unfolding run
later [] rest w day h = h
later (s ∷ ss) rest w day h = inr (later ss rest (step s w) day h)

pub story-settles : SettledDay first story day20
story-settles = inr (later before reported first day20 (inl (_, ran.report)))
