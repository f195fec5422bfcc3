-- What a settlement gives: a report of the table that it leaves, and for the next day the settlement itself.
use Prim.Native.Nat.{ℕ, ◌≤◌}
use native.Mathlib.Omega.{arith}
use mathlib.Core.Path.{◌≡◌, refl, sym, ap, ◌∙◌}
use mathlib.Core.Bool.{Bool, true, false, cond}
use mathlib.Core.List.{List, [], ◌∷◌}
use lib.ListN.{length, take}
use borrow.Author.Tests.{eq-eqb, le-leb}
use Rattle.days.specs.declared.calendar.Day.{Day}
use Rattle.texts.specs.Lists.{every}
use Rattle.dates.specs.Date.{is_written}
use Rattle.days.specs.Calendar.{next_day, on_day}
use Rattle.texts.proofs.OutLaws.{text-first}
use Rattle.lines.specs.declared.line.Line.{Line}
use Rattle.registry.specs.Registry.{registry_lines, registry_fault}
use Rattle.registry.specs.Report.{is_mark, is_report}
use Rattle.registry.proofs.LinesGood.{lines-good}
use Rattle.table.specs.declared.Gate.{Gate}
use Rattle.table.specs.declared.Record.{Record}
use Rattle.table.specs.Table.{Rows, records_of}
use Rattle.validity.specs.Valid.{table_good}
use Rattle.clearing.specs.Clearing.{any_done, report_of}
use Rattle.settlement.specs.Settle.{settle_read, settle}
use Rattle.closing.specs.Closing.{settle_day}
use Rattle.admission.specs.Delivery.{Delivery}
use Rattle.closing.proofs.DayLaws.{report-length}
use Rattle.settlement_theorems.proofs.SettleLaws.{settled-by, report-now}

-- every byte of a report is a mark
pub report-marks : (xs : List Line) (rs : List Record) → every is_mark (report_of xs rs) ≡ true
unfolding report_of every
report-marks [] rs = refl
report-marks (x ∷ xs) rs = rw (mark (any_done x rs), report-marks xs rs) refl
  where
    mark : (z : Bool) → is_mark (cond z 49 48) ≡ true
    mark true = refl
    mark false = refl

-- so it is a report of as many lines as it was made for
pub report-is : (xs : List Line) (rs : List Record) → is_report (length xs) (report_of xs rs) ≡ true
unfolding is_report
report-is xs rs = rw (eq-eqb _ _ (report-length xs rs), report-marks xs rs) refl

module _ (g : Gate) (t : Rows) (clock : List ℕ) (day : Day) (text out : List ℕ) where
  abbrev call : Delivery
  call = settle g t clock day text out

  -- ---- every settlement with code 0
  module _ (done : call.code ≡ 0) where
    counted : (call.size ≡ length (registry_lines text)) × (length (registry_lines text) ≤ length out)
    counted =
        settled-by g t clock day text out (λ (d : Delivery). d.code ≡ 0 → (d.size ≡ length (registry_lines text)) × (length (registry_lines text) ≤ length out))
        (λ code n z. absurd (n z))
        (λ p off z. (refl, omega (arith, p.room, (lines-good day text p.faultless).few)))
        (λ p next z. (unfold settle_day in refl, omega (arith, p.room, (lines-good day text p.faultless).few)))
        done

    -- counts a byte for each line of the registry
    pub settle-size : call.size ≡ length (registry_lines text)
    settle-size = counted.0

    -- leaves at the start of the buffer the report of the table that it leaves
    pub settle-report : take call.size call.out ≡ report_of (registry_lines text) (records_of call.rows call.gate.used)
    settle-report =
        let s : List ℕ = report_of (registry_lines text) (records_of call.rows call.gate.used) in
        let l : length s ≡ length (registry_lines text) = report-length (registry_lines text) (records_of call.rows call.gate.used) in
        let fits : length s ≤ length out = omega (arith, l, counted.1) in
        ap (λ (n : ℕ). take n call.out) (settle-size ∙ sym l)
        ∙ ap (take (length s)) (report-now g t clock day text out done)
        ∙ text-first out s fits

    -- and these bytes are a report of as many marks as the registry has lines
    pub settle-reports : is_report (length (registry_lines text)) (take call.size call.out) ≡ true
    settle-reports =
        ap (is_report (length (registry_lines text))) settle-report
        ∙ report-is (registry_lines text) (records_of call.rows call.gate.used)

  -- ---- a faultless registry of the day after the closed one is settled
  module _ (good : table_good g t ≡ true) (room : 512 ≤ length out) (dated : is_written clock ≡ true) (faultless : registry_fault day text ≡ 0) (next : on_day day (next_day g.closed) ≡ true) where
    pub settle-gives : settle g t clock day text out ≡ settle_day g t clock day (registry_lines text) out
    unfolding settle settle_read
    settle-gives = rw (good, le-leb _ _ room, dated, eq-eqb _ _ faultless, next) refl

    -- with code 0
    pub settle-gives-code : (settle g t clock day text out).code ≡ 0
    unfolding settle_day
    settle-gives-code = ap (λ (d : Delivery). d.code) settle-gives

    -- and closed
    pub settle-gives-closed : (settle g t clock day text out).gate.closed ≡ day
    unfolding settle_day
    settle-gives-closed = ap (λ (d : Delivery). d.gate.closed) settle-gives
