-- Laws of a day that is settled.
use Prim.Native.Nat.{ℕ, suc, ◌≤◌}
use native.Mathlib.Omega.{arith}
use mathlib.Core.Path.{◌≡◌, refl, sym, ap, ◌∙◌}
use mathlib.Core.List.{List, [], ◌∷◌}
use lib.ListN.{length, length-map}
use Rattle.days.specs.declared.calendar.Day.{Day}
use Rattle.texts.specs.Lists.{over, written}
use Rattle.texts.proofs.OutLaws.{written_over}
use Rattle.lines.specs.declared.line.Line.{Line}
use Rattle.table.specs.declared.Gate.{Gate}
use Rattle.table.specs.declared.Record.{Record}
use Rattle.table.specs.Table.{Rows, records_of, rows_from}
use Rattle.table.specs.Accounts.{with_closed}
use Rattle.posting.specs.Posting.{Ledger, ledger_of}
use Rattle.clearing.specs.Clearing.{settle_lines, swept_record, swept, report_of}
use Rattle.closing.specs.Closing.{settle_day, reported}
use Rattle.admission.specs.Delivery.{Delivery}
use Rattle.posting.specs.Steps.{Left}
use Rattle.line_rows.specs.Lines.{Read}
use Rattle.clearing.proofs.LinesLaws.{from-from}

-- one byte a line
pub report-length : (xs : List Line) (rs : List Record) → length (report_of xs rs) ≡ length xs
unfolding report_of
report-length [] rs = refl
report-length (x ∷ xs) rs = ap suc (report-length xs rs)

pub report-written : (xs : List Line) (rs : List Record) (out : List ℕ) → length xs ≤ 512 → 512 ≤ length out → over out 0 (report_of xs rs) ≡ written out 0 (report_of xs rs)
report-written xs rs out a b = written_over out 0 (report_of xs rs) (omega (arith, report-length xs rs))

-- ---- a day that is settled and swept
module _ (g : Gate) (t : Rows) (clock : List ℕ) (day : Day) (xs : List Line)
    (a : Gate) (t₁ : Rows) (left₁ : Left t (settle_lines clock (length t.nums) xs (ledger_of g t)) a t₁)
    (is₁ : settle_lines clock (length t.nums) xs (ledger_of g t) ≡ ledger_of a t₁)
    (b : Gate) (t₂ : Rows) (left₂ : Left t₁ (swept clock day xs (ledger_of a t₁)) b t₂) (is₂ : swept clock day xs (ledger_of a t₁) ≡ ledger_of b t₂) where
  as_many : length (records_of t₂ b.used) ≡ length (records_of t₁ a.used)
  unfolding swept
  as_many = ap (λ (l : Ledger). length l.records) (sym is₂) ∙ length-map (records_of t₁ a.used) (swept_record clock day xs)

  pub day-rows : t₂ ≡ rows_from t (records_of t₂ b.used)
  day-rows =
      let one : t₁ ≡ rows_from t (records_of t₁ a.used) = left₁.left ∙ ap (λ (l : Ledger). rows_from t l.records) is₁ in
      left₂.left ∙ ap (λ (l : Ledger). rows_from t₁ l.records) is₂
      ∙ ap (λ (y : Rows). rows_from y (records_of t₂ b.used)) one
      ∙ from-from t (records_of t₁ a.used) (records_of t₂ b.used) (omega (arith, as_many))

-- ---- and then closed
module _ (g : Gate) (t : Rows) (clock : List ℕ) (day : Day) (xs : List Line) (out : List ℕ) (read : Read xs) (room : 512 ≤ length out)
    (b : Gate) (t₂ : Rows) (is : swept clock day xs (settle_lines clock (length t.nums) xs (ledger_of g t)) ≡ ledger_of b t₂)
    (rows : t₂ ≡ rows_from t (records_of t₂ b.used)) where
  pub day-settled : (out' : List ℕ) → out' ≡ over out 0 (report_of xs (records_of t₂ b.used))
      → ◌≡◌ {A = Delivery} (record { code = 0; gate = with_closed b day; rows = t₂; out = out'; size = length xs }) (settle_day g t clock day xs out)
  unfolding settle_day
  day-settled out' e =
      rw is
      (ap (λ (y : Rows). record { code = 0; gate = with_closed b day; rows = y; out = out'; size = length xs }) rows
      ∙ ap (λ (y : List ℕ). record { code = 0; gate = with_closed b day; rows = rows_from t (records_of t₂ b.used); out = y; size = length xs })
      (e ∙ report-written xs (records_of t₂ b.used) out read.few room))

-- ---- a day that is only reported
module _ (g : Gate) (t : Rows) (xs : List Line) (out : List ℕ) (read : Read xs) (room : 512 ≤ length out) where
  pub day-reported : (out' : List ℕ) → out' ≡ over out 0 (report_of xs (records_of t g.used))
      → ◌≡◌ {A = Delivery} (record { code = 0; gate = g; rows = t; out = out'; size = length xs }) (reported g t xs out)
  day-reported out' e = rw (e ∙ report-written xs (records_of t g.used) out read.few room)
