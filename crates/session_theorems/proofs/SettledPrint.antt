-- What P prints of a settled day, as specs/SettledPrint.antt states it.
use Prim.Native.Nat.{ℕ, suc, ◌+◌}
use mathlib.Core.Path.{◌≡◌, refl, sym, ap, ◌∙◌}
use mathlib.Core.Bool.{Bool, true, false, cond}
use mathlib.Core.List.{List, [], ◌∷◌, map}
use lib.Dec.{eqb, ltb}
use lib.ListN.{length, length-map}
use Rattle.texts.specs.Lists.{eq_list}
use Rattle.coding.specs.Params.{split_at}
use Rattle.days.specs.Calendar.{leap_year, days_in, is_date, day_of, two_digits, day_part, day_read}
use Rattle.texts.proofs.ScanLaws.{eq_list-true}
use Rattle.texts.proofs.Tests.{and_left, and_right}
use Rattle.days.specs.declared.calendar.Day.{Day}
use Rattle.table.specs.declared.Gate.{Gate}
use Rattle.table.specs.declared.Record.{Record}
use Rattle.table.specs.Table.{Rows, records_of, done}
use Rattle.table.specs.Daily.{records_on, total_of}
use Rattle.validity.specs.Valid.{table_good}
use Rattle.line_fields.specs.LineFields.{field_count, field_at, has_letter}
use Rattle.figures.specs.Daily.{day_text}
use Rattle.orders.specs.Order.{list_turn, order_turn, line_turn, shown_text, turn_text}
use Rattle.channel.specs.World.{World, Step, run}
use Rattle.channel.specs.Claim.{Start, Paid, recorded, records_in, entries_in, done_on, credited_on, placed, by_number, total, SettledDay, Safe}
use Rattle.channel.proofs.kept.Reach.{run-reached, start-reached}
use Rattle.channel.proofs.words.Refused.{safe-always}
use Rattle.session_theorems.specs.SettledPrint.{AsksFor, credited_count, credited_total, SettledPrint}

-- ---- the order of a list does not change how many it has
placed-length : (p : Paid) (ps : List Paid) → length (placed p ps) ≡ suc (length ps)
unfolding placed
placed-length p [] = refl
placed-length p (q ∷ ps) = go (ltb q.receipt p.receipt) (placed-length p ps)
  where
    go : (z : Bool) → length (placed p ps) ≡ suc (length ps) → length (cond z (q ∷ placed p ps) (p ∷ (q ∷ ps))) ≡ suc (suc (length ps))
    go true e = ap suc e
    go false e = refl

sorted-length : (ps : List Paid) → length (by_number ps) ≡ length ps
unfolding by_number
sorted-length [] = refl
sorted-length (p ∷ ps) = placed-length p (by_number ps) ∙ ap suc (sorted-length ps)

total-recorded : (rs : List Record) → total (map recorded rs) ≡ total_of rs
unfolding total total_of
total-recorded [] = refl
total-recorded (r ∷ rs) = ap (λ (n : ℕ). r.amount + n) (total-recorded rs)

-- ---- number and kopecks
module _ (w : World) (st : Start w) (ss : List Step) (day : Day) (over : SettledDay w ss day) where
  safe : Safe w ss (run ss w)
  safe = safe-always w st ss

  counts : length (records_on day done (records_in (run ss w))) ≡ credited_count (run ss w) day
  counts =
      sym (length-map (records_on day done (records_in (run ss w))) recorded) ∙ sym (sorted-length (done_on day (records_in (run ss w))))
      ∙ ap length (sym (safe.lists day over)) ∙ sorted-length (credited_on day (entries_in (run ss w)))

  totals : total_of (records_on day done (records_in (run ss w))) ≡ credited_total (run ss w) day
  totals = sym (total-recorded (records_on day done (records_in (run ss w)))) ∙ sym (safe.totals day over)

-- ---- the line
listed-text : (g : Gate) (t : Rows) (l : List ℕ) (day : Day) → AsksFor l day → table_good g t ≡ true
    → turn_text (line_turn (record { started = true; gate = g }) t l) ≡ day_text day (records_of t g.used)
unfolding line_turn order_turn list_turn shown_text eq_list
listed-text g t l day asks good =
    let letter : field_at 0 l ≡ 80 ∷ [] = eq_list-true (field_at 0 l) (80 ∷ []) (and_left (has_letter 80 l) _ asks.form) in
    let count : eqb (field_count l) 2 ≡ true = and_right (has_letter 80 l) _ asks.form in
    rw (letter, count, asks.date, good)

-- ---- demand 3 gives both
pub settled-print : SettledPrint
unfolding day_text
settled-print =
    record {
      agrees = λ w st ss day over. (counts w st ss day over, totals w st ss day over);
      prints = λ w st lent ss day over l asks.
          let u : World = run ss w in
          let good : table_good u.gate u.table ≡ true = (run-reached w ss w (start-reached w st lent)).rep.gate.good in
          listed-text u.gate u.table l day asks good ∙ rw (counts w st ss day over, totals w st ss day over);
    }

-- there are such lines: P 2005-09-20
pub sample-asks : AsksFor (80 ∷ 32 ∷ 50 ∷ 48 ∷ 48 ∷ 53 ∷ 45 ∷ 48 ∷ 57 ∷ 45 ∷ 50 ∷ 48 ∷ []) (record { year = 2005; month = 9; day = 20 })
unfolding split_at eq_list day_read day_part two_digits day_of is_date days_in leap_year
sample-asks = record { form = refl; date = refl }
