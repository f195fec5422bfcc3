-- A line leaves balances that can be summed: it moves at most one, and only where all are in the bound of row 68.
use Rattle.std.specs.Prelude.{Option, Some, None}
use Rattle.days.specs.declared.calendar.Day.{Day}
use Prim.Native.Nat.{ℕ, zero, suc, ◌+◌, ◌<◌, ◌≤◌}
use native.Mathlib.Decide.{ℕ_discrete}
use native.Mathlib.Omega.{arith}
use mathlib.Core.Path.{◌≡◌, refl, sym, ap, ◌∙◌, subst}
use mathlib.Core.Bool.{true, false, not, ◌&&◌}
use mathlib.Core.List.{List, [], ◌∷◌}
use lib.Dec.{eqb, leb}
use lib.IntN.{ℤ, pos, ◌+ℤ◌}
use lib.Signed.{mag, lt_z}
use lib.ListN.{length, get_or, set, replicate, length-set}
use borrow.Author.Tests.{leb-false, not-true}
use Rattle.fields.specs.declared.number.Number.{Number}
use Rattle.texts.specs.Digits.{digits_read}
use Rattle.fields.specs.Amount.{is_amount}
use Rattle.fields.specs.Codes.{is_kind}
use Rattle.fields.specs.Number.{is_number}
use Rattle.days.specs.Calendar.{day_read}
use Rattle.texts.proofs.Tests.{and_right, cond-elim}
use Rattle.payments.specs.declared.Instruction.{Instruction}
use Rattle.message.specs.Request.{request_read, fault_number}
use Rattle.lists.specs.Lists.{is_found}
use Rattle.table.specs.declared.Account.{Account}
use Rattle.table.specs.declared.Gate.{Gate}
use Rattle.table.specs.Table.{Rows}
use Rattle.table.specs.Accounts.{accounts_of, find_account, no_account, balance_at, with_balance, credited, debited, with_used, opened}
use Rattle.validity.specs.Valid.{table_good}
use Rattle.table.proofs.AccountLaws.{holder-within}
use Rattle.validity.proofs.RangeLaws.{near-mag}
use Rattle.table.proofs.SignedLaws.{mag_up}
use Rattle.ledger.specs.declared.Reply.{Reply}
use Rattle.opening.specs.Opening.{open_to, open_account, draw_on, draw_from, draw_funds}
use Rattle.planning.specs.Plan.{is_short}
use Rattle.ledger.specs.Change.{debited_at}
use Rattle.gate.specs.Deliver.{instruction_in, deliver, respond}
use Rattle.admission.specs.Delivery.{Delivery}
use Rattle.gate.proofs.DeliverLaws.{asked-amount}
use Rattle.gate_theorems.proofs.OutcomeLaws.{Outcome, stays, appends, revokes, outcome}
use Rattle.gate_theorems.proofs.KeepsLaws.{delivered-by}
use Rattle.validity.proofs.GoodLaws.{Near, near-table}
use Rattle.gate_theorems.proofs.RowsLaws.{SameNames, names-moved, names-debited}
use Rattle.gate_theorems.proofs.CallLaws.{near-debited, opened-other, opened-new}
use Rattle.orders.specs.Order.{Console}
use Rattle.orders.specs.Order.{Turn, number_in, kind_in, clock_in, draw_of, start_on, start_turn, open_turn, draw_turn, ask_turn, list_of, list_turn, order_turn, line_turn}
use Rattle.line_fields.specs.LineFields.{field_at, field_count, has_letter, params_in}
use Rattle.figures.specs.Sums.{Summable}

abbrev Small : Account → Type 0
Small a = mag a.balance ≤ 20000000000000

abbrev Sums : Reply → Type 0
Sums r = Summable r.gate

-- a gate with no account in use has nothing to sum
pub none-summable : (g : Gate) → length g.accounts ≡ 256 → g.count ≡ 0 → Summable g
none-summable g places none = record { places = places; count = omega arith; balances = λ i h. absurd (omega arith) }

-- what holds of a new element and of an old one holds where the new one is set
set-each : (P : Account → Type 0) (l : List Account) (i j : ℕ) (x : Account) → P x → P (get_or l j no_account) → P (get_or (set l i x) j no_account)
set-each P [] i j x new old = old
set-each P (y ∷ l) zero zero x new old = new
set-each P (y ∷ l) zero (suc j) x new old = old
set-each P (y ∷ l) (suc i) zero x new old = old
set-each P (y ∷ l) (suc i) (suc j) x new old = set-each P l i j x new old

module _ (g : Gate) (s : Summable g) where
  -- ---- an opening
  opened-small : (n : Number) (k : ℕ) → g.count < length g.accounts → (i : ℕ) → i < g.count + 1 → Dec (i ≡ g.count) → mag (balance_at (opened g n k) i) ≤ 20000000000000
  opened-small n k room i h (yes e) = subst Small (sym (ap (λ (j : ℕ). get_or (opened g n k).accounts j no_account) e ∙ opened-new g n k room)) (omega arith)
  opened-small n k room i h (no d) =
      let l : i < g.count = omega arith in
      subst Small (sym (opened-other g n k room i l)) (s.balances i l)

  opened-summable : (n : Number) (k : ℕ) → g.count < 256 → Summable (opened g n k)
  unfolding opened
  opened-summable n k few =
      let room : g.count < length g.accounts = omega (arith, s.places) in
      record {
        places = length-set g.accounts g.count _ ∙ s.places;
        count = omega arith;
        balances = λ i h. opened-small n k room i h (ℕ_discrete i g.count);
      }

  open-summable : (t : Rows) (n : Number) (k : ℕ) → Sums (open_account g t n k)
  unfolding open_account open_to
  open-summable t n k =
      cond-elim Sums (table_good g t) _ _
      (λ _. cond-elim Sums (is_number n && is_kind k) _ _
      (λ _. cond-elim Sums (is_found (find_account n k (accounts_of g))) _ _ (λ _. s)
      (λ _. cond-elim Sums (leb 256 g.count) _ _ (λ _. s) (λ few. opened-summable n k (leb-false 256 g.count few))))
      (λ _. s))
      (λ _. s)

  -- ---- a balance that is moved where row 68 passed
  module _ (t : Rows) (good : table_good g t ≡ true) where
    bound : Near g
    bound = near-table g t s.places good

    near-summable : (g' : Gate) → SameNames g g' → Near g' → Summable g'
    near-summable g' names near =
        record {
          places = names.places ∙ s.places;
          count = omega (arith, names.count, s.count);
          balances = λ i h. omega (arith, near-mag (balance_at g' i) (near.balances i h));
        }

    debited-summable : (f : Option ℕ) (n : Number) (k m : ℕ) → f ≡ find_account n k (accounts_of g) → is_short g f m ≡ false → Summable (debited_at g f m)
    debited-summable None n k m is funds = s
    debited-summable (Some a) n k m is funds =
        near-summable (debited g a m) (names-debited g (Some a) m) (near-debited g a m bound (holder-within g n k a (Some a) is refl) funds)

    credited-summable : (a m used : ℕ) → a < g.count → m < 1000000000 → Summable (with_used (credited g a m) used)
    unfolding credited
    credited-summable a m used h few =
        let z : ℤ = balance_at g a +ℤ pos m in
        record {
          places = (names-moved z g a).places ∙ s.places;
          count = s.count;
          balances = λ i l.
              set-each Small g.accounts a i (with_balance (get_or g.accounts a no_account) z)
              (omega (arith, few, mag_up (balance_at g a) m, near-mag (balance_at g a) (bound.balances a h)))
              (s.balances i l);
        }

    draw-on-summable : (f : Option ℕ) (n : Number) (k m : ℕ) → f ≡ find_account n k (accounts_of g) → Sums (draw_on g f m)
    unfolding draw_on
    draw-on-summable None n k m is = s
    draw-on-summable (Some a) n k m is =
        cond-elim Sums (is_amount m && not (lt_z (balance_at g a) (pos m))) _ _
        (λ covered. debited-summable (Some a) n k m is (not-true _ (and_right (is_amount m) _ covered)))
        (λ _. s)

    outcome-summable : (clock : List ℕ) (q : Instruction) (d : Delivery) → q.details.amount < 1000000000 → Outcome g t clock q d → Summable d.gate
    outcome-summable clock q d few (stays eg er) = rw eg s
    outcome-summable clock q d few (appends a ea en ef fu day ec eg er) =
        rw eg (credited-summable a q.details.amount (g.used + 1) (holder-within g q.details.number q.details.kind a (find_account q.details.number q.details.kind (accounts_of g)) refl ef) few)
    outcome-summable clock q d few (revokes i r f ea ei er ef es day fu ec eg el) = rw eg (debited-summable f r.number r.kind r.amount ef fu)

  draw-summable : (t : Rows) (n : Number) (k m : ℕ) → Sums (draw_funds g t n k m)
  unfolding draw_funds draw_from
  draw-summable t n k m =
      cond-elim Sums (table_good g t) _ _
      (λ good. cond-elim Sums (is_number n && is_kind k) _ _ (λ _. draw-on-summable t good (find_account n k (accounts_of g)) n k m refl) (λ _. s))
      (λ _. s)

  deliver-summable : (t : Rows) (clock params out : List ℕ) → Summable (deliver g t clock params out).gate
  deliver-summable t clock params out =
      let f : ℕ = fault_number (request_read params) in
      let q : Instruction = instruction_in params in
      delivered-by g t clock params out (λ (d : Delivery). Summable d.gate) (λ code left size. s)
      (λ good _. outcome-summable t good clock q (respond g t clock f q out) (asked-amount params (request_read params) refl _ refl) (outcome g t clock f q out))

-- ---- a line
module _ (x : Console) (t : Rows) (l : List ℕ) (s : Summable x.gate) where
  abbrev Left : Turn → Type 0
  Left r = Summable r.console.gate

  start-on-summable : (d : Option Day) → Left (start_on x t d)
  start-on-summable None = s
  start-on-summable (Some d) = record { places = s.places; count = s.count; balances = s.balances }

  start-summable : Left (start_turn x t l)
  unfolding start_turn
  start-summable = cond-elim Left (has_letter 67 l && eqb (field_count l) 2) _ _ (λ _. start-on-summable (day_read (field_at 1 l))) (λ _. s)

  draw-of-summable : (d : Option ℕ) → Left (draw_of x t l d)
  draw-of-summable None = s
  draw-of-summable (Some m) = draw-summable x.gate s t (number_in l) (kind_in l) m

  list-of-summable : (d : Option Day) → Left (list_of x t d)
  list-of-summable None = s
  list-of-summable (Some d) = cond-elim Left (table_good x.gate t) _ _ (λ _. s) (λ _. s)

  order-summable : Left (order_turn x t l)
  unfolding order_turn open_turn draw_turn ask_turn list_turn
  order-summable =
      cond-elim Left (has_letter 79 l && eqb (field_count l) 3) _ _
      (λ _. open-summable x.gate s t (number_in l) (kind_in l))
      (λ _. cond-elim Left (has_letter 68 l && eqb (field_count l) 4) _ _
      (λ _. draw-of-summable (digits_read 15 (field_at 3 l)))
      (λ _. cond-elim Left (has_letter 82 l && leb 3 (field_count l)) _ _
      (λ _. deliver-summable x.gate s t (clock_in l) (params_in l) (replicate 512 0))
      (λ _. cond-elim Left (has_letter 80 l && eqb (field_count l) 2) _ _
      (λ _. list-of-summable (day_read (field_at 1 l)))
      (λ _. s))))

  -- balances that can be summed stay so
  pub turn-summable : Summable (line_turn x t l).console.gate
  unfolding line_turn
  turn-summable = cond-elim Left x.started (order_turn x t l) (start_turn x t l) (λ _. order-summable) (λ _. start-summable)
