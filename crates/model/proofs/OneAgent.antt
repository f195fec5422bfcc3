-- With one agent a payment that it sent is the one that is recorded under its number, so none of its requests gets 4. Assumes nothing.
use Prim.Native.Nat.{ℕ}
use native.Mathlib.Omega.{arith}
use mathlib.Core.Path.{◌≡◌, refl, ◌∙◌}
use mathlib.Core.Bool.{Bool, true, false}
use mathlib.Core.Option.{Option, none, some}
use lib.Dec.{leb}
use Rattle.model.specs.Model.{Line, Row, Stand, Gate, World, Ask, done, void, find, full, eq_line, below, checks, stand_code, pay_again, pay_new, pay_on, status_on, cancel_done, cancel_row, cancel_on, decide, request, ask_check, ask_payment, ask_status, ask_cancel}
use Rattle.model.proofs.Tests.{eq_line-eq}
use Rattle.model.proofs.Cells.{phase, Cell}
use Rattle.model.proofs.Channel.{Ok, Inv}

module _ (w : World) (v : Inv w) where
  -- the record under the number of a payment that was sent is of that payment
  pub own-record : (l : Line) → Ok w (request (ask_payment l)) → (x : Row Stand) → find l.receipt w.gate.table ≡ some x → x.line ≡ l
  own-record l ok x fx =
      let h : Cell (phase w.gate.closed w.agent.frozen w.agent.settled) (some ok.0) (some x) = rw (ok.1, fx) at (v.core.cells l.receipt) in
      h.0 ∙ ok.2

-- ---- codes other than 4
checks-not : (k f : Bool) → checks k f ≡ 4 → ⊥
unfolding checks
checks-not false f e = omega arith
checks-not true true e = omega arith
checks-not true false e = omega arith

stand-not : (s : Stand) → stand_code s ≡ 4 → ⊥
unfolding stand_code
stand-not done e = omega arith
stand-not void e = omega arith

status-not : (o : Option (Row Stand)) → status_on o ≡ 4 → ⊥
unfolding status_on
status-not none e = omega arith
status-not (some x) e = stand-not x.tag e

new-not : (z k f : Bool) (l : Line) (g : Gate) → (pay_new z k f l g).code ≡ 4 → ⊥
unfolding pay_new
new-not true k f l g e = omega arith
new-not false false f l g e = omega arith
new-not false true true l g e = omega arith
new-not false true false l g e = omega arith

again-not : (b : Bool) (s : Stand) → b ≡ true → pay_again b s ≡ 4 → ⊥
unfolding pay_again
again-not true s h e = stand-not s e
again-not false s h e = let z : ◌≡◌ {A = ℕ} 0 1 = cc in omega arith

pay-not : (o : Option (Row Stand)) (l : Line) (g : Gate) → ((x : Row Stand) → o ≡ some x → x.line ≡ l) → (pay_on o l g).code ≡ 4 → ⊥
unfolding pay_on
pay-not none l g own e = new-not (leb l.day g.closed) (g.known l.account) (full g) l g e
pay-not (some x) l g own e = again-not (eq_line x.line l) x.tag (eq_line-eq x.line l (own x refl)) e

done-not : (z b : Bool) (l : Line) (g : Gate) → (cancel_done z b l g).code ≡ 4 → ⊥
unfolding cancel_done
done-not true b l g e = omega arith
done-not false true l g e = omega arith
done-not false false l g e = omega arith

row-not : (s : Stand) (l : Line) (g : Gate) → (cancel_row s l g).code ≡ 4 → ⊥
unfolding cancel_row
row-not void l g e = omega arith
row-not done l g e = done-not (leb l.day g.closed) (below (g.bal l.account) l.amount) l g e

cancel-not : (o : Option (Row Stand)) (g : Gate) → (cancel_on o g).code ≡ 4 → ⊥
unfolding cancel_on
cancel-not none g e = omega arith
cancel-not (some x) g e = row-not x.tag x.line g e

-- no request that was sent is answered 4, whenever it arrives
pub never-four : (w : World) → Inv w → (q : Ask) → Ok w (request q) → (decide q w.gate).code ≡ 4 → ⊥
unfolding decide
never-four w v (ask_check a) ok e = checks-not (w.gate.known a) (full w.gate) e
never-four w v (ask_payment l) ok e = pay-not (find l.receipt w.gate.table) l w.gate (λ x fx. own-record w v l ok x fx) e
never-four w v (ask_status r) ok e = status-not (find r w.gate.table) e
never-four w v (ask_cancel r) ok e = cancel-not (find r w.gate.table) w.gate e
