-- A call that gives a fault keeps everything: the gate, the rows, and with 68, 50 and 51 the buffer too.
use Rattle.std.specs.Prelude.{Option, Some, None}
use Prim.Native.Nat.{ℕ, ◌≤◌, ◌<◌}
use mathlib.Core.Path.{◌≡◌, refl, sym, ◌∙◌}
use mathlib.Core.Bool.{Bool, true, false, cond, not, ◌&&◌}
use mathlib.Core.List.{List}
use lib.Dec.{leb}
use lib.IntN.{pos}
use lib.Signed.{lt_z}
use lib.ListN.{length}
use borrow.Author.Tests.{lt-leb, le-leb}
use Rattle.fields.specs.declared.number.Number.{Number}
use Rattle.fields.specs.Amount.{is_amount}
use Rattle.fields.specs.Codes.{is_kind}
use Rattle.fields.specs.Number.{is_number}
use Rattle.dates.specs.Date.{is_written}
use Rattle.texts.proofs.Tests.{cond-elim, no-claim}
use Rattle.payments.specs.declared.Instruction.{Instruction}
use Rattle.message.specs.Request.{request_read, fault_number}
use Rattle.table.specs.declared.Gate.{Gate}
use Rattle.lists.specs.Lists.{is_found}
use Rattle.table.specs.Table.{Rows}
use Rattle.table.specs.Accounts.{accounts_of, find_account, balance_at, debited, opened}
use Rattle.validity.specs.Valid.{table_good, Ready}
use Rattle.table.proofs.TableLaws.{rows-kept}
use Rattle.ledger.specs.declared.Reply.{Reply}
use Rattle.gate.specs.Deliver.{instruction_in, respond, deliver}
use Rattle.admission.specs.Delivery.{Delivery, undelivered}
use Rattle.opening.specs.Opening.{replies, open_to, open_account, draw_on, draw_from, draw_funds}
use Rattle.gate_theorems.proofs.OutcomeLaws.{Outcome, stays, appends, revokes, outcome}

-- ---- a delivery by its tests
module _ (g : Gate) (t : Rows) (clock params out : List ℕ) where
  -- a table that is not good: 68, and nothing changes, the buffer neither
  pub refused-table : table_good g t ≡ false → deliver g t clock params out ≡ undelivered 68 g t out
  unfolding deliver
  refused-table h = rw h

  -- a buffer under 512 bytes: 50, and nothing changes
  pub refused-room : table_good g t ≡ true → length out < 512 → deliver g t clock params out ≡ undelivered 50 g t out
  unfolding deliver
  refused-room h l = rw (h, lt-leb _ _ l)

  -- a clock that is no date: 51, and nothing changes
  pub refused-clock : table_good g t ≡ true → 512 ≤ length out → is_written clock ≡ false → deliver g t clock params out ≡ undelivered 51 g t out
  unfolding deliver
  refused-clock h l c = rw (h, le-leb _ _ l, c)

  -- where one of these tests fails the gate, the rows and the buffer are as they were
  pub refused-keeps : table_good g t && (leb 512 (length out) && is_written clock) ≡ false
      → ((deliver g t clock params out).gate ≡ g) × ((deliver g t clock params out).rows ≡ t) × ((deliver g t clock params out).out ≡ out)
  unfolding deliver
  refused-keeps = go (table_good g t) (leb 512 (length out)) (is_written clock) (respond g t clock (fault_number (request_read params)) (instruction_in params) out)
    where
      go : (a b c : Bool) (x : Delivery) → a && (b && c) ≡ false
          → ((cond a (cond b (cond c x (undelivered 51 g t out)) (undelivered 50 g t out)) (undelivered 68 g t out)).gate ≡ g)
          × ((cond a (cond b (cond c x (undelivered 51 g t out)) (undelivered 50 g t out)) (undelivered 68 g t out)).rows ≡ t)
          × ((cond a (cond b (cond c x (undelivered 51 g t out)) (undelivered 50 g t out)) (undelivered 68 g t out)).out ≡ out)
      go false b c x h = (refl, refl, refl)
      go true false c x h = (refl, refl, refl)
      go true true false x h = (refl, refl, refl)
      go true true true x h = no-claim (sym h)

  -- what holds of every refusal and of every answer holds of a delivery
  pub delivered-by : (P : Delivery → Type 0) → ((code : ℕ) (left : List ℕ) (size : ℕ) → P (record { code = code; gate = g; rows = t; out = left; size = size }))
      → (table_good g t ≡ true → is_written clock ≡ true → P (respond g t clock (fault_number (request_read params)) (instruction_in params) out))
      → P (deliver g t clock params out)
  unfolding deliver
  delivered-by P keep answer =
      cond-elim P (table_good g t) _ _
      (λ good. cond-elim P (leb 512 (length out)) _ _
      (λ _. cond-elim P (is_written clock) _ _
      (λ dated. answer good dated)
      (λ _. keep 51 out 0))
      (λ _. keep 50 out 0))
      (λ _. keep 68 out 0)

-- ---- a fault keeps the gate and the rows
-- the gate and the rows are as they were
pub record Kept (g : Gate) (t : Rows) (d : Delivery) : Type 0 where
  pub gate : d.gate ≡ g
  pub rows : d.rows ≡ t

module _ (g : Gate) (t : Rows) (ready : Ready g t) (clock : List ℕ) where
  -- a decision with a code other than 0 keeps the gate and the rows
  pub respond-keeps : (fault : ℕ) (q : Instruction) (out : List ℕ) → ((respond g t clock fault q out).code ≡ 0 → ⊥) → Kept g t (respond g t clock fault q out)
  respond-keeps fault q out = go (respond g t clock fault q out) (outcome g t clock fault q out)
    where
      go : (d : Delivery) → Outcome g t clock q d → (d.code ≡ 0 → ⊥) → Kept g t d
      go d (stays eg er) n = record { gate = eg; rows = er ∙ rows-kept t g.used ready.whole }
      go d (appends a ea en ef room day ec eg er) n = absurd (n ec)
      go d (revokes i r f ea ei er ef es day fu ec eg el) n = absurd (n ec)

  -- a delivery with a code other than 0 keeps the gate and the rows
  pub fault-keeps : (params out : List ℕ) → ((deliver g t clock params out).code ≡ 0 → ⊥) → Kept g t (deliver g t clock params out)
  fault-keeps params out =
      delivered-by g t clock params out (λ (d : Delivery). (d.code ≡ 0 → ⊥) → Kept g t d)
      (λ code left size n. record { gate = refl; rows = refl })
      (λ _ _. respond-keeps (fault_number (request_read params)) (instruction_in params) out)

-- ---- the same for opening an account and drawing from one
-- a code other than 0 keeps the gate
abbrev pub ReplyKeeps : Gate → Reply → Type 0
ReplyKeeps g r = (r.code ≡ 0 → ⊥) → r.gate ≡ g

module _ (g : Gate) where
  refuses : (code : ℕ) → ReplyKeeps g (replies code g)
  refuses code n = refl

  done : (h : Gate) → ReplyKeeps g (replies 0 h)
  done h n = absurd (n refl)

  open-to-keeps : (n : Number) (k : ℕ) → ReplyKeeps g (open_to g n k)
  unfolding open_to
  open-to-keeps n k =
      cond-elim (ReplyKeeps g) (is_number n && is_kind k) _ _
      (λ _. cond-elim (ReplyKeeps g) (is_found (find_account n k (accounts_of g))) _ _ (λ _. refuses 56)
      (λ _. cond-elim (ReplyKeeps g) (leb 256 g.count) _ _ (λ _. refuses 57) (λ _. done (opened g n k))))
      (λ _. refuses 59)

  draw-on-keeps : (f : Option ℕ) (m : ℕ) → ReplyKeeps g (draw_on g f m)
  unfolding draw_on
  draw-on-keeps None m = refuses 59
  draw-on-keeps (Some a) m =
      cond-elim (ReplyKeeps g) (is_amount m && not (lt_z (balance_at g a) (pos m))) _ _ (λ _. done (debited g a m)) (λ _. refuses 58)

  -- an opening with a code other than 0 keeps the gate
  pub open-keeps : (t : Rows) (n : Number) (k : ℕ) → ((open_account g t n k).code ≡ 0 → ⊥) → (open_account g t n k).gate ≡ g
  unfolding open_account
  open-keeps t n k = cond-elim (ReplyKeeps g) (table_good g t) _ _ (λ _. open-to-keeps n k) (λ _. refuses 68)

  -- a draw with a code other than 0 keeps the gate
  pub draw-keeps : (t : Rows) (n : Number) (k m : ℕ) → ((draw_funds g t n k m).code ≡ 0 → ⊥) → (draw_funds g t n k m).gate ≡ g
  unfolding draw_funds draw_from
  draw-keeps t n k m =
      cond-elim (ReplyKeeps g) (table_good g t) _ _
      (λ _. cond-elim (ReplyKeeps g) (is_number n && is_kind k) _ _ (λ _. draw-on-keeps (find_account n k (accounts_of g)) m) (λ _. refuses 59))
      (λ _. refuses 68)
