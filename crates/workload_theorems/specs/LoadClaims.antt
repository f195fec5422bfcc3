-- Document 02, [4]: what holds of every load. `proofs/LoadClaims.antt` proves it (`load-claims : LoadClaims`).
use Rattle.std.specs.Prelude.{ℕ, zero, suc, ◌+◌, ◌≤◌, ◌<◌, ◌≡◌, true, List, [], ◌∷◌, ◌++◌, length, take, replicate, Ok}
use Rattle.fields.specs.Number.{number_text, number_of}
use Rattle.coding.specs.Params.{split_at}
use Rattle.payments.specs.declared.Action.{Action}
use Rattle.message.specs.Request.{request_read}
use Rattle.message.specs.RequestText.{request_text, asked_again}
use Rattle.message.specs.declared.request.Asked.{Asked}
use Rattle.table.specs.Table.{Rows}
use Rattle.opening.specs.Opening.{draw_funds}
use Rattle.gate.specs.Deliver.{deliver}
use Rattle.line_fields.specs.LineFields.{params_in}
use Rattle.orders.specs.Order.{Console, order_turn, answered, replied}
use Rattle.console.specs.Session.{lines_in}
use Rattle.generator.specs.Generator.{value_after, rolls_from}
use Rattle.workload.specs.declared.line.Step.TheVariants.{Asks, Draws}
use Rattle.workload.specs.Given.{Load, is_load}
use Rattle.workload.specs.Lines.{step_of, kopecks_of, asked_of, account_for, text_for}
use Rattle.workload.specs.Load.{lines_from, Filled, write_steps, write_load}

-- the request of the step after a value
abbrev pub request_after : Load → ℕ → Action → Asked
request_after l v action = asked_of l.date l.reason (account_for l (rolls_from v)) (rolls_from v) action

-- the line of that step without its 0A, and those of n steps
abbrev pub text_after : Load → ℕ → List ℕ
text_after l v = text_for l (rolls_from v)

unfoldable pub texts_from : Load → ℕ → ℕ → List (List ℕ)
texts_from l zero v = []
texts_from l (suc n) v = text_after l v ∷ texts_from l n (value_after 4 v)

-- what a call wrote
abbrev pub text_in : Filled → List ℕ
text_in f = take f.size f.buffer

pub record LoadClaims : Type 0 where
  -- a request is read as it was meant, hence without 31 and without another fault of form
  pub read : (l : Load) → is_load l ≡ true → (v : ℕ) (action : Action) → step_of (rolls_from v).step ≡ Asks action
      → request_read (params_in (text_after l v)) ≡ Ok (asked_again (request_after l v action))
  -- a session delivers it at the load's date, and draws what a drawing says: no line of a load is 99
  pub asks : (l : Load) → is_load l ≡ true → (v : ℕ) (action : Action) → step_of (rolls_from v).step ≡ Asks action → (x : Console) (t : Rows)
      → order_turn x t (text_after l v) ≡ answered (deliver x.gate t l.date (request_text (request_after l v action)) (replicate 512 0))
  pub draws : (l : Load) → is_load l ≡ true → (v : ℕ) → step_of (rolls_from v).step ≡ Draws → (x : Console) (t : Rows)
      → order_turn x t (text_after l v)
      ≡ replied t (draw_funds x.gate t (number_of (number_text (account_for l (rolls_from v)).number)) (account_for l (rolls_from v)).kind (kopecks_of (rolls_from v)))
  -- the lines that a session finds in the text are those of the steps
  pub lines : (l : Load) → is_load l ≡ true → (n v : ℕ) → lines_in (split_at 10 (lines_from l n v)) ≡ texts_from l n v
  -- what a call wrote is the lines of as many steps as it tells, no more than asked for; the next one, if it was asked for too, did not fit
  pub wrote : (l : Load) → is_load l ≡ true → (v most : ℕ) (d : List ℕ)
      → (text_in (write_steps l most v d) ≡ lines_from l (write_steps l most v d).steps v)
      × ((write_steps l most v d).steps ≤ most)
      × ((write_steps l most v d).steps < most → length d < length (lines_from l ((write_steps l most v d).steps + 1) v))
  -- a call without a most of steps stops only where the next line does not fit
  pub full : (l : Load) → is_load l ≡ true → (v : ℕ) (d : List ℕ) → length d < length (lines_from l ((write_load l v d).steps + 1) v)
  -- the text of a buffer begins that of every longer one
  pub begins : (l : Load) (v : ℕ) (d e : List ℕ) → length d ≤ length e
      → (rest : List ℕ) × (text_in (write_load l v e) ≡ text_in (write_load l v d) ++ rest)
  -- the same start gives the same answer and text, whatever the buffer held
  pub alike : (l : Load) (v : ℕ) (d e : List ℕ) → length d ≡ length e
      → ((write_load l v d).code ≡ (write_load l v e).code)
      × ((write_load l v d).size ≡ (write_load l v e).size)
      × ((write_load l v d).steps ≡ (write_load l v e).steps)
      × ((write_load l v d).next ≡ (write_load l v e).next)
      × (text_in (write_load l v d) ≡ text_in (write_load l v e))
  -- a second call from the value that the first gave back goes on: together they wrote the lines of as many steps
  pub onward : (l : Load) → is_load l ≡ true → (v most more : ℕ) (d e : List ℕ)
      → text_in (write_steps l most v d) ++ text_in (write_steps l more (write_steps l most v d).next e)
      ≡ lines_from l ((write_steps l most v d).steps + (write_steps l more (write_steps l most v d).next e).steps) v
