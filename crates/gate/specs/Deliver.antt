-- Document 01, "Gate": a request delivered to the gate, and the answer that is written.
use Rattle.std.specs.Prelude.{ℕ, List, length}
use Rattle.texts.specs.Lists.{written, cursor_after}
use Rattle.payments.specs.declared.Action.{Action}
use Rattle.message.specs.declared.request.Asked.{Asked}
use Rattle.payments.specs.declared.Instruction.{Instruction}
use Rattle.message.specs.Request.{request_read, fault_number, asked_of}
use Rattle.answers.specs.Answer.{answer_bytes}
use Rattle.table.specs.declared.Gate.{Gate}
use Rattle.table.specs.Table.{Rows, records_of, rows_from}
use Rattle.planning.specs.declared.plan.Plan.{Plan}
use Rattle.admission.specs.Delivery.{Delivery, admitted}
use Rattle.rules.specs.Answering.{answer_of}
use Rattle.planning.specs.Plan.{plan_of}
use Rattle.ledger.specs.Change.{Changed, executed}

-- what a request of this wire asks, whatever the wire
abbrev pub instruction_of : Asked → Instruction
instruction_of q =
    record {
      action = q.action;
      details = record { receipt = q.receipt; number = q.number; kind = q.kind; amount = q.amount; date = q.date };
    }

abbrev pub instruction_in : List ℕ → Instruction
instruction_in params = instruction_of (asked_of (request_read params))

abbrev pub answered : Rows → List ℕ → Action → ℕ → List ℕ → Changed → Delivery
answered t out a code clock c =
    record {
      code = code;
      gate = c.gate;
      rows = rows_from t c.records;
      out = written out 0 (answer_bytes (answer_of a code c.subject clock));
      size = cursor_after out 0 (answer_bytes (answer_of a code c.subject clock));
    }

-- the decision, its change and the answer
abbrev pub respond_by : Gate → Rows → List ℕ → Instruction → List ℕ → Plan → Delivery
respond_by g t clock q out p = answered t out q.action p.decided.code clock (executed g (records_of t g.used) clock q p)

-- an instruction, and the fault of its request, 0 where it has none
unfoldable pub respond : Gate → Rows → List ℕ → ℕ → Instruction → List ℕ → Delivery
respond g t clock fault q out = respond_by g t clock q out (plan_of g (records_of t g.used) (length t.nums) fault q)

-- a request, once 68, 50 and 51 are passed
unfoldable pub deliver : Gate → Rows → List ℕ → List ℕ → List ℕ → Delivery
deliver g t clock params out = admitted g t clock out (respond g t clock (fault_number (request_read params)) (instruction_in params) out)
