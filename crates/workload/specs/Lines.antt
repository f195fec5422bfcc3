-- Document 02, [4]: the step that a value's rolls pick, and its line.
use Rattle.std.specs.Prelude.{ℕ, ◌+◌, ◌%◌, List, [], ◌∷◌, ◌++◌, cond, ltb, length}
use Rattle.texts.specs.Digits.{decimal}
use Rattle.fields.specs.Number.{number_text}
use Rattle.payments.specs.declared.Action.{Action}
use Rattle.payments.specs.declared.Action.TheVariants.{Payment, Status, Cancel}
use Rattle.message.specs.declared.request.Asked.{Asked}
use Rattle.message.specs.RequestText.{request_text}
use Rattle.generator.specs.declared.Rolls.{Rolls}
use Rattle.generator.specs.Generator.{rolls_from}
use Rattle.workload.specs.declared.given.AccountName.{AccountName}
use Rattle.workload.specs.declared.line.Step.{Step}
use Rattle.workload.specs.declared.line.Step.TheVariants.{Asks, Draws}
use Rattle.workload.specs.Given.{Load, account_at}

-- by its remainder by 8: 0 to 3 a payment, 4 and 5 a status, 6 a cancel, 7 a drawing
unfoldable pub step_of : ℕ → Step
step_of roll = cond (ltb (roll % 8) 4) (Asks Payment) (cond (ltb (roll % 8) 6) (Asks Status) (cond (ltb (roll % 8) 7) (Asks Cancel) Draws))

-- receipts 1 to 1,000, kopecks 1 to 100,000
abbrev pub receipt_of : Rolls → ℕ
receipt_of r = 1 + r.receipt % 1000

abbrev pub kopecks_of : Rolls → ℕ
kopecks_of r = 1 + r.kopecks % 100000

-- the request of a step: the date is the payment's too, and a cancel is for the reason
unfoldable pub asked_of : List ℕ → ℕ → AccountName → Rolls → Action → Asked
asked_of date reason a r action =
    record {
      action = action;
      number = a.number;
      kind = a.kind;
      amount = kopecks_of r;
      receipt = receipt_of r;
      date = date;
      reason = reason;
    }

-- R clock parameters, the parameters as the agent writes them; or D number type kopecks, the number raw
unfoldable pub step_text : List ℕ → ℕ → AccountName → Rolls → Step → List ℕ
step_text date reason a r (Asks action) = 82 ∷ (32 ∷ (date ++ (32 ∷ request_text (asked_of date reason a r action))))
step_text date reason a r Draws = 68 ∷ (32 ∷ (number_text a.number ++ (32 ∷ (decimal a.kind ++ (32 ∷ decimal (kopecks_of r))))))

-- its account is picked by the remainder by their number
abbrev pub account_for : Load → Rolls → AccountName
account_for l r = account_at l.names l.keys (r.account % length l.names)

abbrev pub text_for : Load → Rolls → List ℕ
text_for l r = step_text l.date l.reason (account_for l r) r (step_of r.step)

-- the line of the step after a value, with its 0A
unfoldable pub line_after : Load → ℕ → List ℕ
line_after l v = text_for l (rolls_from v) ++ (10 ∷ [])
