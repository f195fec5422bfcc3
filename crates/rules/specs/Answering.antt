-- Document 01, "Gate": the answer that a decision gives.
use Rattle.std.specs.Prelude.{ℕ, List, Bool, true, false, cond, ◌||◌, eqb}
use Rattle.dates.specs.Date.{empty_date}
use Rattle.payments.specs.declared.Action.{Action}
use Rattle.payments.specs.declared.Action.TheVariants.{Check, Payment, Status, Cancel}
use Rattle.payments.specs.declared.Answer.{Answer}
use Rattle.table.specs.declared.Record.{Record}

unfoldable pub is_cancel : Action → Bool
is_cancel Check = false
is_cancel Payment = false
is_cancel Status = false
is_cancel Cancel = true

-- an authcode tells of a payment that stands or stood, so it goes with 0 and 7, to all but a check
abbrev pub settles : ℕ → Bool
settles code = eqb code 0 || eqb code 7

unfoldable pub answers_authcode : Action → ℕ → Bool
answers_authcode Check code = false
answers_authcode Payment code = settles code
answers_authcode Status code = settles code
answers_authcode Cancel code = settles code

-- a payment is always answered with a date, status and cancel only where they have an authcode, a check never
unfoldable pub answers_date : Action → ℕ → Bool
answers_date Check code = false
answers_date Payment code = true
answers_date Status code = settles code
answers_date Cancel code = settles code

-- when the payment was cancelled, or else when it was credited; a refusal tells the clock
unfoldable pub answer_date : Action → ℕ → Record → List ℕ → List ℕ
answer_date a code r clock =
    cond (eqb code 7) r.cancel (cond (eqb code 0) (cond (is_cancel a) r.cancel r.credit) clock)

unfoldable pub answer_of : Action → ℕ → Record → List ℕ → Answer
answer_of a code r clock =
    record {
      code = code;
      authorized = answers_authcode a code;
      authcode = cond (answers_authcode a code) r.authcode 0;
      dated = answers_date a code;
      date = cond (answers_date a code) (answer_date a code r clock) empty_date;
    }
