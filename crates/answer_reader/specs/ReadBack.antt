-- Document 01, "Gate": which answers can be written for an action, and what a reader makes of them. The words of the theorem `answer-again`.
use Rattle.std.specs.Prelude.{Bool, cond, not, ◌&&◌, ◌||◌, leb}
use Rattle.dates.specs.Date.{is_written, empty_date}
use Rattle.payments.specs.declared.Action.{Action}
use Rattle.payments.specs.declared.Answer.{Answer}
use Rattle.answer_reader.specs.AnswerRead.{takes_more, may_lack_date}

-- no authcode and no date for a check, always a date for a payment but with 1 and 31
unfoldable pub is_answer : Action → Answer → Bool
is_answer a x =
    leb x.code 9999
    && ((not x.authorized || (takes_more a && leb x.authcode 999999999999999))
    && cond x.dated (takes_more a && is_written x.date) (may_lack_date a x.code))

-- absent parts at their fixed values
unfoldable pub answer_again : Answer → Answer
answer_again x =
    record {
      code = x.code;
      authorized = x.authorized;
      authcode = cond x.authorized x.authcode 0;
      dated = x.dated;
      date = cond x.dated x.date empty_date;
    }
