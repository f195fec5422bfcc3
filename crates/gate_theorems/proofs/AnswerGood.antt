-- The answers that the gate writes are read back by the agent's reader.
use Rattle.std.specs.Prelude.{Some}
use Prim.Native.Nat.{ℕ, ◌≤◌}
use mathlib.Core.Path.{◌≡◌, refl}
use mathlib.Core.Bool.{Bool, true, false, cond, not, ◌||◌}
use mathlib.Core.List.{List}
use lib.Dec.{leb}
use borrow.Author.Tests.{le-leb}
use Rattle.dates.specs.Date.{is_written, empty_date}
use Rattle.payments.specs.declared.Action.{Action}
use Rattle.payments.specs.declared.Action.TheVariants.{Check, Payment, Status, Cancel}
use Rattle.answers.specs.Answer.{answer_bytes}
use Rattle.answer_reader.specs.AnswerRead.{may_lack_date, answer_read}
use Rattle.answer_reader.specs.ReadBack.{is_answer, answer_again}
use Rattle.answer_reader.proofs.AnswerAgain.{answer-again}
use Rattle.table.specs.declared.Record.{Record}
use Rattle.rules.specs.Answering.{settles, answers_authcode, answers_date, answer_date, answer_of}

-- an authcode that may be carried is in range, or is not carried
carried-good : (t : Bool) (n : ℕ) → n ≤ 999999999999999 → not t || leb (cond t n 0) 999999999999999 ≡ true
carried-good true n h = le-leb n 999999999999999 h
carried-good false n h = refl

-- a date that may be carried is a date, or may be missing
dated-good : (t : Bool) (d : List ℕ) → (t ≡ true → is_written d ≡ true) → cond t (is_written (cond t d empty_date)) true ≡ true
dated-good true d h = h refl
dated-good false d h = refl

-- the answer to an action with a code and a record in their ranges is one that the reader takes
pub answer-good : (a : Action) (code : ℕ) (r : Record) (clock : List ℕ) → code ≤ 9999 → r.authcode ≤ 999999999999999
    → (answers_date a code ≡ true → is_written (answer_date a code r clock) ≡ true) → is_answer a (answer_of a code r clock) ≡ true
unfolding is_answer answer_of answers_authcode answers_date may_lack_date
answer-good Check code r clock c n d = rw (le-leb code 9999 c)
answer-good Payment code r clock c n d = rw (le-leb code 9999 c, carried-good (settles code) r.authcode n) (d refl)
answer-good Status code r clock c n d = rw (le-leb code 9999 c, carried-good (settles code) r.authcode n) (dated-good (settles code) (answer_date Status code r clock) d)
answer-good Cancel code r clock c n d = rw (le-leb code 9999 c, carried-good (settles code) r.authcode n) (dated-good (settles code) (answer_date Cancel code r clock) d)

-- so its code, authcode and date are read back
pub gate-answers : (a : Action) (code : ℕ) (r : Record) (clock : List ℕ) → code ≤ 9999 → r.authcode ≤ 999999999999999
    → (answers_date a code ≡ true → is_written (answer_date a code r clock) ≡ true)
    → answer_read a (answer_bytes (answer_of a code r clock)) ≡ Some (answer_again (answer_of a code r clock))
gate-answers a code r clock c n d = answer-again a (answer_of a code r clock) (answer-good a code r clock c n d)

-- with 1 and 31 no action is known: the answer has no date, and every reader takes it
pub unknown-good : (a : Action) (code : ℕ) (r : Record) (clock : List ℕ) → code ≤ 9999 → may_lack_date a code ≡ true → is_answer a (answer_of Check code r clock) ≡ true
unfolding is_answer answer_of answers_authcode answers_date
unknown-good a code r clock c h = rw (le-leb code 9999 c, h)

pub unknown-lacks : (a : Action) → (may_lack_date a 1 ≡ true) × (may_lack_date a 31 ≡ true)
unfolding may_lack_date
unknown-lacks Check = (refl, refl)
unknown-lacks Payment = (refl, refl)
unknown-lacks Status = (refl, refl)
unknown-lacks Cancel = (refl, refl)
