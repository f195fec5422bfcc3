-- Document 01, "Gate": what the agent's reader takes as an answer to an action, by the templates of source 001, 3.2.1.
use Rattle.std.specs.Prelude.{ℕ, ◌+◌, List, [], ◌∷◌, Bool, true, false, cond, ◌||◌, length, take, drop, leb, eqb, Option, Some, None}
use Rattle.texts.specs.Lists.{find, eq_list}
use Rattle.texts.specs.Digits.{digits_read}
use Rattle.dates.specs.Date.{empty_date, date_read}
use Rattle.payments.specs.declared.Action.{Action}
use Rattle.payments.specs.declared.Action.TheVariants.{Check, Payment, Status, Cancel}
use Rattle.payments.specs.declared.Answer.{Answer}
use Rattle.answer_reader.specs.declared.parts.Part.{Part}
use Rattle.answer_reader.specs.declared.parts.Part.TheVariants.{Code, Authcode, Date, Message}
use Rattle.answers.specs.Answer.{xml_line, response_tag, code_tag, authcode_tag, date_tag, message_tag, opening, closing}

-- whether a text begins with another
unfoldable pub starts : List ℕ → List ℕ → Bool
starts t s = eq_list (take (length t) s) t

-- space, tab, CR, LF
unfoldable pub is_blank : ℕ → Bool
is_blank b = eqb b 32 || (eqb b 9 || (eqb b 13 || eqb b 10))

unfoldable pub skip_blanks : List ℕ → List ℕ
skip_blanks [] = []
skip_blanks (b ∷ s) = cond (is_blank b) (skip_blanks s) (b ∷ s)

-- ---- an element at the start of a text: no such tag, a tag that is not closed as it should, or its content and what follows
pub data Found : Type 0 where
  NoTag : Found
  Unclosed : Found
  Content : List ℕ → List ℕ → Found

-- the content ends at the first < (60); blanks behind a closing tag are passed over
unfoldable pub content_of : List ℕ → List ℕ → Found
content_of closer s =
    cond (starts closer (drop (find 60 s) s)) (Content (take (find 60 s) s) (skip_blanks (drop (find 60 s + length closer) s))) Unclosed

-- an element by its tags, and by its name
unfoldable pub between : List ℕ → List ℕ → List ℕ → Found
between opener closer s = cond (starts opener s) (content_of closer (drop (length opener) s)) NoTag

abbrev pub element_at : List ℕ → List ℕ → Found
element_at name s = between (opening name) (closing name) s

-- ---- the four elements: their names
abbrev pub name_of : Part → List ℕ
name_of Code = code_tag
name_of Authcode = authcode_tag
name_of Date = date_tag
name_of Message = message_tag

-- which may stand in the answer to an action: a check's has neither authcode nor date
abbrev pub takes_more : Action → Bool
takes_more Check = false
takes_more Payment = true
takes_more Status = true
takes_more Cancel = true

unfoldable pub may_stand : Part → Action → Bool
may_stand Code a = true
may_stand Authcode a = takes_more a
may_stand Date a = takes_more a
may_stand Message a = true

-- which may be missing, by the action and the code: a payment's answer has its date, but with 1 and 31
unfoldable pub may_lack_date : Action → ℕ → Bool
may_lack_date Check code = true
may_lack_date Payment code = eqb code 1 || eqb code 31
may_lack_date Status code = true
may_lack_date Cancel code = true

unfoldable pub may_lack : Part → Action → ℕ → Bool
may_lack Code a code = false
may_lack Authcode a code = true
may_lack Date a code = may_lack_date a code
may_lack Message a code = true

-- ---- what an element holds, and the answer with it
abbrev pub empty_answer : Answer
empty_answer = record { code = 0; authorized = false; authcode = 0; dated = false; date = empty_date }

abbrev pub with_code : Answer → ℕ → Answer
with_code x c = record { code = c; authorized = x.authorized; authcode = x.authcode; dated = x.dated; date = x.date }

abbrev pub with_authcode : Answer → ℕ → Answer
with_authcode x c = record { code = x.code; authorized = true; authcode = c; dated = x.dated; date = x.date }

abbrev pub with_date : Answer → List ℕ → Answer
with_date x d = record { code = x.code; authorized = x.authorized; authcode = x.authcode; dated = true; date = d }

abbrev pub number_held : (ℕ → Answer) → Option ℕ → Option Answer
number_held f None = None
number_held f (Some v) = Some (f v)

abbrev pub date_held : Answer → Option (List ℕ) → Option Answer
date_held x None = None
date_held x (Some d) = Some (with_date x d)

-- of a message nothing is kept
abbrev pub message_held : Answer → ℕ → Option Answer
message_held x size = cond (leb size 512) (Some x) None

-- code: 1 to 4 digits by value; authcode: 1 to 15; a written date; a message of at most 512 bytes
unfoldable pub filled : Part → Answer → List ℕ → Option Answer
filled Code x c = number_held (with_code x) (digits_read 4 c)
filled Authcode x c = number_held (with_authcode x) (digits_read 15 c)
filled Date x c = date_held x (date_read c)
filled Message x c = message_held x (length c)

-- ---- the reading, step by step: the answer so far and the text that is left
pub data Reading : Type 0 where
  Unreadable : Reading
  SoFar : Answer → List ℕ → Reading

-- a tag that must stand here, and the blanks behind it
unfoldable pub tag_step : List ℕ → Reading → Reading
tag_step tag Unreadable = Unreadable
tag_step tag (SoFar x t) = cond (starts tag t) (SoFar x (skip_blanks (drop (length tag) t))) Unreadable

-- an element, where the action's answers may have it
abbrev pub read_on : Option Answer → List ℕ → Reading
read_on None t = Unreadable
read_on (Some x) t = SoFar x t

abbrev pub part_found : Part → Action → Answer → List ℕ → Found → Reading
part_found k a x left NoTag = cond (may_lack k a x.code) (SoFar x left) Unreadable
part_found k a x left Unclosed = Unreadable
part_found k a x left (Content c t) = read_on (filled k x c) t

unfoldable pub part_step : Part → Action → Reading → Reading
part_step k a Unreadable = Unreadable
part_step k a (SoFar x t) = cond (may_stand k a) (part_found k a x t (element_at (name_of k) t)) (SoFar x t)

-- the XML line, exact and with nothing before it, and the opening tag
unfoldable pub open_step : List ℕ → Reading
open_step s = tag_step (opening response_tag) (tag_step xml_line (SoFar empty_answer s))

-- the elements in their order
unfoldable pub parts_step : Action → Reading → Reading
parts_step a r = part_step Message a (part_step Date a (part_step Authcode a (part_step Code a r)))

-- nothing is left
abbrev pub is_empty : List ℕ → Bool
is_empty [] = true
is_empty (b ∷ s) = false

unfoldable pub end_step : Reading → Option Answer
end_step Unreadable = None
end_step (SoFar x t) = cond (is_empty t) (Some x) None

-- the response is closed, and nothing but blanks stands behind it
unfoldable pub answer_read : Action → List ℕ → Option Answer
answer_read a s = end_step (tag_step (closing response_tag) (parts_step a (open_step s)))

-- the answer that was read; an empty one where none was
abbrev pub answer_in : Option Answer → Answer
answer_in None = empty_answer
answer_in (Some x) = x
