-- How the code walks through an answer: by what is left of its text. Cited by inner contracts only: it needs no belief.
use Rattle.std.specs.Prelude.{ℕ, ◌≡◌, ◌⊎◌, List, Bool, true, false, Option, Some, None, is_some, length, drop}
use Rattle.std.specs.Borrow.{Bor}
use Rattle.dates.specs.Date.{empty_date}
use Rattle.payments.specs.declared.Action.{Action}
use Rattle.payments.specs.declared.Answer.{Answer}
use Rattle.answer_reader.specs.declared.parts.Part.TheVariants.{Code, Authcode, Date, Message}
use Rattle.answer_reader.specs.declared.tags.Step.{Step}
use Rattle.answer_reader.specs.declared.read.Parts.{Parts}
use Rattle.answer_reader.specs.AnswerRead.{starts, Found, NoTag, Unclosed, Content, takes_more, may_lack_date, empty_answer, with_code, with_authcode, with_date, Reading, Unreadable, SoFar, tag_step, part_step}

-- the text t without the tag at its start
abbrev pub Strips : List ℕ → List ℕ → Option (Bor (List ℕ)) → Type 0
Strips tag t None = starts tag t ≡ false
Strips tag t (Some r) = (starts tag t ≡ true) × (r.now ≡ drop (length tag) t)

-- the element f at the start of t, by its content and the text behind it; `may` where it may be missing
abbrev pub Gives : Bool → List ℕ → Found → Option (Bor (List ℕ)) → List ℕ → Type 0
Gives may t f None u = (f ≡ NoTag) × (may ≡ true) × (u ≡ t)
Gives may t f (Some c) u = f ≡ Content c.now u

abbrev pub Finds : Bool → List ℕ → Found → Option (Step (Option (Bor (List ℕ)))) → Type 0
Finds may t f None = ((f ≡ NoTag) × (may ≡ false)) ⊎ (f ≡ Unclosed)
Finds may t f (Some e) = Gives may t f e.value e.rest.now

-- ---- the answer x with what a step has read, and the text that it leaves
abbrev pub passed : Answer → Option (Bor (List ℕ)) → Reading
passed x None = Unreadable
passed x (Some r) = SoFar x r.now

abbrev pub coded : Option (Step ℕ) → Reading
coded None = Unreadable
coded (Some e) = SoFar (with_code empty_answer e.value) e.rest.now

abbrev pub authorized : Answer → Option ℕ → Answer
authorized x None = x
authorized x (Some n) = with_authcode x n

abbrev pub authorized_by : Answer → Option (Step (Option ℕ)) → Reading
authorized_by x None = Unreadable
authorized_by x (Some e) = SoFar (authorized x e.value) e.rest.now

abbrev pub dated : Answer → Option (Bor (List ℕ)) → Answer
dated x None = x
dated x (Some d) = with_date x d.now

abbrev pub dated_by : Answer → Option (Step (Option (Bor (List ℕ)))) → Reading
dated_by x None = Unreadable
dated_by x (Some e) = SoFar (dated x e.value) e.rest.now

-- ---- each step is the definition's
abbrev pub Passes : List ℕ → List ℕ → Option (Bor (List ℕ)) → Type 0
Passes tag t r = (x : Answer) → passed x r ≡ tag_step tag (SoFar x t)

abbrev pub ReadsCode : List ℕ → Option (Step ℕ) → Type 0
ReadsCode t r = (a : Action) → coded r ≡ part_step Code a (SoFar empty_answer t)

abbrev pub ReadsAuthcode : List ℕ → Option (Step (Option ℕ)) → Type 0
ReadsAuthcode t r = (a : Action) → takes_more a ≡ true → (x : Answer) → authorized_by x r ≡ part_step Authcode a (SoFar x t)

abbrev pub ReadsDate : Bool → List ℕ → Option (Step (Option (Bor (List ℕ)))) → Type 0
ReadsDate may t r = (a : Action) → takes_more a ≡ true → (x : Answer) → may ≡ may_lack_date a x.code → dated_by x r ≡ part_step Date a (SoFar x t)

abbrev pub ReadsMessage : List ℕ → Option (Bor (List ℕ)) → Type 0
ReadsMessage t r = (a : Action) (x : Answer) → passed x r ≡ part_step Message a (SoFar x t)

-- what may stand between code and message
abbrev pub more_step : Action → Reading → Reading
more_step a r = part_step Date a (part_step Authcode a r)

-- ---- the elements together
abbrev pub number_or_0 : Option ℕ → ℕ
number_or_0 None = 0
number_or_0 (Some n) = n

abbrev pub date_or_none : Option (Bor (List ℕ)) → List ℕ
date_or_none None = empty_date
date_or_none (Some d) = d.now

abbrev pub answer_with : Parts → List ℕ → Answer
answer_with p date = record { code = p.code; authorized = is_some p.authcode; authcode = number_or_0 p.authcode; dated = is_some p.date; date = date }

abbrev pub answer_of : Parts → Answer
answer_of p = answer_with p (date_or_none p.date)

-- an answer without the bytes of its date
abbrev pub undated : Option Answer → Option Answer
undated None = None
undated (Some x) = Some (record { code = x.code; authorized = x.authorized; authcode = x.authcode; dated = x.dated; date = empty_date })

-- what is read of them
abbrev pub whole_of : Option Parts → Option Answer
whole_of None = None
whole_of (Some p) = Some (answer_of p)

abbrev pub parts_of : Option (Step Parts) → Reading
parts_of None = Unreadable
parts_of (Some e) = SoFar (answer_of e.value) e.rest.now
