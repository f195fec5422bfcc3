-- Laws of the elements of a response and of the steps that read them, at each way out.
use Rattle.std.specs.Prelude.{Option, Some, None}
use Rattle.std.specs.Borrow.{Bor}
use Rattle.std.proofs.Common.{⊎_elim}
use Prim.Native.Nat.{ℕ, ◌≤◌, ◌<◌}
use native.Mathlib.Omega.{arith}
use mathlib.Core.Path.{◌≡◌, refl, sym, ap, ◌∙◌}
use mathlib.Core.List.{List, [], ◌∷◌}
use mathlib.Core.Bool.{Bool, true, false, not}
use lib.Dec.{eqb}
use lib.ListN.{length, drop}
use borrow.Author.Tests.{le-leb, lt-leb, eqb-true, not-true, not-false}
use Rattle.texts.specs.Digits.{digits_read}
use Rattle.texts.proofs.Tests.{no-claim}
use Rattle.dates.specs.Date.{is_written, date_read}
use Rattle.dates.proofs.DateLaws.{size-written}
use Rattle.payments.specs.declared.Action.{Action}
use Rattle.payments.specs.declared.Answer.{Answer}
use Rattle.answers.specs.Answer.{xml_line, response_tag, opening, closing}
use Rattle.answer_reader.specs.declared.parts.Part.{Part}
use Rattle.answer_reader.specs.declared.parts.Part.TheVariants.{Code, Authcode, Date, Message}
use Rattle.answer_reader.specs.declared.read.Parts.{Parts}
use Rattle.answer_reader.specs.declared.tags.Step.{Step}
use Rattle.answer_reader.specs.AnswerRead.{starts, skip_blanks, Content, element_at, name_of, takes_more, may_stand, may_lack_date, may_lack, empty_answer, with_code, with_authcode, with_date, filled, Reading, Unreadable, SoFar, read_on, tag_step, part_step, open_step, parts_step, end_step, answer_read}
use Rattle.answer_reader.specs.AnswerParts.{Finds, Gives, passed, coded, authorized, authorized_by, dated, dated_by, Passes, ReadsCode, ReadsAuthcode, ReadsDate, ReadsMessage, more_step, answer_of, whole_of, parts_of}

-- ---- a tag
module _ (tag t : List ℕ) where
  pub tag-missing : starts tag t ≡ false → (r : Option (Bor (List ℕ))) → r ≡ None → Passes tag t r
  unfolding tag_step
  tag-missing n r e x = rw (e, n)

  pub tag-passed : (u v : List ℕ) → starts tag t ≡ true → u ≡ drop (length tag) t → v ≡ skip_blanks u → (x : Answer) → SoFar x v ≡ tag_step tag (SoFar x t)
  unfolding tag_step
  tag-passed u v y eu ev x = rw (y, ev, eu)

-- ---- the step of an element that may stand
module _ (k : Part) (a : Action) (x : Answer) (t : List ℕ) (stands : may_stand k a ≡ true) where
  step-none : (may : Bool) → may ≡ may_lack k a x.code → Finds may t (element_at (name_of k) t) None → Unreadable ≡ part_step k a (SoFar x t)
  unfolding part_step
  step-none may e f = rw stands (⊎_elim (λ w. rw (w.0, ← e, w.1)) (λ w. rw w) f)

  step-absent : (may : Bool) (u : List ℕ) → may ≡ may_lack k a x.code → Gives may t (element_at (name_of k) t) None u → SoFar x u ≡ part_step k a (SoFar x t)
  unfolding part_step
  step-absent may u e g = rw (stands, g.0, ← e, g.1, g.2)

  step-held : (c u : List ℕ) → element_at (name_of k) t ≡ Content c u → (r : Reading) → r ≡ read_on (filled k x c) u → r ≡ part_step k a (SoFar x t)
  unfolding part_step
  step-held c u f r q = rw (stands, f) q

-- the steps of those that may not
module _ (a : Action) (x : Answer) (t : List ℕ) (barred : takes_more a ≡ false) where
  authcode-barred : part_step Authcode a (SoFar x t) ≡ SoFar x t
  unfolding part_step may_stand
  authcode-barred = rw barred

  date-barred : part_step Date a (SoFar x t) ≡ SoFar x t
  unfolding part_step may_stand
  date-barred = rw barred

-- ---- the code
module _ (t : List ℕ) where
  pub code-none : Finds false t (element_at (name_of Code) t) None → (r : Option (Step ℕ)) → r ≡ None → ReadsCode t r
  code-none f r e a = rw e (step-none Code a empty_answer t (unfold may_stand in refl) false (unfold may_lack in refl) f)

  module _ (v : Option (Bor (List ℕ))) (u : List ℕ) (g : Gives false t (element_at (name_of Code) t) v u) where
    pub code-absent : v ≡ None → (r : Option (Step ℕ)) → ReadsCode t r
    code-absent n r a = let w : Gives false t (element_at (name_of Code) t) None u = rw n at g in no-claim w.1

    module _ (c : Bor (List ℕ)) (e : v ≡ Some c) (n : Option ℕ) (en : n ≡ digits_read 4 c.now) where
      code-held : (r : Reading) → r ≡ read_on (filled Code empty_answer c.now) u → (a : Action) → r ≡ part_step Code a (SoFar empty_answer t)
      code-held r q a = step-held Code a empty_answer t (unfold may_stand in refl) c.now u (rw e at g) r q

      pub code-unread : n ≡ None → (r : Option (Step ℕ)) → r ≡ None → ReadsCode t r
      unfolding filled
      code-unread m r q = code-held (coded r) (rw (q, ← en, m))

      pub code-read : (code : ℕ) → n ≡ Some code → (a : Action) → SoFar (with_code empty_answer code) u ≡ part_step Code a (SoFar empty_answer t)
      unfolding filled
      code-read code m = code-held _ (rw (← en, m))

-- ---- the authcode
module _ (t : List ℕ) where
  pub authcode-none : Finds true t (element_at (name_of Authcode) t) None → (r : Option (Step (Option ℕ))) → r ≡ None → ReadsAuthcode t r
  authcode-none f r e a h x = rw e (step-none Authcode a x t (unfold may_stand in h) true (unfold may_lack in refl) f)

  module _ (v : Option (Bor (List ℕ))) (u : List ℕ) (g : Gives true t (element_at (name_of Authcode) t) v u) where
    pub authcode-absent : v ≡ None → (a : Action) → takes_more a ≡ true → (x : Answer) → SoFar x u ≡ part_step Authcode a (SoFar x t)
    authcode-absent n a h x = step-absent Authcode a x t (unfold may_stand in h) true u (unfold may_lack in refl) (rw n at g)

    module _ (c : Bor (List ℕ)) (e : v ≡ Some c) (n : Option ℕ) (en : n ≡ digits_read 15 c.now) (a : Action) (h : takes_more a ≡ true) (x : Answer) where
      authcode-held : (r : Reading) → r ≡ read_on (filled Authcode x c.now) u → r ≡ part_step Authcode a (SoFar x t)
      authcode-held = step-held Authcode a x t (unfold may_stand in h) c.now u (rw e at g)

    module _ (c : Bor (List ℕ)) (e : v ≡ Some c) (n : Option ℕ) (en : n ≡ digits_read 15 c.now) where
      pub authcode-unread : n ≡ None → (r : Option (Step (Option ℕ))) → r ≡ None → ReadsAuthcode t r
      unfolding filled
      authcode-unread m r q a h x = authcode-held c e n en a h x (authorized_by x r) (rw (q, ← en, m))

      pub authcode-read : (k : ℕ) → n ≡ Some k → (a : Action) → takes_more a ≡ true → (x : Answer) → SoFar (with_authcode x k) u ≡ part_step Authcode a (SoFar x t)
      unfolding filled
      authcode-read k m a h x = authcode-held c e n en a h x _ (rw (← en, m))

-- ---- the date
module _ (may : Bool) (t : List ℕ) where
  pub date-none : Finds may t (element_at (name_of Date) t) None → (r : Option (Step (Option (Bor (List ℕ))))) → r ≡ None → ReadsDate may t r
  date-none f r e a h x l = rw e (step-none Date a x t (unfold may_stand in h) may (unfold may_lack in l) f)

  module _ (v : Option (Bor (List ℕ))) (u : List ℕ) (g : Gives may t (element_at (name_of Date) t) v u) where
    pub date-absent : v ≡ None → (a : Action) → takes_more a ≡ true → (x : Answer) → may ≡ may_lack_date a x.code → SoFar x u ≡ part_step Date a (SoFar x t)
    date-absent n a h x l = step-absent Date a x t (unfold may_stand in h) may u (unfold may_lack in l) (rw n at g)

    module _ (c : Bor (List ℕ)) (e : v ≡ Some c) where
      date-held : (a : Action) → takes_more a ≡ true → (x : Answer) → (r : Reading) → r ≡ read_on (filled Date x c.now) u → r ≡ part_step Date a (SoFar x t)
      date-held a h x = step-held Date a x t (unfold may_stand in h) c.now u (rw e at g)

      date-unread : date_read c.now ≡ None → (r : Option (Step (Option (Bor (List ℕ))))) → r ≡ None → ReadsDate may t r
      unfolding filled
      date-unread m r q a h x l = date-held a h x (dated_by x r) (rw (q, m))

      pub date-short : (length c.now ≡ 19 → ⊥) → (r : Option (Step (Option (Bor (List ℕ))))) → r ≡ None → ReadsDate may t r
      unfolding date_read
      date-short n = date-unread (rw (← size-written c.now n))

      module _ (d : List ℕ) (same : d ≡ c.now) (w : Bool) (ew : w ≡ is_written d) where
        pub date-unwritten : w ≡ false → ReadsDate may t None
        unfolding date_read
        date-unwritten n = date-unread (rw (← same, ← ew, n)) None refl

        pub date-read : w ≡ true → (a : Action) → takes_more a ≡ true → (x : Answer) → may ≡ may_lack_date a x.code → SoFar (with_date x d) u ≡ part_step Date a (SoFar x t)
        unfolding filled date_read
        date-read y a h x l = date-held a h x _ (rw (← same, ← ew, y))

-- ---- the message
module _ (t : List ℕ) where
  pub message-none : Finds true t (element_at (name_of Message) t) None → (r : Option (Bor (List ℕ))) → r ≡ None → ReadsMessage t r
  message-none f r e a x = rw e (step-none Message a x t (unfold may_stand in refl) true (unfold may_lack in refl) f)

  module _ (v : Option (Bor (List ℕ))) (u : List ℕ) (g : Gives true t (element_at (name_of Message) t) v u) where
    pub message-absent : v ≡ None → (a : Action) (x : Answer) → SoFar x u ≡ part_step Message a (SoFar x t)
    message-absent n a x = step-absent Message a x t (unfold may_stand in refl) true u (unfold may_lack in refl) (rw n at g)

    module _ (c : Bor (List ℕ)) (e : v ≡ Some c) where
      pub message-long : 512 < length c.now → ReadsMessage t None
      unfolding filled
      message-long h a x = step-held Message a x t (unfold may_stand in refl) c.now u (rw e at g) Unreadable (rw (lt-leb (length c.now) 512 h))

      pub message-read : length c.now ≤ 512 → (a : Action) (x : Answer) → SoFar x u ≡ part_step Message a (SoFar x t)
      unfolding filled
      message-read h a x = step-held Message a x t (unfold may_stand in refl) c.now u (rw e at g) (SoFar x u) (rw (le-leb (length c.now) 512 h))

-- ---- authcode and date
-- the answer of the elements, as the steps make it
answer-is : (code : ℕ) (n : Option ℕ) (d : Option (Bor (List ℕ))) → answer_of (record { code = code; authcode = n; date = d }) ≡ dated (authorized (with_code empty_answer code) n) d
answer-is code None None = refl
answer-is code None (Some d) = refl
answer-is code (Some n) None = refl
answer-is code (Some n) (Some d) = refl

code-same : (code : ℕ) (n : Option ℕ) → code ≡ (authorized (with_code empty_answer code) n).code
code-same code None = refl
code-same code (Some n) = refl

module _ (a : Action) (code : ℕ) (t : List ℕ) (b : Bool) (takes : b ≡ takes_more a) where
  pub more-barred : not b ≡ true → SoFar (with_code empty_answer code) t ≡ more_step a (SoFar (with_code empty_answer code) t)
  more-barred h =
      let barred : takes_more a ≡ false = sym takes ∙ not-true b h in
      rw (authcode-barred a (with_code empty_answer code) t barred, date-barred a (with_code empty_answer code) t barred)

  module _ (h : not b ≡ false) where
    stands : takes_more a ≡ true
    stands = sym takes ∙ not-false b h

    pub more-no-authcode : ReadsAuthcode t None → (r : Option (Step Parts)) → r ≡ None → parts_of r ≡ more_step a (SoFar (with_code empty_answer code) t)
    more-no-authcode f r e = rw (e, ← f a stands (with_code empty_answer code)) (unfold part_step in refl)

    module _ (n : Step (Option ℕ)) (f : ReadsAuthcode t (Some n)) (may : Bool) (em : may ≡ may_lack_date a code) where
      may-lack : may ≡ may_lack_date a (authorized (with_code empty_answer code) n.value).code
      may-lack = em ∙ ap (may_lack_date a) (code-same code n.value)

      pub more-no-date : ReadsDate may n.rest.now None → (r : Option (Step Parts)) → r ≡ None → parts_of r ≡ more_step a (SoFar (with_code empty_answer code) t)
      more-no-date g r e = rw (e, ← f a stands (with_code empty_answer code)) (g a stands _ may-lack)

      pub more-read : (d : Step (Option (Bor (List ℕ)))) → ReadsDate may n.rest.now (Some d)
          → SoFar (answer_of (record { code = code; authcode = n.value; date = d.value })) d.rest.now ≡ more_step a (SoFar (with_code empty_answer code) t)
      more-read d g = rw (answer-is code n.value d.value, ← f a stands (with_code empty_answer code)) (g a stands _ may-lack)

-- ---- all four
module _ (a : Action) (t : List ℕ) where
  pub parts-no-code : ReadsCode t None → (r : Option (Step Parts)) → r ≡ None → parts_of r ≡ parts_step a (SoFar empty_answer t)
  unfolding parts_step
  parts-no-code f r e = rw (e, ← f a) (unfold part_step in refl)

  module _ (c : Step ℕ) (f : ReadsCode t (Some c)) where
    pub parts-no-more : parts_of None ≡ more_step a (SoFar (with_code empty_answer c.value) c.rest.now) → (r : Option (Step Parts)) → r ≡ None → parts_of r ≡ parts_step a (SoFar empty_answer t)
    unfolding parts_step
    parts-no-more m r e = rw (e, ← f a, ← m) (unfold part_step in refl)

    module _ (p : Step Parts) (m : parts_of (Some p) ≡ more_step a (SoFar (with_code empty_answer c.value) c.rest.now)) where
      pub parts-no-message : ReadsMessage p.rest.now None → (r : Option (Step Parts)) → r ≡ None → parts_of r ≡ parts_step a (SoFar empty_answer t)
      unfolding parts_step
      parts-no-message g r e = rw (e, ← f a, ← m) (g a _)

      pub parts-read : (u : List ℕ) → ((b : Action) (x : Answer) → SoFar x u ≡ part_step Message b (SoFar x p.rest.now)) → SoFar (answer_of p.value) u ≡ parts_step a (SoFar empty_answer t)
      unfolding parts_step
      parts-read u g = rw (← f a, ← m) (g a _)

-- ---- the whole
module _ (s : List ℕ) (r : Option (Bor (List ℕ))) where
  pub open-none : Passes xml_line s None → r ≡ None → passed empty_answer r ≡ open_step s
  unfolding open_step
  open-none f e = rw (e, ← f empty_answer) (unfold tag_step in refl)

  pub open-both : (u : Bor (List ℕ)) → Passes xml_line s (Some u) → Passes (opening response_tag) u.now r → passed empty_answer r ≡ open_step s
  unfolding open_step
  open-both u f g = rw (← f empty_answer) (g empty_answer)

ended : (x : Answer) (u : List ℕ) → eqb (length u) 0 ≡ true → Some x ≡ end_step (SoFar x u)
unfolding end_step
ended x [] h = refl
ended x (z ∷ u) h = let e : length (z ∷ u) ≡ 0 = eqb-true _ _ h in absurd (omega arith)

not-at-end : (x : Answer) (u : List ℕ) → eqb (length u) 0 ≡ false → None ≡ end_step (SoFar x u)
unfolding end_step
not-at-end x [] h = no-claim (sym h)
not-at-end x (z ∷ u) h = refl

module _ (a : Action) (s : List ℕ) where
  pub not-open : passed empty_answer None ≡ open_step s → (r : Option Parts) → r ≡ None → whole_of r ≡ answer_read a s
  unfolding answer_read
  not-open o r e = rw (e, ← o) (unfold parts_step part_step tag_step end_step in refl)

  module _ (t : Bor (List ℕ)) (o : passed empty_answer (Some t) ≡ open_step s) where
    pub not-parts : parts_of None ≡ parts_step a (SoFar empty_answer t.now) → (r : Option Parts) → r ≡ None → whole_of r ≡ answer_read a s
    unfolding answer_read
    not-parts m r e = rw (e, ← o, ← m) (unfold tag_step end_step in refl)

    module _ (p : Step Parts) (m : parts_of (Some p) ≡ parts_step a (SoFar empty_answer t.now)) where
      pub not-closed : Passes (closing response_tag) p.rest.now None → (r : Option Parts) → r ≡ None → whole_of r ≡ answer_read a s
      unfolding answer_read
      not-closed f r e = rw (e, ← o, ← m, ← f (answer_of p.value)) (unfold end_step in refl)

      module _ (u : List ℕ) (f : (x : Answer) → SoFar x u ≡ tag_step (closing response_tag) (SoFar x p.rest.now)) (b : Bool) (eb : b ≡ eqb (length u) 0) where
        pub not-ended : b ≡ false → None ≡ answer_read a s
        unfolding answer_read
        not-ended n = rw (← o, ← m, ← f (answer_of p.value)) (not-at-end (answer_of p.value) u (sym eb ∙ n))

        pub answered : b ≡ true → Some (answer_of p.value) ≡ answer_read a s
        unfolding answer_read
        answered y = rw (← o, ← m, ← f (answer_of p.value)) (ended (answer_of p.value) u (sym eb ∙ y))

pub ruleset pass_tag_laws = (tag-missing, tag-passed)

pub ruleset read_code_laws = (code-none, code-absent, code-unread, code-read)

pub ruleset read_authcode_laws = (authcode-none, authcode-absent, authcode-unread, authcode-read)

pub ruleset read_date_laws = (date-none, date-absent, date-short, date-unwritten, date-read)

pub ruleset pass_message_laws = (message-none, message-absent, message-long, message-read)

pub ruleset read_more_laws = (more-barred, more-no-authcode, more-no-date, more-read)

pub ruleset read_parts_laws = (parts-no-code, parts-no-more, parts-no-message, parts-read)

pub ruleset open_laws = (open-none, open-both)

pub ruleset whole_parts_laws = (not-open, not-parts, not-closed, not-ended, answered)
