-- Every answer that the gate's rules allow is read back from its bytes.
use Rattle.std.specs.Prelude.{Some}
use Prim.Native.Nat.{ℕ, ◌≤◌}
use native.Mathlib.Omega.{arith}
use mathlib.Core.Path.{◌≡◌, refl}
use mathlib.Core.List.{List, ◌∷◌, ◌++◌, append_assoc}
use mathlib.Core.Bool.{Bool, true, false, cond, not, ◌&&◌, ◌||◌}
use lib.ListN.{length, drop}
use lib.Seq.{take-append_seam, drop-append_seam, drop-append-add}
use lib.Dec.{eqb, leb}
use borrow.Author.Tests.{le-leb, leb-true, ne_eqb}
use Rattle.texts.specs.Lists.{every, find, eq_list}
use Rattle.texts.specs.Digits.{is_digit, decimal}
use Rattle.dates.specs.Date.{is_written, empty_date}
use Rattle.texts.proofs.Tests.{and_left, and_right, both, cond-elim}
use Rattle.texts.proofs.ListLaws.{every-weaker}
use Rattle.texts.proofs.ScanLaws.{eq_list-refl}
use Rattle.texts.proofs.DecimalLaws.{digits-again, decimal-digits}
use Rattle.dates.proofs.DateLaws.{date-bytes, date-again}
use Rattle.payments.specs.declared.Action.{Action}
use Rattle.texts.proofs.FindLaws.{find-behind}
use Rattle.payments.specs.declared.Answer.{Answer}
use Rattle.answer_reader.specs.declared.parts.Part.{Part}
use Rattle.answer_reader.specs.declared.parts.Part.TheVariants.{Code, Authcode, Date, Message}
use Rattle.answers.specs.Answer.{xml_line, response_tag, code_tag, authcode_tag, date_tag, message_tag, opening, closing, element, element_if, has_message, message_of, answer_bytes}
use Rattle.answer_reader.specs.AnswerRead.{starts, is_blank, skip_blanks, NoTag, Content, content_of, between, element_at, name_of, takes_more, may_stand, may_lack_date, may_lack, empty_answer, filled, Reading, SoFar, tag_step, part_step, open_step, parts_step, end_step, answer_read}
use Rattle.answer_reader.specs.ReadBack.{is_answer, answer_again}
use Rattle.answers.proofs.AnswerTextLaws.{message-elim, message-size}

-- ---- contents have no < (60)
abbrev is_clear : ℕ → Bool
is_clear b = not (eqb b 60)

find-clear : (xs ys : List ℕ) → every is_clear xs ≡ true → find 60 (xs ++ (60 ∷ ys)) ≡ length xs
find-clear xs ys h = find-behind is_clear 60 xs ys refl h

digit_clear : (b : ℕ) → is_digit b ≡ true → is_clear b ≡ true
digit_clear b h = let l : b ≤ 57 = leb-true b 57 (and_right (leb 48 b) (leb b 57) h) in rw (ne_eqb b 60 (omega arith))

number-clear : (n : ℕ) → every is_clear (decimal n) ≡ true
number-clear n = every-weaker is_digit is_clear (decimal n) digit_clear (decimal-digits n)

message-clear : (code : ℕ) → every is_clear (message_of code) ≡ true
unfolding message_of every
message-clear = message-elim (λ (m : List ℕ). every is_clear m ≡ true) refl refl refl refl

-- ---- a tag, and an element, before a rest that begins with no blank
starts-self : (t u : List ℕ) → starts t (t ++ u) ≡ true
unfolding starts
starts-self t u = rw take-append_seam (eq_list-refl t)

tag-again : (tag : List ℕ) (x : Answer) (u : List ℕ) → skip_blanks u ≡ u → tag_step tag (SoFar x (tag ++ u)) ≡ SoFar x u
unfolding tag_step
tag-again tag x u q = rw (starts-self tag u, drop-append_seam, q)

module _ (name content rest : List ℕ) (settled : skip_blanks rest ≡ rest) where
  element-again : every is_clear content ≡ true → element_at name (element name content ++ rest) ≡ Content content rest
  unfolding between content_of element
  element-again clear =
      let whole : (opening name ++ (content ++ closing name)) ++ rest ≡ opening name ++ (content ++ (closing name ++ rest)) =
      rw (append_assoc (opening name) (content ++ closing name) rest, append_assoc content (closing name) rest) in
      let inside : drop (length (opening name)) (opening name ++ (content ++ (closing name ++ rest))) ≡ content ++ (closing name ++ rest) = drop-append_seam (opening name) _ in
      let place : find 60 (content ++ (closing name ++ rest)) ≡ length content = find-clear content _ clear in
      rw (whole, starts-self (opening name) (content ++ (closing name ++ rest)), inside, place, drop-append_seam content (closing name ++ rest), starts-self (closing name) rest)
      (rw (take-append_seam content (closing name ++ rest), drop-append-add content (closing name ++ rest) (length (closing name)), drop-append_seam (closing name) rest, settled))

  element-none : starts (opening name) rest ≡ false → element_at name rest ≡ NoTag
  unfolding between
  element-none fresh = rw fresh

-- one element, used or not
module _ (k : Part) (content rest : List ℕ) (settled : skip_blanks rest ≡ rest) where
  part-again : (a : Action) (used : Bool) (x y : Answer)
      → (used ≡ true → (may_stand k a ≡ true) × (every is_clear content ≡ true) × (filled k x content ≡ Some y))
      → (used ≡ false → (starts (opening (name_of k)) rest ≡ false) × (may_lack k a x.code ≡ true) × (x ≡ y))
      → part_step k a (SoFar x (element_if used (name_of k) content ++ rest)) ≡ SoFar y rest
  unfolding part_step
  part-again a true x y f g =
      let h = f refl in
      rw (h.0, element-again (name_of k) content rest settled h.1, h.2)
  part-again a false x y f g =
      let h = g refl in
      rw (element-none (name_of k) content rest settled h.0, h.1, h.2) (cond-elim (λ (r : Reading). r ≡ SoFar y rest) (may_stand k a) _ _ (λ e. refl) (λ e. refl))

-- ---- what follows, whether an element is used or not
rest-if : (P : List ℕ → Type 0) (used : Bool) (name content more : List ℕ) → P (element name content ++ more) → P more → P (element_if used name content ++ more)
rest-if P true name content more p q = p
rest-if P false name content more p q = q

settled-if : (used : Bool) (name content more : List ℕ) → skip_blanks more ≡ more → skip_blanks (element_if used name content ++ more) ≡ element_if used name content ++ more
unfolding skip_blanks is_blank element
settled-if used name content more q = rest-if (λ (t : List ℕ). skip_blanks t ≡ t) used name content more refl q

-- ---- an answer by its parts, and the ends of its text
abbrev held : ℕ → Bool → ℕ → Bool → List ℕ → Answer
held code u n v d = record { code = code; authorized = u; authcode = cond u n 0; dated = v; date = cond v d empty_date }

module _ (a : Action) (code : ℕ) (u : Bool) (n : ℕ) (v : Bool) (d : List ℕ) where
  abbrev last : List ℕ
  last = element_if (has_message code) message_tag (message_of code) ++ closing response_tag

  abbrev later : List ℕ
  later = element_if v date_tag d ++ last

  abbrev behind : List ℕ
  behind = element_if u authcode_tag (decimal n) ++ later

  fresh-last : (tag : List ℕ) → starts tag (element message_tag (message_of code) ++ closing response_tag) ≡ false → starts tag (closing response_tag) ≡ false → starts tag last ≡ false
  fresh-last tag p q = rest-if (λ (t : List ℕ). starts tag t ≡ false) (has_message code) message_tag (message_of code) (closing response_tag) p q

  settled-last : skip_blanks last ≡ last
  unfolding skip_blanks is_blank
  settled-last = settled-if (has_message code) message_tag (message_of code) (closing response_tag) refl

  settled-later : skip_blanks later ≡ later
  settled-later = settled-if v date_tag d last settled-last

  settled-behind : skip_blanks behind ≡ behind
  settled-behind = settled-if u authcode_tag (decimal n) later settled-later

  code-again : code ≤ 9999 → part_step Code a (SoFar empty_answer (element code_tag (decimal code) ++ behind)) ≡ SoFar (held code false n false d) behind
  unfolding may_stand filled
  code-again h =
      part-again Code (decimal code) behind settled-behind a true empty_answer (held code false n false d)
      (λ e. (refl, number-clear code, rw (digits-again 4 code (omega arith) (omega arith) (omega arith))))
      (λ e. let z : ◌≡◌ {A = ℕ} 0 1 = cc in absurd (omega arith))

  authcode-again : (u ≡ true → (takes_more a ≡ true) × (n ≤ 999999999999999))
      → part_step Authcode a (SoFar (held code false n false d) behind) ≡ SoFar (held code u n false d) later
  unfolding may_stand may_lack filled starts eq_list element
  authcode-again h =
      part-again Authcode (decimal n) later settled-later a u (held code false n false d) (held code u n false d)
      (λ e. let l : n ≤ 999999999999999 = (h e).1 in ((h e).0, number-clear n, rw (digits-again 15 n (omega arith) (omega arith) (omega arith), e)))
      (λ e. (rest-if (λ (t : List ℕ). starts (opening authcode_tag) t ≡ false) v date_tag d last refl (fresh-last (opening authcode_tag) refl refl), refl, rw e))

  date-again-in : (v ≡ true → (takes_more a ≡ true) × (is_written d ≡ true)) → (v ≡ false → may_lack_date a code ≡ true)
      → part_step Date a (SoFar (held code u n false d) later) ≡ SoFar (held code u n v d) last
  unfolding may_stand may_lack filled starts eq_list element
  date-again-in h g =
      part-again Date d last settled-last a v (held code u n false d) (held code u n v d)
      (λ e. ((h e).0, date-bytes is_clear d digit_clear refl refl refl (h e).1, rw (date-again d (h e).1, e)))
      (λ e. (fresh-last (opening date_tag) refl refl, g e, rw e))

  message-again : part_step Message a (SoFar (held code u n v d) last) ≡ SoFar (held code u n v d) (closing response_tag)
  unfolding may_stand may_lack filled starts eq_list skip_blanks is_blank
  message-again =
      part-again Message (message_of code) (closing response_tag) refl a (has_message code) (held code u n v d) (held code u n v d)
      (λ e. let l : length (message_of code) ≤ 512 = omega (arith, message-size code) in (refl, message-clear code, rw (le-leb (length (message_of code)) 512 l)))
      (λ e. (refl, refl, refl))

end-again : (x : Answer) → end_step (tag_step (closing response_tag) (SoFar x (closing response_tag))) ≡ Some x
unfolding end_step tag_step starts eq_list skip_blanks
end-again x = refl

module _ (a : Action) (x : Answer) where
  abbrev inside : List ℕ
  inside = element code_tag (decimal x.code) ++ behind a x.code x.authorized x.authcode x.dated x.date

  open-again : open_step (answer_bytes x) ≡ SoFar empty_answer inside
  unfolding open_step answer_bytes skip_blanks is_blank element
  open-again = rw (tag-again xml_line empty_answer (opening response_tag ++ inside) refl) (tag-again (opening response_tag) empty_answer inside refl)

  parts_again : is_answer a x ≡ true → parts_step a (SoFar empty_answer inside) ≡ SoFar (answer_again x) (closing response_tag)
  unfolding is_answer answer_again parts_step
  parts_again ok =
      let c = both (leb x.code 9999) _ ok in
      let r = both (not x.authorized || (takes_more a && leb x.authcode 999999999999999)) _ c.1 in
      rw (
        code-again a x.code x.authorized x.authcode x.dated x.date (leb-true _ _ c.0),
        authcode-again a x.code x.authorized x.authcode x.dated x.date
            (λ e. let h : takes_more a && leb x.authcode 999999999999999 ≡ true = rw e at r.0 in (and_left (takes_more a) _ h, leb-true _ _ (and_right (takes_more a) _ h))),
        date-again-in a x.code x.authorized x.authcode x.dated x.date
            (λ e. both (takes_more a) _ (rw e at r.1))
            (λ e. rw e at r.1),
      )
      (message-again a x.code x.authorized x.authcode x.dated x.date)

pub answer-again : (a : Action) (x : Answer) → is_answer a x ≡ true → answer_read a (answer_bytes x) ≡ Some (answer_again x)
unfolding answer_read
answer-again a x ok = rw (open-again a x, parts_again a x ok) (end-again (answer_again x))
