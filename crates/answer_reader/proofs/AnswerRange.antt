-- What is read of an answer is in range.
use Rattle.std.specs.Prelude.{Option, Some, None, is_some}
use Prim.Native.Nat.{ℕ, ◌^◌, ◌≤◌, ◌<◌}
use native.Mathlib.Omega.{arith}
use mathlib.Core.Path.{◌≡◌, refl, sym}
use mathlib.Core.List.{List}
use mathlib.Core.Bool.{true, false}
use lib.ListN.{length}
use lib.Dec.{leb}
use Rattle.texts.specs.Digits.{digits_read}
use Rattle.dates.specs.Date.{date_read}
use Rattle.texts.proofs.Tests.{cond-elim}
use Rattle.texts.proofs.DigitLaws.{digits-below}
use Rattle.payments.specs.declared.Action.{Action}
use Rattle.payments.specs.declared.Answer.{Answer}
use Rattle.answer_reader.specs.declared.parts.Part.{Part}
use Rattle.answer_reader.specs.declared.parts.Part.TheVariants.{Code, Authcode, Date, Message}
use Rattle.answer_reader.specs.AnswerRead.{starts, Found, NoTag, Unclosed, Content, element_at, name_of, may_stand, may_lack, empty_answer, with_code, with_authcode, number_held, date_held, filled, Reading, Unreadable, SoFar, read_on, tag_step, part_found, part_step, open_step, parts_step, is_empty, end_step, answer_read, answer_in}

abbrev InRange : Answer → Type 0
InRange x = (x.code ≤ 9999) × (x.authcode ≤ 999999999999999) × (x.authorized ≡ false → x.authcode ≡ 0)

-- the answer so far, as long as there is one
abbrev so_far : Reading → Answer
so_far Unreadable = empty_answer
so_far (SoFar x t) = x

none-range : InRange empty_answer
none-range = (omega arith, omega arith, λ e. refl)

number-range : (f : ℕ → Answer) (most : ℕ) (c : List ℕ) → ((v : ℕ) → v < 10 ^ most → InRange (f v)) → InRange (answer_in (number_held f (digits_read most c)))
number-range f most c h = go (digits_read most c) refl
  where
    go : (d : Option ℕ) → digits_read most c ≡ d → InRange (answer_in (number_held f d))
    go None e = none-range
    go (Some v) e = h v (digits-below most c v (sym e))

fill-range : (k : Part) (x : Answer) (c : List ℕ) → InRange x → InRange (answer_in (filled k x c))
unfolding filled
fill-range Code x c h = number-range (with_code x) 4 c (λ v l. (omega arith, h.1, h.2))
fill-range Authcode x c h = number-range (with_authcode x) 15 c (λ v l. (h.0, omega arith, λ e. let z : ◌≡◌ {A = ℕ} 0 1 = cc in absurd (omega arith)))
fill-range Date x c h = go (date_read c)
  where
    go : (d : Option (List ℕ)) → InRange (answer_in (date_held x d))
    go None = none-range
    go (Some d) = h
fill-range Message x c h = cond-elim (λ (r : Option Answer). InRange (answer_in r)) (leb (length c) 512) _ _ (λ e. h) (λ e. none-range)

-- ---- each step keeps it
tag-range : (tag : List ℕ) (r : Reading) → InRange (so_far r) → InRange (so_far (tag_step tag r))
unfolding tag_step
tag-range tag Unreadable h = h
tag-range tag (SoFar x t) h = cond-elim (λ (r : Reading). InRange (so_far r)) (starts tag t) _ _ (λ e. h) (λ e. none-range)

module _ (k : Part) (a : Action) where
  found-range : (x : Answer) (left : List ℕ) (f : Found) → InRange x → InRange (so_far (part_found k a x left f))
  found-range x left NoTag h = cond-elim (λ (r : Reading). InRange (so_far r)) (may_lack k a x.code) _ _ (λ e. h) (λ e. none-range)
  found-range x left Unclosed h = none-range
  found-range x left (Content c t) h = go (filled k x c) (fill-range k x c h)
    where
      go : (r : Option Answer) → InRange (answer_in r) → InRange (so_far (read_on r t))
      go None l = none-range
      go (Some y) l = l

  part-range : (r : Reading) → InRange (so_far r) → InRange (so_far (part_step k a r))
  unfolding part_step
  part-range Unreadable h = h
  part-range (SoFar x t) h = cond-elim (λ (r : Reading). InRange (so_far r)) (may_stand k a) _ _ (λ e. found-range x t (element_at (name_of k) t) h) (λ e. h)

end-range : (r : Reading) → InRange (so_far r) → InRange (answer_in (end_step r))
unfolding end_step
end-range Unreadable h = h
end-range (SoFar x t) h = cond-elim (λ (r : Option Answer). InRange (answer_in r)) (is_empty t) _ _ (λ e. h) (λ e. none-range)

all-range : (a : Action) (s : List ℕ) → InRange (answer_in (answer_read a s))
unfolding answer_read open_step parts_step
all-range a s =
    end-range _ (tag-range _ _ (part-range Message a _ (part-range Date a _ (part-range Authcode a _ (part-range Code a _ (tag-range _ _ (tag-range _ (SoFar empty_answer s) none-range)))))))

-- what the agent may store: a code of at most 4 digits, and an authcode of at most 15, 0 where there is none
module _ (a : Action) (s : List ℕ) where
  pub read-code : is_some (answer_read a s) ≡ true → ((answer_in (answer_read a s)).code ≤ 9999) × ((answer_in (answer_read a s)).authcode ≤ 999999999999999)
  read-code e = let h = all-range a s in (h.0, h.1)

  pub read-unauthorized : (answer_in (answer_read a s)).authorized ≡ false → (answer_in (answer_read a s)).authcode ≡ 0
  read-unauthorized = (all-range a s).2
