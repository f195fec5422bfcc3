-- Laws of tags, blanks and elements at the start of a text.
use Prim.Native.Nat.{ℕ, ◌+◌, ◌-◌, ◌≤◌, ◌<◌}
use native.Mathlib.Omega.{arith}
use mathlib.Core.Path.{◌≡◌, sym, ap, ◌∙◌}
use mathlib.Core.List.{List, []}
use mathlib.Core.Bool.{Bool, true, false}
use lib.ListN.{length, get_or, take, drop, length-drop, drop_of_length-le}
use native.Mathlib.Nat.{le_refl}
use lib.Seq.{take_all, drop-drop}
use Rattle.answers.specs.Answer.{opening, closing}
use Rattle.texts.specs.Lists.{find, eq_list}
use Rattle.texts.proofs.ListLaws.{drop-next}
use Rattle.texts.proofs.ScanLaws.{lengths_differ}
use Rattle.answer_reader.specs.AnswerRead.{starts, is_blank, skip_blanks, NoTag, Unclosed, Content, content_of, between, element_at}

-- a part of a text to its end
rest-all : (t : List ℕ) (i : ℕ) → take (length t - i) (drop i t) ≡ drop i t
rest-all t i = take_all (length t - i) (drop i t) (rw length-drop (le_refl _))

-- ---- blanks
module _ (t : List ℕ) (i : ℕ) (passed : skip_blanks t ≡ skip_blanks (drop i t)) where
  pub skip-pass : (b : Bool) → b ≡ is_blank (get_or t i 0) → b ≡ true → i < length t → skip_blanks t ≡ skip_blanks (drop (i + 1) t)
  unfolding skip_blanks
  skip-pass b e y h = passed ∙ rw (drop-next t i h, ← e, y)

  pub skip-stop : (b : Bool) → b ≡ is_blank (get_or t i 0) → b ≡ false → i < length t → take (length t - i) (drop i t) ≡ skip_blanks t
  unfolding skip_blanks
  skip-stop b e n h = rest-all t i ∙ sym (passed ∙ rw (drop-next t i h, ← e, n))

  pub skip-end : length t ≤ i → [] ≡ skip_blanks t
  unfolding skip_blanks
  skip-end h = sym (passed ∙ rw (drop_of_length-le t h))

-- ---- a tag at the start
module _ (tag t : List ℕ) where
  pub starts-short : length t < length tag → starts tag t ≡ false
  unfolding starts
  starts-short h =
      let n : length t ≡ length tag → ⊥ = λ e. omega arith in
      let all : take (length tag) t ≡ t = take_all (length tag) t (omega arith) in
      rw all (sym (lengths_differ t tag n))

  pub starts-same : (head : List ℕ) → head ≡ take (length tag) t → (r b : Bool) → r ≡ eq_list head tag → r ≡ b → starts tag t ≡ b
  unfolding starts
  starts-same head eh r b e q = rw (← eh) (sym e ∙ q)

-- ---- an element
module _ (name t : List ℕ) where
  pub element-lacks : starts (opening name) t ≡ false → element_at name t ≡ NoTag
  unfolding between
  element-lacks n = rw n

  module _ (y : starts (opening name) t ≡ true) (inside : List ℕ) (ei : inside ≡ drop (length (opening name)) t) (z : ℕ) (ez : z ≡ find 60 inside) (u : List ℕ) (eu : u ≡ drop z inside) where
    left : element_at name t ≡ content_of (closing name) inside
    unfolding between
    left = rw (y, ei)

    pub element-unclosed : starts (closing name) u ≡ false → element_at name t ≡ Unclosed
    unfolding content_of
    element-unclosed n = left ∙ rw (← ez, ← eu, n)

    pub element-held : starts (closing name) u ≡ true → (v : List ℕ) → v ≡ drop (length (closing name)) u → (c w : List ℕ) → c ≡ take z inside → w ≡ skip_blanks v
        → element_at name t ≡ Content c w
    unfolding content_of
    element-held held v ev c w ec ew =
        let far : drop (z + length (closing name)) inside ≡ v = sym (drop-drop (length (closing name)) z inside) ∙ ap (drop (length (closing name))) (sym eu) ∙ sym ev in
        left ∙ rw (← ez, ← eu, held, far, ec, ew)

pub ruleset skip_blanks_laws = (skip-pass, skip-stop, skip-end)

pub ruleset strip_laws = (starts-short, starts-same)

pub ruleset element_at_laws = (element-lacks, element-unclosed, element-held)
