-- Laws of a step and its line.
use Prim.Native.Nat.{ℕ, ◌≤◌}
use native.Mathlib.Omega.{arith}
use mathlib.Core.Path.{◌≡◌, ◌∙◌}
use mathlib.Core.List.{List, [], ◌∷◌, ◌++◌, append_assoc}
use lib.ListN.{length, take, length-append, length-take}
use Rattle.texts.specs.Lists.{written, cursor_after}
use Rattle.texts.specs.Digits.{decimal}
use Rattle.texts.proofs.Tests.{cond-elim}
use Rattle.fields.specs.declared.number.Number.{Number}
use Rattle.fields.specs.Number.{number_text}
use Rattle.payments.specs.declared.Action.{Action}
use Rattle.message.specs.declared.request.Asked.{Asked}
use Rattle.message.specs.RequestText.{is_asked, request_bytes, request_text}
use Rattle.message.proofs.RequestAgain.{request-length}
use Rattle.request_writer.specs.Writes.{buffer_all, cursor_all, joined}
use Rattle.request_writer.proofs.WriteTexts.{then-cursor, then-buffer, texts-there, three-buffer, three-cursor, decimal-twenty}
use Rattle.generator.specs.declared.Rolls.{Rolls}
use Rattle.workload.specs.declared.given.AccountName.{AccountName}
use Rattle.workload.specs.declared.line.Step.{Step}
use Rattle.workload.specs.declared.line.Step.TheVariants.{Asks, Draws}
use Rattle.workload.specs.Lines.{step_of, kopecks_of, asked_of, step_text}
use Rattle.workload.specs.LineWalk.{space, line_end, head_texts, figure_texts, ask_texts, draw_texts, step_texts}

-- ---- one text after another
module _ (x y : List ℕ) (d : List ℕ) (at : ℕ) (e : List ℕ) (p : ℕ) (eb : e ≡ written d at x) (ep : p ≡ cursor_after d at x) where
  pub two-buffer : (f : List ℕ) → f ≡ written e p y → f ≡ buffer_all (x ∷ (y ∷ [])) d at
  unfolding buffer_all
  two-buffer f q = q ∙ rw (eb, ep)

  pub two-cursor : (r : ℕ) → r ≡ cursor_after e p y → r ≡ cursor_all (x ∷ (y ∷ [])) d at
  unfolding cursor_all
  two-cursor r q = q ∙ rw (eb, ep)

-- a number's digits and their end
module _ (n : ℕ) (end : List ℕ) (d : List ℕ) (at : ℕ) (e : List ℕ) (p : ℕ) (eb : e ≡ written d at (decimal n)) (ep : p ≡ cursor_after d at (decimal n)) where
  pub figure-buffer : (f : List ℕ) → f ≡ written e p end → f ≡ buffer_all (figure_texts n end) d at
  unfolding figure_texts
  figure-buffer = two-buffer (decimal n) end d at e p eb ep

  pub figure-cursor : (r : ℕ) → r ≡ cursor_after e p end → r ≡ cursor_all (figure_texts n end) d at
  unfolding figure_texts
  figure-cursor = two-cursor (decimal n) end d at e p eb ep

-- a letter, a field and a space
module _ (letter field : List ℕ) (d : List ℕ) (at : ℕ) (e : List ℕ) (p : ℕ) (eb : e ≡ written d at letter) (ep : p ≡ cursor_after d at letter)
    (f : List ℕ) (q : ℕ) (fb : f ≡ written e p field) (fp : q ≡ cursor_after e p field) where
  pub head-buffer : (g : List ℕ) → g ≡ written f q space → g ≡ buffer_all (head_texts letter field) d at
  unfolding head_texts buffer_all
  head-buffer g y = two-buffer field space e p f q fb fp g y ∙ rw (eb, ep)

  pub head-cursor : (r : ℕ) → r ≡ cursor_after f q space → r ≡ cursor_all (head_texts letter field) d at
  unfolding head_texts cursor_all
  head-cursor r y = two-cursor field space e p f q fb fp r y ∙ rw (eb, ep)

-- a drawing
module _ (n : Number) (kind kopecks : ℕ) (d : List ℕ) (at : ℕ) (v : List ℕ) (ev : v ≡ number_text n)
    (e : List ℕ) (p : ℕ) (eb : e ≡ buffer_all (head_texts (68 ∷ space) v) d at) (ep : p ≡ cursor_all (head_texts (68 ∷ space) v) d at)
    (f : List ℕ) (q : ℕ) (fb : f ≡ buffer_all (figure_texts kind space) e p) (fp : q ≡ cursor_all (figure_texts kind space) e p) where
  pub draw-buffer : (g : List ℕ) → g ≡ buffer_all (figure_texts kopecks line_end) f q → g ≡ buffer_all (draw_texts n kind kopecks) d at
  draw-buffer g y =
      three-buffer (head_texts (68 ∷ space) v) (figure_texts kind space) (figure_texts kopecks line_end) d at e p eb ep f q fb fp g y ∙ rw ev

  pub draw-cursor : (r : ℕ) → r ≡ cursor_all (figure_texts kopecks line_end) f q → r ≡ cursor_all (draw_texts n kind kopecks) d at
  draw-cursor r y =
      three-cursor (head_texts (68 ∷ space) v) (figure_texts kind space) (figure_texts kopecks line_end) d at e p eb ep f q fb fp r y ∙ rw ev

-- ---- a step's request and texts
module _ (date : List ℕ) (reason : ℕ) (a : AccountName) (r : Rolls) where
  module _ (s : Step) (is : s ≡ step_of r.step) (d : List ℕ) (at : ℕ) where
    module _ (action : Action) (asks : s ≡ Asks action) (q : Asked) (eq : q ≡ asked_of date reason a r action) where
      pub asks-cursor : (e : ℕ) → e ≡ cursor_all (ask_texts date q) d at → e ≡ cursor_all (step_texts date reason a r (step_of r.step)) d at
      unfolding step_texts
      asks-cursor e g = g ∙ rw (← is, asks, eq)

      pub asks-buffer : (e : List ℕ) → e ≡ buffer_all (ask_texts date q) d at → e ≡ buffer_all (step_texts date reason a r (step_of r.step)) d at
      unfolding step_texts
      asks-buffer e g = g ∙ rw (← is, asks, eq)

    module _ (draws : s ≡ Draws) (k : ℕ) (ek : k ≡ kopecks_of r) where
      pub draws-cursor : (e : ℕ) → e ≡ cursor_all (draw_texts a.number a.kind k) d at → e ≡ cursor_all (step_texts date reason a r (step_of r.step)) d at
      unfolding step_texts
      draws-cursor e g = g ∙ rw (← is, draws, ek)

      pub draws-buffer : (e : List ℕ) → e ≡ buffer_all (draw_texts a.number a.kind k) d at → e ≡ buffer_all (step_texts date reason a r (step_of r.step)) d at
      unfolding step_texts
      draws-buffer e g = g ∙ rw (← is, draws, ek)

  -- together they are the line
  line-joined : (s : Step) → joined (step_texts date reason a r s) ≡ step_text date reason a r s ++ (10 ∷ [])
  unfolding step_texts step_text head_texts figure_texts joined
  line-joined (Asks action) = rw append_assoc
  line-joined Draws = rw (append_assoc, append_assoc)

-- ---- a line is short
request-short : (q : Asked) → length q.date ≡ 19 → length (request_text q) ≤ 224
unfolding request_text
request-short q dated = cond-elim (λ (x : List ℕ). length x ≤ 224) (is_asked q) (request_bytes q) [] (λ g. request-length q dated g) (λ _. omega arith)

module _ (date : List ℕ) (reason : ℕ) (a : AccountName) (r : Rolls) (dated : length date ≡ 19) (thirty : length a.number.bytes ≡ 30) where
  pub line-short : (s : Step) → length (step_text date reason a r s ++ (10 ∷ [])) ≤ 256
  unfolding step_text asked_of
  line-short (Asks action) =
      simp length-append (omega (arith, request-short (asked_of date reason a r action) dated))
  line-short Draws =
      simp (length-append, length-take) (omega (arith, decimal-twenty a.kind, decimal-twenty (kopecks_of r)))

  -- written into a buffer of its own, and from there
  module _ (z : List ℕ) (size : length z ≡ 256) (n : ℕ) (x : List ℕ) (en : n ≡ cursor_all (step_texts date reason a r (step_of r.step)) z 0)
      (ex : x ≡ buffer_all (step_texts date reason a r (step_of r.step)) z 0) (v : List ℕ) (ev : v ≡ take n x) (d : List ℕ) (at : ℕ) where
    text-is : v ≡ step_text date reason a r (step_of r.step) ++ (10 ∷ [])
    text-is =
        let j = line-joined date reason a r (step_of r.step) in
        let fits : length (joined (step_texts date reason a r (step_of r.step))) ≤ length z = rw j (omega (arith, line-short (step_of r.step))) in
        ev ∙ rw (en, ex, texts-there z (step_texts date reason a r (step_of r.step)) fits) j

    pub line-cursor : (e : ℕ) → e ≡ cursor_after d at v → e ≡ cursor_after d at (step_text date reason a r (step_of r.step) ++ (10 ∷ []))
    line-cursor e g = g ∙ rw text-is

    pub line-written : (e : List ℕ) → e ≡ written d at v → e ≡ written d at (step_text date reason a r (step_of r.step) ++ (10 ∷ []))
    line-written e g = g ∙ rw text-is

pub ruleset write_head_laws = (head-cursor, head-buffer)

pub ruleset write_ask_laws = (then-cursor, then-buffer, two-cursor, two-buffer)

pub ruleset write_figure_laws = (figure-cursor, figure-buffer)

pub ruleset write_draw_laws = (draw-cursor, draw-buffer)

pub ruleset write_step_laws = (draws-cursor, draws-buffer)
