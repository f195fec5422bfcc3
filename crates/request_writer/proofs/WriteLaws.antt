-- The text of a request at its cursor.
use Prim.Native.Nat.{ℕ, ◌+◌, ◌≤◌}
use native.Mathlib.Nat.{add-zero}
use native.Mathlib.Omega.{arith}
use mathlib.Core.Path.{◌≡◌, refl, sym, ◌∙◌}
use mathlib.Core.List.{List, []}
use mathlib.Core.Bool.{Bool, true, false, cond, not}
use lib.Dec.{leb}
use lib.ListN.{length, take}
use borrow.Author.Tests.{not-true, not-false}
use Rattle.texts.specs.Lists.{over, written, cursor_after}
use Rattle.texts.proofs.OutLaws.{over_none}
use Rattle.message.specs.declared.request.Asked.{Asked}
use Rattle.message.specs.RequestText.{is_asked, request_text}
use Rattle.request_writer.specs.Writes.{buffer_all, cursor_all, joined}
use Rattle.request_writer.specs.WriteWalk.{request_texts}
use Rattle.request_writer.proofs.WriteTexts.{texts-there, texts-joined}
use Rattle.message.proofs.RequestAgain.{request-length}

-- an empty text moves nothing
cursor-none : (d : List ℕ) (at : ℕ) → at ≡ cursor_after d at []
unfolding cursor_after
cursor-none d at = go (leb (at + 0) (length d))
  where
    go : (t : Bool) → at ≡ cond t (at + 0) at
    go true = sym (add-zero at)
    go false = refl

written_none : (d : List ℕ) (at : ℕ) → d ≡ written d at []
unfolding written
written_none d at = go (leb (at + 0) (length d))
  where
    go : (t : Bool) → d ≡ cond t (over d at []) d
    go true = sym (over_none d at)
    go false = refl

module _ (q : Asked) (d : List ℕ) (at : ℕ) (t : Bool) (test : t ≡ is_asked q) where
  pub refused-cursor : not t ≡ true → at ≡ cursor_after d at (request_text q)
  unfolding request_text
  refused-cursor h = rw (← test, not-true t h) (cursor-none d at)

  pub refused-kept : not t ≡ true → (e : List ℕ) → e ≡ d → e ≡ written d at (request_text q)
  unfolding request_text
  refused-kept h e g = g ∙ rw (← test, not-true t h) (written_none d at)

  module _ (h : not t ≡ false) (date : length q.date ≡ 19) (z : List ℕ) (size : length z ≡ 256) (n : ℕ) (x : List ℕ)
      (en : n ≡ cursor_all (request_texts q) z 0) (ex : x ≡ buffer_all (request_texts q) z 0) (v : List ℕ) (ev : v ≡ take n x) where
    text-is : v ≡ request_text q
    unfolding request_text
    text-is =
        let good : is_asked q ≡ true = sym test ∙ not-false t h in
        let l : length (joined (request_texts q)) ≤ length z = rw (texts-joined q) (omega (arith, request-length q date good)) in
        ev ∙ rw (en, ex, texts-there z (request_texts q) l, good) (texts-joined q)

    pub request-cursor : (r : ℕ) → r ≡ cursor_after d at v → r ≡ cursor_after d at (request_text q)
    request-cursor r g = g ∙ rw text-is

    pub request-written : (e : List ℕ) → e ≡ written d at v → e ≡ written d at (request_text q)
    request-written e g = g ∙ rw text-is

pub ruleset refused_laws = (refused-cursor, refused-kept)
