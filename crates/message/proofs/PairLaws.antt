-- Name = value pairs behind &: what is written of them is split, gathered and read back.
use Rattle.std.specs.Prelude.{Option, Some, None}
use Prim.Native.Nat.{ℕ, suc, ◌+◌, ◌≤◌, ◌<◌}
use native.Mathlib.Omega.{arith}
use mathlib.Core.Path.{◌≡◌, refl, sym, ap, ◌∙◌}
use mathlib.Core.List.{List, [], ◌∷◌, ◌++◌, append-nil}
use mathlib.Core.Bool.{Bool, true, false, cond, ◌&&◌}
use lib.Dec.{eqb, ltb}
use lib.ListN.{length, drop, replicate, length-append}
use lib.Seq.{append_snoc, take-append_seam, drop-append-add, get_or-append_seam, set-append_seam}
use borrow.Author.Tests.{eqb-true, ltb-false, lt-ltb}
use Rattle.texts.specs.Lists.{every, find}
use Rattle.texts.proofs.Tests.{both, no-claim}
use Rattle.texts.proofs.ListLaws.{every-weaker}
use Rattle.coding.specs.Url.{is_plain, coded, is_byte}
use Rattle.coding.specs.Params.{pieces}
use Rattle.texts.proofs.RangeLaws.{above}
use Rattle.texts.proofs.FindLaws.{tests-differ, find_absent, find-seam, find-both, find-other}
use Rattle.coding.proofs.ParamLaws.{split-last, split-append}
use Rattle.coding.proofs.CodedLaws.{coded-marks, decode-coded, coded-well, coded-plain, coded-find}
use Rattle.parameters.specs.Names.{name_index}
use Rattle.parameters.specs.Slots.{Slot, Absent, Holds, Values, add_piece, gather_from, gathered}
use Rattle.message.specs.Request.{held, field_of}
use Rattle.message.specs.RequestText.{pair, pair_if}
use Rattle.parameters.proofs.SlotLaws.{add-some}

-- ---- pairs
-- a pair, where it is used: its value has bytes only, and its coded value at most `most`
pub data Entry : Type 0 where
  entry : (used : Bool) (name value : List ℕ) (most : ℕ)
      → (used ≡ true → every is_byte value ≡ true) → (used ≡ true → length (coded value) ≤ most) → Entry

abbrev pub entry_used : Entry → Bool
entry_used (entry used name value most b l) = used

abbrev pub entry_value : Entry → List ℕ
entry_value (entry used name value most b l) = value

-- the slot that it fills
abbrev pub entry_slot : Entry → Slot
entry_slot (entry used name value most b l) = cond used (Holds (coded value)) Absent

-- the text of the pairs that are used
unfoldable pub text_of : List Entry → List ℕ
text_of [] = []
text_of (entry used name value most b l ∷ es) = pair_if used name value ++ text_of es

unfoldable pub slots_for : List Entry → List Slot
slots_for [] = []
slots_for (e ∷ es) = entry_slot e ∷ slots_for es

-- its most bytes, were all used
unfoldable pub size_of : List Entry → ℕ
size_of [] = 0
size_of (entry used name value most b l ∷ es) = 2 + length name + most + size_of es

-- whether it is this place
abbrev pub is_at : Option ℕ → ℕ → Bool
is_at None k = false
is_at (Some j) k = eqb j k

at-place : (x : Option ℕ) (k : ℕ) → is_at x k ≡ true → x ≡ Some k
at-place (Some j) k h = rw (eqb-true j k h)
at-place None k h = no-claim h

-- known names of plain bytes, at the places from k on
unfoldable pub named : ℕ → List Entry → Bool
named k [] = true
named k (entry used name value most b l ∷ es) = (is_at (name_index name) k && every is_plain name) && named (suc k) es

-- the pieces behind a first &
behind : List ℕ → List (List ℕ)
behind [] = []
behind (b ∷ s) = pieces s

pub text-size : (es : List Entry) → length (text_of es) ≤ size_of es
unfolding text_of size_of pair
text-size [] = omega arith
text-size (entry false name value most b l ∷ es) = omega (arith, text-size es)
text-size (entry true name value most b l ∷ es) = simp length-append (omega (arith, l refl, text-size es))

-- ---- one pair is one piece, and fills its slot
piece_then : (xs : List ℕ) (es : List Entry) → find 38 xs ≡ length xs → pieces (xs ++ text_of es) ≡ xs ∷ behind (text_of es)
unfolding text_of behind pair
piece_then xs [] h = rw append-nil (split-last 38 xs (omega arith))
piece_then xs (entry false name value most b l ∷ es) h = piece_then xs es h
piece_then xs (entry true name value most b l ∷ es) h = split-append 38 xs _ h

module _ (name value : List ℕ) (plain : every is_plain name ≡ true) (bytes : every is_byte value ≡ true) where
  piece-whole : find 38 (name ++ (61 ∷ coded value)) ≡ length (name ++ (61 ∷ coded value))
  piece-whole =
      let v : find 38 (coded value) ≡ length (coded value) = coded-find 38 value coded-marks.0 (λ e. omega arith) bytes in
      let w : find 38 (61 ∷ coded value) ≡ length (61 ∷ coded value) = find-other 38 61 (coded value) (λ e. omega arith) ∙ ap suc v in
      find-both 38 name (61 ∷ coded value) (find_absent is_plain 38 name coded-marks.0 plain) w

  add-pair : (before after : List Slot) → name_index name ≡ Some (length before)
      → add_piece (before ++ (Absent ∷ after)) (name ++ (61 ∷ coded value)) ≡ Values (before ++ (Holds (coded value) ∷ after))
  add-pair before after n =
      let f : find 61 (name ++ (61 ∷ coded value)) ≡ length name = find-seam 61 name (coded value) (find_absent is_plain 61 name coded-marks.1 plain) in
      let size : length (name ++ (61 ∷ coded value)) ≡ length name + suc (length (coded value)) = length-append name (61 ∷ coded value) in
      let l : length name < length (name ++ (61 ∷ coded value)) = omega arith in
      let j : suc (length name) ≡ length name + 1 = omega arith in
      let d : drop (suc (length name)) (name ++ (61 ∷ coded value)) ≡ coded value = rw j (drop-append-add name (61 ∷ coded value) 1) in
      add-some (before ++ (Absent ∷ after)) (name ++ (61 ∷ coded value)) (λ e. omega arith)
      ∙ simp (f, lt-ltb _ _ l, d, take-append_seam, coded-well value bytes, n, get_or-append_seam, set-append_seam)

gather-entry : (used : Bool) (name value : List ℕ) (es : List Entry) (before after : List Slot) → (used ≡ true → every is_byte value ≡ true)
    → every is_plain name ≡ true → name_index name ≡ Some (length before)
    → gather_from (before ++ (Absent ∷ after)) (behind (pair_if used name value ++ text_of es))
    ≡ gather_from (before ++ (cond used (Holds (coded value)) Absent ∷ after)) (behind (text_of es))
unfolding gather_from behind pair
gather-entry false name value es before after b p n = refl
gather-entry true name value es before after b p n =
    rw (piece_then (name ++ (61 ∷ coded value)) es (piece-whole name value p (b refl)), add-pair name value p (b refl) before after n)

-- pairs in the order of their slots fill them one after the other
gather-entries : (before : List Slot) (k : ℕ) (es : List Entry) → k ≡ length before → named k es ≡ true
    → gather_from (before ++ replicate (length es) Absent) (behind (text_of es)) ≡ Values (before ++ slots_for es)
unfolding gather_from behind text_of slots_for named
gather-entries before k [] q h = refl
gather-entries before k (entry used name value most b l ∷ es) q h =
    let s : Slot = cond used (Holds (coded value)) Absent in
    let t = both (is_at (name_index name) k && every is_plain name) (named (suc k) es) h in
    let u = both (is_at (name_index name) k) (every is_plain name) t.0 in
    let n : name_index name ≡ Some (length before) = at-place (name_index name) k u.0 ∙ ap Some q in
    let i : suc k ≡ length (before ++ (s ∷ [])) = rw length-append (omega arith) in
    gather-entry used name value es before (replicate (length es) Absent) b u.1 n
    ∙ simp append_snoc at (gather-entries (before ++ (s ∷ [])) (suc k) es i t.1)

-- a text of seven pairs, but for its first &
pub gather-all : (es : List Entry) (s : List ℕ) → length es ≡ 7 → named 0 es ≡ true → text_of es ≡ 38 ∷ s → gathered s ≡ Values (slots_for es)
unfolding gathered behind
gather-all es s l n e = rw (l, e) at (gather-entries [] 0 es refl n)

-- ---- a written field is read back: f says how its reader answers
pub field-again : {A B : Type 0} (f : A → B) (x fixed : A) (absent : B) (read : List ℕ → B) (e : Entry)
    → (entry_used e ≡ true → read (entry_value e) ≡ f x)
    → field_of (entry_used e) (f fixed) absent read (entry_slot e) ≡ f (cond (entry_used e) x fixed)
unfolding field_of held
field-again f x fixed absent read (entry true name value most b l) r = rw (decode-coded value (b refl)) (r refl)
field-again f x fixed absent read (entry false name value most b l) r = refl

-- ---- a value of plain bytes
pub plain_byte : (b : ℕ) → is_plain b ≡ true → is_byte b ≡ true
unfolding is_plain
plain_byte b h = go (ltb b 256) refl
  where
    go : (t : Bool) → ltb b 256 ≡ t → ltb b 256 ≡ true
    go true e = e
    go false e =
        let l : 256 ≤ b = ltb-false b 256 e in
        let n : is_plain b ≡ false = simp (sym (above 65 90 b 256 l refl), sym (above 97 122 b 256 l refl), sym (above 48 58 b 256 l refl), sym (above 45 46 b 256 l refl)) in
        absurd (tests-differ (is_plain b) (is_plain b) h n refl)

-- it stands as it is
abbrev pub plain_entry : (used : Bool) (name value : List ℕ) (most : ℕ)
    → (used ≡ true → every is_plain value ≡ true) → (used ≡ true → length value ≤ most) → Entry
plain_entry used name value most p l =
    entry used name value most (λ e. every-weaker is_plain is_byte value plain_byte (p e)) (λ e. rw (coded-plain value (p e)) (l e))
