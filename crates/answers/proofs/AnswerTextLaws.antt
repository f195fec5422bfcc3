-- Laws of the text of an answer, as it grows piece by piece.
use Prim.Native.Nat.{ℕ, zero, suc, ◌+◌, ◌-◌, ◌≤◌, ◌<◌}
use native.Mathlib.Omega.{arith}
use native.Mathlib.Nat.{zero-add}
use mathlib.Core.Path.{◌≡◌, refl, sym, ap, ◌∙◌}
use mathlib.Core.List.{List, [], ◌∷◌, ◌++◌, append-nil, append_assoc}
use mathlib.Core.Bool.{Bool, true, false, cond}
use lib.Dec.{eqb}
use lib.ListN.{length, take, drop, length-append, length-take, length-drop}
use lib.Seq.{take_all, take_at, length-take-le, take-append_seam, take-append-add}
use Rattle.texts.specs.Lists.{over, written, cursor_after}
use Rattle.texts.specs.Digits.{decimal}
use Rattle.texts.proofs.OutLaws.{cursor-moves, written_over}
use Rattle.texts.proofs.DecimalLaws.{fixed-length}
use Rattle.texts.proofs.Tests.{cond-elim}
use Rattle.payments.specs.declared.Answer.{Answer}
use Rattle.answers.specs.Answer.{xml_line, response_tag, code_tag, authcode_tag, date_tag, message_tag, opening, closing, element, element_if, has_message, message_of, answer_bytes}
use Rattle.answers.specs.AnswerText.{Grown, enclosed, code_text, start_text, date_text, message_text, end_text}

-- ---- one piece
take-seam : (n : ℕ) (l m : List ℕ) → take n (take n l ++ m) ≡ take n (l ++ m)
take-seam zero l m = refl
take-seam (suc n) [] m = refl
take-seam (suc n) (x ∷ l) m = ap (λ (t : List ℕ). x ∷ t) (take-seam n l m)

module _ (d : List ℕ) (at : ℕ) where
  pub grown-past : (xs e : List ℕ) → e ≡ d → length d < at → Grown d at xs at e
  grown-past xs e q h =
      let all : take at d ≡ d = take_all at d (omega arith) in
      record { text = rw (q, all) (sym (take-append_seam d xs)); size = rw q }

  pub grown-none : (e : List ℕ) → e ≡ d → Grown d at [] at e
  grown-none e q =
      let short : length (take at d) ≤ length d = rw length-take (omega arith) in
      record { text = rw (q, append-nil) (sym (take_all (length d) (take at d) short)); size = rw q }

  module _ (xs ys : List ℕ) (r : ℕ) (e : List ℕ) where
    pub grown-put : at ≤ length d → ys ≡ take (length d - at) xs → r ≡ cursor_after d at ys → e ≡ written d at ys → Grown d at xs r e
    grown-put low ey er ee =
        let cut : length ys ≡ length (take (length d - at) xs) = ap length ey in
        let short = simp length-take at cut in
        let fit : at + length ys ≤ length d = omega arith in
        let to : r ≡ at + length ys = er ∙ sym (cursor-moves d at ys fit) in
        let now : e ≡ over d at ys = ee ∙ sym (written_over d at ys fit) in
        let before : length (take at d) ≡ at = length-take-le at d low in
        let head : length (take at d ++ ys) ≡ r = rw (length-append, before, to) in
        let all : length d ≡ length (take at d) + (length d - at) = omega arith in
        record {
          text = rw (now, ← append_assoc (take at d) ys (drop (at + length ys) d)) (take_at (take at d ++ ys) _ r head ∙ rw (ey, ← take-append-add (take at d) xs (length d - at), ← all));
          size = rw now (simp (length-append, before, length-drop) (omega arith));
        }

  -- two pieces are one of both
  pub grown-then : (xs ys : List ℕ) (r : ℕ) (e : List ℕ) (q : ℕ) (f : List ℕ) → Grown d at xs r e → Grown e r ys q f → Grown d at (xs ++ ys) q f
  grown-then xs ys r e q f g h =
      record {
        text = h.text ∙ rw (g.text, g.size) (take-seam (length d) (take at d ++ xs) ys ∙ rw append_assoc);
        size = h.size ∙ g.size;
      }

  -- a piece that a test picks
  module _ (xs ys : List ℕ) (r : ℕ) (e : List ℕ) where
    pub grown-if : (used : Bool) → used ≡ true → Grown d at xs r e → Grown d at (cond used xs ys) r e
    grown-if used h g = rw h g

    pub grown-if-not : (used : Bool) → used ≡ false → Grown d at ys r e → Grown d at (cond used xs ys) r e
    grown-if-not used h g = rw h g

  -- the message of a code
  module _ (code : ℕ) where
    pub message_told : (words : List ℕ) (r : ℕ) (e : List ℕ) → has_message code ≡ true → words ≡ message_of code
        → Grown d at (enclosed true (opening message_tag) words (closing message_tag)) r e → Grown d at (message_text code) r e
    unfolding message_text element
    message_told words r e h q g = rw (h, ← q) g

    pub message_none : (e : List ℕ) → has_message code ≡ false → e ≡ d → Grown d at (message_text code) at e
    unfolding message_text
    message_none e h q = rw h (grown-none e q)

-- ---- what a local text holds
pub grown-whole : (z xs : List ℕ) (r : ℕ) (e : List ℕ) → Grown z 0 xs r e → length xs ≤ length z → take r e ≡ xs
grown-whole z xs r e g l = g.text ∙ take_all (length z) xs l

decimal-size : (n : ℕ) → length (decimal n) ≤ 20
unfolding decimal
decimal-size n = rw (length-drop, fixed-length 20 n) (omega arith)

-- a property of the messages is one of each code's
pub message-elim : (P : List ℕ → Type 0) → P (message_of 30) → P (message_of 31) → P (message_of 32) → P [] → (code : ℕ) → P (message_of code)
unfolding message_of
message-elim P p q r s code = cond-elim P (eqb code 30) _ _ (λ e. p) (λ e. cond-elim P (eqb code 31) _ _ (λ f. q) (λ f. cond-elim P (eqb code 32) _ _ (λ g. r) (λ g. s)))

pub message-size : (code : ℕ) → length (message_of code) ≤ 11
unfolding message_of
message-size = message-elim (λ (m : List ℕ). length m ≤ 11) (omega arith) (omega arith) (omega arith) (omega arith)

module _ (d : List ℕ) (at : ℕ) (used : Bool) (opener c closer : List ℕ) (r : ℕ) (e : List ℕ) (g : Grown d at (enclosed used opener c closer) r e) where
  pub grown-number : (z : List ℕ) (k n : ℕ) (a : List ℕ) → c ≡ take k a → k ≡ cursor_after z 0 (decimal n) → a ≡ written z 0 (decimal n) → length z ≡ 20
      → Grown d at (enclosed used opener (decimal n) closer) r e
  grown-number z k n a ec ek ea l =
      let fit : 0 + length (decimal n) ≤ length z = omega (arith, decimal-size n) in
      let same : take k a ≡ decimal n = rw (ek, ea, ← cursor-moves z 0 (decimal n) fit, ← written_over z 0 (decimal n) fit) (rw zero-add (take-append_seam (decimal n) _)) in
      rw (← same, ← ec) g

-- ---- the whole
pub code-grown : (code : ℕ) (d : List ℕ) (at r₁ : ℕ) (d₁ : List ℕ) (r : ℕ) (e : List ℕ)
    → Grown d₁ r₁ (enclosed true (opening code_tag) (decimal code) (closing code_tag)) r e
    → Grown d at (xml_line ++ opening response_tag) r₁ d₁
    → Grown d at (code_text code) r e
unfolding code_text element
code-grown code d at r₁ d₁ r e g h = grown-then _ _ _ _ _ _ _ _ h g

module _ (x : Answer) where
  pub answer-grown : (d : List ℕ) (at r₁ : ℕ) (d₁ : List ℕ) (r₂ : ℕ) (d₂ : List ℕ) (r : ℕ) (e : List ℕ)
      → Grown d₂ r₂ (end_text x.code) r e
      → Grown d₁ r₁ (date_text x.dated x.date) r₂ d₂
      → Grown d at (start_text x.code x.authorized x.authcode) r₁ d₁
      → Grown d at (answer_bytes x) r e
  unfolding answer_bytes code_text start_text date_text message_text end_text element
  answer-grown d at r₁ d₁ r₂ d₂ r e g₃ g₂ g₁ =
      rw (← append_assoc (decimal x.code ++ closing code_tag) (element_if x.authorized authcode_tag (decimal x.authcode)) _) (grown-then _ _ _ _ _ _ _ _ g₁ (grown-then _ _ _ _ _ _ _ _ g₂ g₃))

  -- at most 256 bytes, whatever the numbers
  element-size : (used : Bool) (name content : List ℕ) → length (element_if used name content) ≤ length name + length name + length content + 5
  unfolding element
  element-size used name content =
      cond-elim (λ (t : List ℕ). length t ≤ length name + length name + length content + 5) used _ _
      (λ e. simp length-append (omega arith))
      (λ e. omega arith)

  pub answer-length : length x.date ≡ 19 → length (answer_bytes x) ≤ 256
  unfolding answer_bytes
  answer-length l =
      simp length-append
      (omega (
        arith,
        decimal-size x.code,
        decimal-size x.authcode,
        message-size x.code,
        element-size true code_tag (decimal x.code),
        element-size x.authorized authcode_tag (decimal x.authcode),
        element-size x.dated date_tag x.date,
        element-size (has_message x.code) message_tag (message_of x.code),
      ))

  pub answer-length-512 : length x.date ≡ 19 → length (answer_bytes x) ≤ 512
  answer-length-512 l = omega (arith, answer-length l)

  -- what write_answer hands to put_bytes
  module _ (l : length x.date ≡ 19) (z : List ℕ) (n : ℕ) (t c : List ℕ) (ec : c ≡ take n t) (g : Grown z 0 (answer_bytes x) n t) (lz : length z ≡ 256) (d : List ℕ) (at : ℕ) where
    text-is : c ≡ answer_bytes x
    text-is = ec ∙ grown-whole z (answer_bytes x) n t g (omega (arith, answer-length l))

    pub answer-cursor : (r : ℕ) → r ≡ cursor_after d at c → r ≡ cursor_after d at (answer_bytes x)
    answer-cursor r q = rw (← text-is) q

    pub answer-written : (e : List ℕ) → e ≡ written d at c → e ≡ written d at (answer_bytes x)
    answer-written e q = rw (← text-is) q

pub ruleset add_answer_laws = (answer-grown)

pub ruleset add_bytes_laws = (grown-past, grown-put)

pub ruleset add_element_laws = (grown-none, grown-then, grown-if, grown-if-not)

pub ruleset add_end_laws = (grown-then)

pub ruleset add_number_laws = (grown-number)

pub ruleset add_code_laws = (code-grown)

pub ruleset add_start_laws = (grown-then)
