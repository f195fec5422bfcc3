-- How the code makes the text of an answer: piece by piece, in a buffer that holds it up to the cursor. Cited by inner contracts only: it needs no belief.
use Rattle.std.specs.Prelude.{ℕ, ◌≡◌, List, [], ◌++◌, Bool, cond, length, take}
use Rattle.texts.specs.Digits.{decimal}
use Rattle.answers.specs.Answer.{xml_line, response_tag, code_tag, authcode_tag, date_tag, message_tag, opening, closing, element, element_if, has_message, message_of}

-- the buffer d, with a text that ends at `at`, is now e, and its text has xs added as far as there is room, to r
pub record Grown (d : List ℕ) (at : ℕ) (xs : List ℕ) (r : ℕ) (e : List ℕ) : Type 0 where
  pub text : take r e ≡ take (length d) (take at d ++ xs)
  pub size : length e ≡ length d

-- an element from its tags
abbrev pub enclosed : Bool → List ℕ → List ℕ → List ℕ → List ℕ
enclosed used opener content closer = cond used (opener ++ (content ++ closer)) []

-- the pieces of an answer: its start to the code, and to the authcode; the date; the message, and the end
unfoldable pub code_text : ℕ → List ℕ
code_text code = xml_line ++ (opening response_tag ++ element code_tag (decimal code))

unfoldable pub start_text : ℕ → Bool → ℕ → List ℕ
start_text code used n = code_text code ++ element_if used authcode_tag (decimal n)

unfoldable pub date_text : Bool → List ℕ → List ℕ
date_text used d = element_if used date_tag d

unfoldable pub message_text : ℕ → List ℕ
message_text code = element_if (has_message code) message_tag (message_of code)

unfoldable pub end_text : ℕ → List ℕ
end_text code = message_text code ++ closing response_tag
