-- Document 01, "Gate": the bytes of an answer.
use Rattle.std.specs.Prelude.{ℕ, List, [], ◌∷◌, ◌++◌, Bool, cond, eqb}
use Rattle.texts.specs.Digits.{within, decimal}
use Rattle.payments.specs.declared.Answer.{Answer}

-- the first line, which gives the encoding
abbrev pub xml_line : List ℕ
xml_line =
    60 ∷ 63 ∷ 120 ∷ 109 ∷ 108 ∷ 32 ∷ 118 ∷ 101 ∷ 114 ∷ 115 ∷ 105 ∷ 111 ∷ 110 ∷ 61 ∷ 34 ∷ 49 ∷ 46 ∷ 48 ∷ 34 ∷ 32 ∷ 101 ∷ 110 ∷ 99 ∷ 111 ∷ 100 ∷ 105 ∷ 110 ∷ 103 ∷ 61 ∷ 34 ∷ 119 ∷ 105 ∷ 110 ∷ 100 ∷ 111 ∷ 119 ∷ 115 ∷ 45 ∷ 49 ∷ 50 ∷ 53 ∷ 49 ∷ 34 ∷ 63 ∷ 62 ∷ []

-- `response`, `code`, `authcode`, `date`, `message`
abbrev pub response_tag : List ℕ
response_tag = 114 ∷ 101 ∷ 115 ∷ 112 ∷ 111 ∷ 110 ∷ 115 ∷ 101 ∷ []

abbrev pub code_tag : List ℕ
code_tag = 99 ∷ 111 ∷ 100 ∷ 101 ∷ []

abbrev pub authcode_tag : List ℕ
authcode_tag = 97 ∷ 117 ∷ 116 ∷ 104 ∷ 99 ∷ 111 ∷ 100 ∷ 101 ∷ []

abbrev pub date_tag : List ℕ
date_tag = 100 ∷ 97 ∷ 116 ∷ 101 ∷ []

abbrev pub message_tag : List ℕ
message_tag = 109 ∷ 101 ∷ 115 ∷ 115 ∷ 97 ∷ 103 ∷ 101 ∷ []

-- <name> and </name>
abbrev pub opening : List ℕ → List ℕ
opening name = 60 ∷ (name ++ (62 ∷ []))

abbrev pub closing : List ℕ → List ℕ
closing name = 60 ∷ (47 ∷ (name ++ (62 ∷ [])))

unfoldable pub element : List ℕ → List ℕ → List ℕ
element name content = opening name ++ (content ++ closing name)

abbrev pub element_if : Bool → List ℕ → List ℕ → List ℕ
element_if used name content = cond used (element name content) []

-- the codes 30, 31 and 32 are told in words too: `table full`, `bad request`, `bad reason`
abbrev pub has_message : ℕ → Bool
has_message code = within 30 32 code

unfoldable pub message_of : ℕ → List ℕ
message_of code =
    cond (eqb code 30) (116 ∷ 97 ∷ 98 ∷ 108 ∷ 101 ∷ 32 ∷ 102 ∷ 117 ∷ 108 ∷ 108 ∷ [])
    (cond (eqb code 31) (98 ∷ 97 ∷ 100 ∷ 32 ∷ 114 ∷ 101 ∷ 113 ∷ 117 ∷ 101 ∷ 115 ∷ 116 ∷ [])
    (cond (eqb code 32) (98 ∷ 97 ∷ 100 ∷ 32 ∷ 114 ∷ 101 ∷ 97 ∷ 115 ∷ 111 ∷ 110 ∷ []) []))

-- no spacing; code, authcode, date, message
unfoldable pub answer_bytes : Answer → List ℕ
answer_bytes x =
    xml_line
    ++ (opening response_tag
    ++ (element code_tag (decimal x.code)
    ++ (element_if x.authorized authcode_tag (decimal x.authcode)
    ++ (element_if x.dated date_tag x.date
    ++ (element_if (has_message x.code) message_tag (message_of x.code) ++ closing response_tag)))))
