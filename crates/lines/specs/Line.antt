-- Document 01, "Registry": one line of a registry.
use Rattle.std.specs.Prelude.{ℕ, suc, List, [], ◌∷◌, ◌++◌, Bool, false, cond, ◌&&◌, take, drop, Option, Some, None}
use Rattle.fields.specs.declared.number.Number.{Number}
use Rattle.days.specs.declared.calendar.Day.{Day}
use Rattle.days.specs.Calendar.{on_day}
use Rattle.texts.specs.Lists.{find}
use Rattle.texts.specs.Digits.{decimal}
use Rattle.fields.specs.Amount.{is_amount, amount_read, amount_bytes}
use Rattle.fields.specs.Codes.{is_receipt, receipt_read, is_kind, kind_read}
use Rattle.fields.specs.Number.{is_number, number_text, number_of, number_read, empty_number}
use Rattle.dates.specs.Date.{date_day, is_written, date_read, empty_date}
use Rattle.lines.specs.declared.line.Line.{Line}

-- a field ends before the first 09, and the next begins behind it
abbrev pub field : List ℕ → List ℕ
field s = take (find 9 s) s

abbrev pub after_field : List ℕ → List ℕ
after_field s = drop (suc (find 9 s)) s

-- all five fields are there and well formed
abbrev pub line_of : Option Number → Option ℕ → Option (List ℕ) → Option ℕ → Option ℕ → Option Line
line_of None k d a r = None
line_of (Some n) None d a r = None
line_of (Some n) (Some k) None a r = None
line_of (Some n) (Some k) (Some d) None r = None
line_of (Some n) (Some k) (Some d) (Some a) None = None
line_of (Some n) (Some k) (Some d) (Some a) (Some r) = Some (record { number = n; kind = k; date = d; amount = a; receipt = r })

-- number, type, date, amount, receipt; an absent field is empty, and no empty field is well formed
unfoldable pub line_read : List ℕ → Option Line
line_read s =
    let s₁ = after_field s in
    let s₂ = after_field s₁ in
    let s₃ = after_field s₂ in
    line_of (number_read (field s)) (kind_read (field s₁)) (date_read (field s₂)) (amount_read (field s₃)) (receipt_read (after_field s₃))

-- it is a line, and its date is on the day
abbrev pub is_read_on : Day → Option Line → Bool
is_read_on day None = false
is_read_on day (Some x) = on_day day (date_day x.date)

-- the line, or zeros where there is none
abbrev pub line_or_zeros : Option Line → Line
line_or_zeros None = record { number = empty_number; kind = 0; date = empty_date; amount = 0; receipt = 0 }
line_or_zeros (Some x) = x

-- ---- writing one
unfoldable pub is_line : Line → Bool
is_line x = is_number x.number && (is_kind x.kind && (is_written x.date && (is_amount x.amount && is_receipt x.receipt)))

unfoldable pub line_body : Line → List ℕ
line_body x =
    number_text x.number
    ++ ((9 ∷ decimal x.kind) ++ ((9 ∷ x.date) ++ ((9 ∷ amount_bytes x.amount) ++ (9 ∷ decimal x.receipt))))

-- the line and its end, 0D 0A
unfoldable pub line_bytes : Line → List ℕ
line_bytes x = line_body x ++ (13 ∷ (10 ∷ []))

-- malformed fields give no text
unfoldable pub line_text : Line → List ℕ
line_text x = cond (is_line x) (line_bytes x) []

-- what a reader makes of it: the number has zeros past its length
unfoldable pub line_again : Line → Line
line_again x =
    record { number = number_of (number_text x.number); kind = x.kind; date = x.date; amount = x.amount; receipt = x.receipt }
