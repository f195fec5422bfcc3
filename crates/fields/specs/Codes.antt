-- Document 01, "Fields": receipts (payment numbers), types and reasons. Each is a digit field with a range, and has its number where it is malformed.
use Rattle.std.specs.Prelude.{ℕ, List, Bool, Option}
use Rattle.texts.specs.Digits.{range_read, within, fault_of}

abbrev pub is_receipt : ℕ → Bool
is_receipt = within 1 999999999999999

abbrev pub receipt_read : List ℕ → Option ℕ
receipt_read s = range_read 15 1 999999999999999 s

abbrev pub receipt_fault : Option ℕ → ℕ
receipt_fault d = fault_of 4 d

-- an account's type; `type` is a keyword of the code, which says `kind`
abbrev pub is_kind : ℕ → Bool
is_kind = within 0 999

abbrev pub kind_read : List ℕ → Option ℕ
kind_read s = range_read 3 0 999 s

abbrev pub kind_fault : Option ℕ → ℕ
kind_fault d = fault_of 2 d

-- the reason of a cancel, `mes`
abbrev pub is_reason : ℕ → Bool
is_reason = within 1 5

abbrev pub reason_read : List ℕ → Option ℕ
reason_read s = range_read 1 1 5 s

abbrev pub reason_fault : Option ℕ → ℕ
reason_fault d = fault_of 32 d
