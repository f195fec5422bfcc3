-- What a line of vectors gives: the values that its fields stand for, in range or not.
use Rattle.std.specs.Prelude.{ℕ, List, pos, length, take, replicate, Option, Some, None}
use Rattle.fields.specs.declared.number.Number.{Number}
use Rattle.texts.specs.Lists.{find, written}
use Rattle.texts.specs.Digits.{digits_read}
use Rattle.days.specs.declared.calendar.Day.{Day}
use Rattle.days.specs.Calendar.{day_read}
use Rattle.table.specs.declared.Account.{Account}
use Rattle.table.specs.declared.Gate.{Gate}

-- what stands before the first space
abbrev pub field_of : List ℕ → List ℕ
field_of s = take (find 32 s) s

-- the value of up to twenty digits, or 0
abbrev pub value_or0 : Option ℕ → ℕ
value_or0 None = 0
value_or0 (Some v) = v

unfoldable pub value_given : List ℕ → ℕ
value_given s = value_or0 (digits_read 20 (field_of s))

-- a day, or zeros
abbrev pub day_or0 : Option Day → Day
day_or0 None = record { year = 0; month = 0; day = 0 }
day_or0 (Some d) = d

unfoldable pub day_given : List ℕ → Day
day_given s = day_or0 (day_read (field_of s))

-- the first n bytes, and zeros up to n
abbrev pub zeroed : ℕ → List ℕ → List ℕ
zeroed n s = written (replicate n 0) 0 (take n s)

unfoldable pub number_given : List ℕ → Number
number_given s = record { bytes = zeroed 30 (field_of s); len = length (field_of s) }

unfoldable pub date_given : List ℕ → List ℕ
date_given s = zeroed 19 (field_of s)

-- a gate without accounts
abbrev pub no_account : Account
no_account = record { number = record { bytes = replicate 30 0; len = 0 }; kind = 0; balance = pos 0 }

unfoldable pub no_accounts : Day → Gate
no_accounts closed = record { accounts = replicate 256 no_account; count = 0; closed = closed; used = 0 }
