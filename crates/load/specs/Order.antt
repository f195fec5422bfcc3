-- The load program's input: START DATE REASON STEPS on its first line, then NUMBER TYPE, a line for each account.
use Rattle.std.specs.Prelude.{ℕ, List, cond, eqb, Option, Some, None}
use Rattle.texts.specs.Digits.{digits_read}
use Rattle.fields.specs.declared.number.Number.{Number}
use Rattle.fields.specs.Codes.{kind_read, reason_read}
use Rattle.fields.specs.Number.{number_read}
use Rattle.dates.specs.Date.{date_read}
use Rattle.line_fields.specs.LineFields.{field_count, field_at}
use Rattle.load.specs.declared.order.AccountLine.{AccountLine}
use Rattle.load.specs.declared.order.Order.{Order}

-- what is asked for, if each of its fields is well formed
abbrev pub order_of : Option ℕ → Option (List ℕ) → Option ℕ → Option ℕ → Option Order
order_of (Some start) (Some date) (Some reason) (Some steps) = Some (record { start = start; date = date; reason = reason; steps = steps })
order_of _ _ _ _ = None

-- start and steps are 64-bit numbers
unfoldable pub order_read : List ℕ → Option Order
order_read l =
    cond (eqb (field_count l) 4)
    (order_of (digits_read 20 (field_at 0 l)) (date_read (field_at 1 l)) (reason_read (field_at 2 l)) (digits_read 20 (field_at 3 l)))
    None

abbrev pub account_of : Option Number → Option ℕ → Option AccountLine
account_of (Some number) (Some kind) = Some (record { number = number; kind = kind })
account_of _ _ = None

unfoldable pub account_read : List ℕ → Option AccountLine
account_read l = cond (eqb (field_count l) 2) (account_of (number_read (field_at 0 l)) (kind_read (field_at 1 l))) None
