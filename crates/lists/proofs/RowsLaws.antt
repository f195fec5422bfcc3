-- Rows that are handed on twice.
use mathlib.Core.Path.{◌∙◌}
use Rattle.lists.specs.declared.rows.Rows.{Rows}
use Rattle.lists.specs.Rows.{SameLoan}

pub loan-on : {N D : Type 0} {a b c : Rows N D} → SameLoan a b → SameLoan b c → SameLoan a c
loan-on p q = record { nums = q.nums ∙ p.nums; numbers = q.numbers ∙ p.numbers; dates = q.dates ∙ p.dates }
