-- What the functions that print a line's figures rest on. Cited by inner contracts only: it needs no belief.
use Rattle.std.specs.Prelude.{List, [], ◌∷◌, ◌++◌, ℕ, ℤ}
use Rattle.texts.specs.Digits.{decimal}
use Rattle.table.specs.declared.Gate.{Gate}
use Rattle.table.specs.declared.Head.{Head}
use Rattle.table.specs.Columns.{gate_of, columns_of}
use Rattle.table.specs.Accounts.{Funds}

-- balances that can be summed: each within twice the bound of row 68, so that a sum of 256 is far within 64 bits
abbrev pub Summable : Gate → Type 0
Summable g = Funds g 20000000000000

-- a gate of these balances; the names of its accounts are left out, for none is printed
abbrev pub nameless : Head → List ℤ → Gate
nameless h balances = gate_of h (columns_of [] [] balances)

-- the figures before the sum
abbrev pub counts_text : ℕ → ℕ → List ℕ
counts_text code used = (decimal code ++ (32 ∷ decimal used)) ++ (32 ∷ [])
