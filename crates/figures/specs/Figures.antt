-- Document 01, the session program: what a line prints.
use Rattle.std.specs.Prelude.{ℕ, suc, List, [], ◌∷◌, ◌++◌, cond, eqb, ℤ, pos, negsuc, ◌+ℤ◌}
use Rattle.texts.specs.Digits.{decimal}
use Rattle.table.specs.declared.Account.{Account}
use Rattle.table.specs.declared.Gate.{Gate}
use Rattle.table.specs.Accounts.{accounts_of}

-- the code, the records used and the sum of balances
unfoldable pub sum_balances : List Account → ℤ
sum_balances [] = pos 0
sum_balances (a ∷ l) = a.balance +ℤ sum_balances l

unfoldable pub signed_text : ℤ → List ℕ
signed_text (pos n) = decimal n
signed_text (negsuc n) = 45 ∷ decimal (suc n)

unfoldable pub figures : ℕ → Gate → List ℕ
figures code g = decimal code ++ ((32 ∷ decimal g.used) ++ ((32 ∷ signed_text (sum_balances (accounts_of g))) ++ (10 ∷ [])))

-- or 99 alone
unfoldable pub printed : ℕ → Gate → List ℕ
printed code g = cond (eqb code 99) (57 ∷ (57 ∷ (10 ∷ []))) (figures code g)
