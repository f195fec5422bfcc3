-- Document 01, row 68 of "What a fault gives": how a table or a book is lent.
use Rattle.std.specs.Prelude.{ℕ, ◌≤◌, ◌≡◌, Bool, ◌&&◌, eqb, leb}

-- three rows of 1 to 4,096 places and of one length, and no more used than lent
unfoldable pub lent_well : ℕ → ℕ → ℕ → ℕ → Bool
lent_well used n m k = leb 1 n && (leb n 4096 && (eqb m n && (eqb k n && leb used n)))

-- the same as facts
pub record Lent (used n m k : ℕ) : Type 0 where
  pub some : 1 ≤ n
  pub most : n ≤ 4096
  pub second : m ≡ n
  pub third : k ≡ n
  pub room : used ≤ n
