-- Accounts by number and type, in rows. Cited by inner contracts only: it needs no belief.
use Rattle.std.specs.Prelude.{◌≡◌, List, [], ◌∷◌, ℕ, ◌+◌, ◌*◌, ◌%◌, ◌<◌, ◌≤◌, pos, length, get_or}
use Rattle.fields.specs.declared.number.Number.{Number}
use Rattle.fields.specs.Number.{number_text}
use Rattle.lists.specs.Lists.{tab}
use Rattle.table.specs.declared.Account.{Account}
use Rattle.table.specs.declared.Gate.{Gate}
use Rattle.table.specs.Accounts.{no_account, with_balance}

-- bytes mixed into h, one after the other
unfoldable pub mixed : ℕ → List ℕ → ℕ
mixed h [] = h
mixed h (b ∷ s) = mixed ((h * 33 + b) % 4294967296) s

unfoldable pub digest_of : Number → ℕ → ℕ
digest_of n k = mixed (k % 4294967296) (number_text n)

-- the account of the rows at i: the bytes of its number, and its length, its type and the digest of both
abbrev pub holder_at : List (List ℕ) → List (List ℕ) → ℕ → Account
holder_at names keys i =
    record { number = record { bytes = get_or names i []; len = get_or (get_or keys i []) 0 0 }; kind = get_or (get_or keys i []) 1 0; balance = pos 0 }

unfoldable pub holders_of : List (List ℕ) → List (List ℕ) → List Account
holders_of names keys = tab (length names) (holder_at names keys)

-- the gate's account at i without its balance
abbrev pub bare_at : Gate → ℕ → Account
bare_at g i = with_balance (get_or g.accounts i no_account) (pos 0)

-- the first n rows have the digests of their accounts
pub record Digests (names keys : List (List ℕ)) (n : ℕ) : Type 0 where
  pub each : (i : ℕ) → i < n → get_or (get_or keys i []) 2 0 ≡ digest_of (holder_at names keys i).number (holder_at names keys i).kind

-- rows of one length, with their digests
pub record Keyed (names keys : List (List ℕ)) : Type 0 where
  pub same : length keys ≡ length names
  pub digests : Digests names keys (length names)

-- the rows hold the gate's first n accounts
pub record Filled (names keys : List (List ℕ)) (g : Gate) (n : ℕ) : Type 0 where
  pub each : (i : ℕ) → i < n → holder_at names keys i ≡ bare_at g i

-- and all that are in use, no more
pub record Listed (names keys : List (List ℕ)) (g : Gate) : Type 0 where
  pub named : length names ≡ g.count
  pub keyed : Keyed names keys
  pub room : g.count ≤ length g.accounts
  pub filled : Filled names keys g g.count
