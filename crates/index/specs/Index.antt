-- Places by slots: the places whose keys fall into one slot stand in a chain, rising. Cited by inner contracts only: it needs no belief.
use Rattle.std.specs.Prelude.{◌≡◌, List, ℕ, ◌+◌, ◌-◌, ◌*◌, ◌/◌, ◌%◌, ◌<◌, ◌≤◌, length, get_or}

-- the slot of a key: its halves added and spread by the golden ratio, thirteen bits of the middle
unfoldable pub slot_of : ℕ → ℕ
slot_of k = (k % 4294967296 + k / 4294967296) * 1640531527 / 524288 % 8192

-- `at` leads to the first of the places i .. n - 1 that has slot s: it is that place and one, or 0 where there is none
pub record Link (key : ℕ → ℕ) (s i n at : ℕ) : Type 0 where
  pub behind : 0 < at → i < at
  pub within : at ≤ n
  pub slot : 0 < at → slot_of (key (at - 1)) ≡ s
  pub least : (j : ℕ) → i ≤ j → j < n → slot_of (key j) ≡ s → (0 < at) × (at ≤ j + 1)

-- the chains of the places i .. n - 1: a head for each slot, and a link behind each place
pub record Chained (key : ℕ → ℕ) (i n : ℕ) (heads next : List ℕ) : Type 0 where
  pub slots : length heads ≡ 8192
  pub room : n ≤ length next
  pub head : (s : ℕ) → s < 8192 → Link key s i n (get_or heads s 0)
  pub tail : (j : ℕ) → i ≤ j → j < n → Link key (slot_of (key j)) (j + 1) n (get_or next j 0)
