-- The states of an entry and their numbers.
use mathlib.Core.Path.{◌≡◌, refl}
use mathlib.Core.Bool.{Bool, true, false}
use Prim.Native.Nat.{ℕ, zero, suc}
use native.Mathlib.Omega.{arith}
use lib.Dec.{leb}
use borrow.Author.Tests.{leb-true}
use Rattle.texts.specs.Digits.{within}
use Rattle.texts.proofs.Tests.{and_right, no-claim}
use Rattle.book.specs.declared.State.{State}
use Rattle.book.specs.declared.State.TheVariants.{Asked, Credited, CancelAsked, Cancelled, Unposted}
use Rattle.book.specs.Entries.{state_number, state_of}

-- each reads the other back
pub state-again : (s : State) → state_of (state_number s) ≡ s
unfolding state_of state_number
state-again Asked = refl
state-again Credited = refl
state-again CancelAsked = refl
state-again Cancelled = refl
state-again Unposted = refl

pub number-again : (n : ℕ) → within 1 5 n ≡ true → state_number (state_of n) ≡ n
unfolding state_of state_number
number-again zero h = no-claim h
number-again (suc zero) h = refl
number-again (suc (suc zero)) h = refl
number-again (suc (suc (suc zero))) h = refl
number-again (suc (suc (suc (suc zero)))) h = refl
number-again (suc (suc (suc (suc (suc zero))))) h = refl
number-again (suc (suc (suc (suc (suc (suc n)))))) h =
    let m : ℕ = suc (suc (suc (suc (suc (suc n))))) in
    absurd (omega (arith, leb-true m 5 (and_right (leb 1 m) (leb m 5) h)))

-- each of the five states has its number in the rows
pub state-range : (s : State) → within 1 5 (state_number s) ≡ true
unfolding state_number
state-range Asked = refl
state-range Credited = refl
state-range CancelAsked = refl
state-range Cancelled = refl
state-range Unposted = refl

-- the states in which a payment waits for an answer
abbrev pub waits : State → Bool
waits Asked = true
waits Credited = false
waits CancelAsked = true
waits Cancelled = false
waits Unposted = false
