-- How the code holds what is gathered: as the ends of each value in the text. Cited by inner contracts only: it needs no belief.
use Rattle.std.specs.Prelude.{ℕ, ◌-◌, List, [], ◌∷◌, ◌≡◌, Bool, not, cond, length, get_or, set, take, drop, eqb, ◌<◌, ⊤}
use Rattle.parameters.specs.declared.slots.Piece.{Piece}
use Rattle.parameters.specs.declared.slots.Piece.TheVariants.{Value, Nothing, Malformed}
use Rattle.coding.specs.Url.{decoded_within}
use Rattle.parameters.specs.Slots.{Slot, Absent, Holds, Gathered, Broken, Values, add_piece}

-- a value by its places in the text; an end of 0 is an absent name
unfoldable pub slot_at : List ℕ → ℕ → ℕ → Slot
slot_at s from to = cond (eqb to 0) Absent (Holds (take (to - from) (drop from s)))

abbrev pub slot_of : List ℕ → List ℕ → Slot
slot_of s held = slot_at s (get_or held 0 0) (get_or held 1 0)

unfoldable pub slots_in : List ℕ → List (List ℕ) → List Slot
slots_in s [] = []
slots_in s (h ∷ t) = slot_of s h ∷ slots_in s t

unfoldable pub scanned : List ℕ → Bool → List (List ℕ) → Gathered
scanned s ok t = cond ok (Values (slots_in s t)) Broken

abbrev pub end_at : List (List ℕ) → ℕ → ℕ
end_at t k = get_or (get_or t k []) 1 0

abbrev pub is_given : List (List ℕ) → ℕ → Bool
is_given t k = not (eqb (end_at t k) 0)

-- a value from `from` to `to` stored under its name's place k
unfoldable pub placed : List ℕ → List (List ℕ) → ℕ → ℕ → ℕ → Gathered
placed s t k from to = cond (eqb (end_at t k) 0) (Values (slots_in s (set t k (from ∷ to ∷ [])))) Broken

-- a piece that ends at `end`, stored
unfoldable pub stored : List ℕ → List (List ℕ) → Piece → ℕ → Gathered
stored s t (Value k from) end = placed s t k from end
stored s t Nothing end = Values (slots_in s t)
stored s t Malformed end = Broken

-- the place of a value is one of the seven
abbrev pub IsKnown : Piece → Type 0
IsKnown (Value k from) = k < 7
IsKnown Nothing = ⊤
IsKnown Malformed = ⊤

-- stored into any slots, it is what the definition makes of the bytes from `at` to `end`
abbrev pub Adds : List ℕ → ℕ → ℕ → Piece → Type 0
Adds s at end p = (t : List (List ℕ)) → length t ≡ 7 → stored s t p end ≡ add_piece (slots_in s t) (take (end - at) (drop at s))

-- a value decoded within 96 bytes; a longer one decodes to more than 32 bytes, which no field has, and is held as empty, which no field is; nor is an absent one
abbrev pub clipped_text : Slot → List ℕ
clipped_text Absent = []
clipped_text (Holds v) = decoded_within 96 v
