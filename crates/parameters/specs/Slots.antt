-- Document 01, "Requests": the pieces of the parameters, gathered by their names.
use Rattle.std.specs.Prelude.{ℕ, List, [], ◌∷◌, cond, ◌&&◌, get_or, set, replicate, Option, Some, None}
use Rattle.coding.specs.Url.{well_coded}
use Rattle.coding.specs.Params.{pieces, has_value, name_of, value_of}
use Rattle.parameters.specs.Names.{name_index}

-- the value of a known name, as sent
pub data Slot : Type 0 where
  Absent : Slot
  Holds : List ℕ → Slot

-- the values of the seven known names; Broken where the text meets row 31
pub data Gathered : Type 0 where
  Broken : Gathered
  Values : List Slot → Gathered

-- a known name twice is row 31
abbrev pub place : Slot → List Slot → ℕ → List ℕ → Gathered
place (Holds w) t k v = Broken
place Absent t k v = Values (set t k (Holds v))

-- of an unknown name it is ignored
abbrev pub place_by : Option ℕ → List Slot → List ℕ → Gathered
place_by None t v = Values t
place_by (Some k) t v = place (get_or t k Absent) t k v

-- one piece: an empty one is skipped, one without = or with a bad escape in its value is row 31, an unknown name is ignored
unfoldable pub add_piece : List Slot → List ℕ → Gathered
add_piece t [] = Values t
add_piece t (b ∷ p) =
    cond (has_value (b ∷ p) && well_coded (value_of (b ∷ p))) (place_by (name_index (name_of (b ∷ p))) t (value_of (b ∷ p))) Broken

abbrev pub follow : Gathered → (List Slot → Gathered) → Gathered
follow Broken f = Broken
follow (Values t) f = f t

-- the pieces one after the other
unfoldable pub gather_from : List Slot → List (List ℕ) → Gathered
gather_from t [] = Values t
gather_from t (p ∷ ps) = follow (add_piece t p) (λ u. gather_from u ps)

abbrev pub no_slots : List Slot
no_slots = replicate 7 Absent

unfoldable pub gathered : List ℕ → Gathered
gathered s = gather_from no_slots (pieces s)
