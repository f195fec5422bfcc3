-- Laws of the pieces that are gathered by their names.
use Prim.Native.Nat.{ℕ, zero, suc, ◌+◌, ◌-◌, ◌≤◌, ◌<◌, ◌^◌, ◌*◌}
use native.Mathlib.Numerals.{add-one}
use native.Mathlib.Nat.{not-suc-le-zero, le_of_suc-le-suc}
use native.Mathlib.Omega.{arith}
use mathlib.Core.Path.{◌≡◌, refl, sym, ap, ◌∙◌}
use mathlib.Core.List.{List, [], ◌∷◌}
use mathlib.Core.Bool.{Bool, true, false, cond, ◌&&◌}
use mir.Syntax.{w64}
use mir.Val.{Fits}
use lib.Dec.{eqb, ltb}
use lib.ListN.{length, get_or, set, take, drop, length-take, length-drop, drop_of_length-le}
use lib.Seq.{take_all, take-nil, length-take-le, drop-drop}
use borrow.Author.Tests.{ltb-true, ltb-false, lt-ltb, le-ltb, eq-eqb, ne_eqb, eqb-true, not-true, not-false}
use Rattle.std.specs.Prelude.{Option, Some, None}
use Rattle.texts.specs.Lists.{find, eq_list}
use Rattle.texts.proofs.Tests.{cond-elim}
use Rattle.texts.proofs.ScanLaws.{find-le}
use Rattle.coding.specs.Url.{well_coded, decoded, decoded_within}
use Rattle.coding.specs.Params.{split_at, pieces, has_value, name_of, value_of}
use Rattle.coding.proofs.ParamLaws.{split-first, split-last}
use Rattle.parameters.specs.declared.slots.Piece.{Piece}
use Rattle.parameters.specs.declared.slots.Piece.TheVariants.{Value, Nothing, Malformed}
use Rattle.parameters.specs.Names.{action_name, number_name, kind_name, amount_name, receipt_name, date_name, reason_name, name_index}
use Rattle.parameters.specs.Slots.{Slot, Absent, Holds, Gathered, Broken, Values, place, place_by, add_piece, follow, gather_from, no_slots}
use Rattle.parameters.specs.SlotWalk.{slot_at, slot_of, slots_in, scanned, end_at, is_given, placed, stored, Adds, clipped_text}

drop-take : (n m : ℕ) (l : List ℕ) → drop n (take m l) ≡ take (m - n) (drop n l)
drop-take zero m l = let z : m - 0 ≡ m = omega arith in rw z
drop-take (suc n) zero l = let z : zero - suc n ≡ 0 = omega arith in rw z
drop-take (suc n) (suc m) [] = sym (take-nil (suc m - suc n))
drop-take (suc n) (suc m) (x ∷ l) = let z : suc m - suc n ≡ m - n = omega arith in drop-take n m l ∙ rw z

-- ---- the code's slots and the definition's
module _ (s : List ℕ) where
  slot-get : (t : List (List ℕ)) (k : ℕ) → k < length t → get_or (slots_in s t) k Absent ≡ slot_of s (get_or t k [])
  unfolding slots_in
  slot-get [] k h = absurd (not-suc-le-zero h)
  slot-get (x ∷ t) zero h = refl
  slot-get (x ∷ t) (suc k) h = slot-get t k (le_of_suc-le-suc h)

  slot-set : (t : List (List ℕ)) (k : ℕ) (x : List ℕ) → slots_in s (set t k x) ≡ set (slots_in s t) k (slot_of s x)
  unfolding slots_in
  slot-set [] k x = refl
  slot-set (y ∷ t) zero x = refl
  slot-set (y ∷ t) (suc k) x = ap (λ (u : List Slot). slot_of s y ∷ u) (slot-set t k x)

  slot_held : (f e : ℕ) (v : List ℕ) → 0 < e → v ≡ take (e - f) (drop f s) → slot_at s f e ≡ Holds v
  unfolding slot_at
  slot_held f e v h q = let n : (e ≡ 0 → ⊥) = λ z. omega arith in rw (ne_eqb _ _ n, q)

  -- a slot stored is the definition's placing
  module _ (t : List (List ℕ)) (sizes : length t ≡ 7) (k f e : ℕ) (v : List ℕ) (some : 0 < e) (is : v ≡ take (e - f) (drop f s)) where
    placed-known : k < 7 → placed s t k f e ≡ place (get_or (slots_in s t) k Absent) (slots_in s t) k v
    unfolding placed
    placed-known h =
        let a : k < length t = omega arith in
        rw (slot-get t k a) (go (eqb (end_at t k) 0) refl)
      where
        go : (z : Bool) → eqb (end_at t k) 0 ≡ z → cond z (Values (slots_in s (set t k (f ∷ (e ∷ []))))) Broken ≡ place (slot_of s (get_or t k [])) (slots_in s t) k v
        go true z =
            let w : slot_of s (get_or t k []) ≡ Absent = unfold slot_at in rw z in
            rw (w, slot-set t k (f ∷ (e ∷ [])), slot_held f e v some is)
        go false z =
            let w : slot_of s (get_or t k []) ≡ Holds (take (end_at t k - get_or (get_or t k []) 0 0) (drop (get_or (get_or t k []) 0 0) s)) = unfold slot_at in rw z in
            rw w

-- ---- one piece
pub add-some : (t : List Slot) (p : List ℕ) → (length p ≡ 0 → ⊥)
    → add_piece t p ≡ cond (has_value p && well_coded (value_of p)) (place_by (name_index (name_of p)) t (value_of p)) Broken
unfolding add_piece
add-some t [] n = absurd (n refl)
add-some t (b ∷ p) n = refl

pub place-known : (w : List ℕ) (k : ℕ) → name_index w ≡ Some k → k < 7
unfolding name_index
place-known w k =
    one action_name 0 (omega arith) (one number_name 1 (omega arith) (one kind_name 2 (omega arith) (one amount_name 3 (omega arith)
    (one receipt_name 4 (omega arith) (one date_name 5 (omega arith) (one reason_name 6 (omega arith) (λ e. cc)))))))
  where
    one : (n : List ℕ) (i : ℕ) → i < 7 → {rest : Option ℕ} → (rest ≡ Some k → k < 7) → cond (eq_list w n) (Some i) rest ≡ Some k → k < 7
    one n i l {rest} r =
        cond-elim (λ (x : Option ℕ). x ≡ Some k → k < 7) (eq_list w n) (Some i) rest (λ _ e. let z : i ≡ k = cc in omega arith) (λ _. r)

module _ (s : List ℕ) (at end : ℕ) (p : List ℕ) (is : p ≡ take (end - at) (drop at s)) where
  pub piece-empty : length p ≡ 0 → Adds s at end Nothing
  unfolding stored
  piece-empty l t a = rw (← is) (go p l)
    where
      go : (p : List ℕ) → length p ≡ 0 → Values (slots_in s t) ≡ add_piece (slots_in s t) p
      go [] l = unfold add_piece in refl
      go (b ∷ p) l = absurd (omega arith)

  module _ (some : length p ≡ 0 → ⊥) (q : ℕ) (found : q ≡ find 61 p) where
    pub name-size : q < length p → q ≡ length (take q p)
    name-size h = sym (length-take-le q p (omega arith))

    pub piece-alone : length p ≤ q → Adds s at end Malformed
    unfolding stored
    piece-alone h t a = rw (← is, add-some (slots_in s t) p some) (rw (← found, le-ltb _ _ h))

    module _ (inside : q < length p) (w : Bool) (coded : w ≡ well_coded (take (length p - (q + 1)) (drop (q + 1) p))) where
      value-is : take (length p - (q + 1)) (drop (q + 1) p) ≡ value_of p
      value-is =
          let l : length (drop (q + 1) p) ≤ length p - (q + 1) = rw length-drop (omega arith) in
          take_all (length p - (q + 1)) (drop (q + 1) p) l ∙ rw (add-one, found)

      whether : has_value p && well_coded (value_of p) ≡ w
      whether =
          let h : has_value p ≡ true = rw (← found) (lt-ltb _ _ inside) in
          rw h (sym (ap well_coded value-is) ∙ sym coded)

      pub piece-bad : w ≡ false → Adds s at end Malformed
      unfolding stored
      piece-bad g t a = rw (← is, add-some (slots_in s t) p some, whether, g)

      pub place-fits : end ≤ length s → length s < 2 ^ 64 → Fits w64 (at + q + 1)
      place-fits h l = let a : length p ≤ end - at = rw is (simp length-take (omega arith)) in omega arith

      module _ (x : Option ℕ) (ex : x ≡ name_index (take q p)) (g : w ≡ true) where
        pub piece-unknown : x ≡ None → Adds s at end Nothing
        unfolding stored
        piece-unknown n t a = rw (← is, add-some (slots_in s t) p some, whether, g, ← found, ← ex, n)

        pub piece-placed : (k : ℕ) → x ≡ Some k → Adds s at end (Value k (at + q + 1))
        unfolding stored
        piece-placed k e t a =
            let n : length p ≤ end - at = rw is (simp length-take (omega arith)) in
            let some_end : 0 < end = omega arith in
            let v : value_of p ≡ take (end - (at + q + 1)) (drop (at + q + 1) s) = rw (← found, ← add-one) there in
            let known : k < 7 = place-known (take q p) k (sym ex ∙ e) in
            rw (← is, add-some (slots_in s t) p some, whether, g, ← found, ← ex, e)
            (placed-known s t a k (at + q + 1) end (value_of p) some_end v known ∙ rw found)
          where
            there : drop (q + 1) p ≡ take (end - (at + q + 1)) (drop (at + q + 1) s)
            there =
                let z : end - at - (q + 1) ≡ end - (at + q + 1) = omega arith in
                let y : at + (q + 1) ≡ at + q + 1 = omega arith in
                rw is (drop-take (q + 1) (end - at) (drop at s) ∙ rw (drop-drop, z, y))

        pub is-known : (k : ℕ) → x ≡ Some k → k < 7
        is-known k e = place-known (take q p) k (sym ex ∙ e)

-- ---- the pieces one after the other
no_pieces : (u : List Slot) → gather_from u (pieces []) ≡ Values u
unfolding gather_from add_piece split_at
no_pieces u = refl

module _ (s : List ℕ) where
  pub gather-start : (t₀ t : List (List ℕ)) → t ≡ t₀ → gather_from (slots_in s t₀) (pieces s) ≡ gather_from (slots_in s t) (pieces (drop 0 s))
  gather-start t₀ t e = rw e

  -- the piece that begins at a place, and what it makes of the rest
  module _ (t : List Slot) (at e : ℕ) (inside : at < length s) (is : e ≡ find 38 (take (length s - at) (drop at s))) where
    whole : take (length s - at) (drop at s) ≡ drop at s
    whole = take_all (length s - at) (drop at s) (rw length-drop (omega arith))

    is' : e ≡ find 38 (drop at s)
    is' = is ∙ rw whole

    piece_inside : at + e ≤ length s
    piece_inside =
        let l : e ≤ length (drop at s) = rw is' (find-le 38 (drop at s)) in
        omega (arith, rw length-drop at l)

    gather-piece : gather_from t (pieces (drop at s)) ≡ follow (add_piece t (take (at + e - at) (drop at s))) (λ u. gather_from u (pieces (drop (at + e + 1) s)))
    unfolding gather_from
    gather-piece =
        let z : at + e - at ≡ e = omega arith in
        rw z (go (ltb e (length (drop at s))) refl)
      where
        go : (b : Bool) → ltb e (length (drop at s)) ≡ b
            → gather_from t (pieces (drop at s)) ≡ follow (add_piece t (take e (drop at s))) (λ u. gather_from u (pieces (drop (at + e + 1) s)))
        go true b =
            let h : find 38 (drop at s) < length (drop at s) = rw (← is') (ltb-true e (length (drop at s)) b) in
            let y : at + suc e ≡ at + e + 1 = omega arith in
            rw (split-first 38 (drop at s) h, ← is', drop-drop, y)
        go false b =
            let k : length (drop at s) ≤ e = ltb-false e (length (drop at s)) b in
            let h : length (drop at s) ≤ find 38 (drop at s) = rw (← is') k in
            let y : length s ≤ at + e + 1 = omega (arith, rw length-drop at k) in
            rw (split-last 38 (drop at s) h, take_all e (drop at s) k, drop_of_length-le s y) (ends (add_piece t (drop at s)))
          where
            ends : (g : Gathered) → follow g (λ u. gather_from u []) ≡ follow g (λ u. gather_from u (pieces []))
            ends Broken = refl
            ends (Values u) = sym (no_pieces u)

  -- a piece that ends at `end` is stored into t
  module _ (g : Gathered) (p : Piece) (at e end : ℕ) (ends : end ≡ at + e) (adds : Adds s at end p) (t : List (List ℕ)) (sizes : length t ≡ 7)
      (so_far : g ≡ gather_from (slots_in s t) (pieces (drop at s))) (inside : at < length s) (is : e ≡ find 38 (take (length s - at) (drop at s))) where
    after : g ≡ follow (stored s t p end) (λ u. gather_from u (pieces (drop (end + 1) s)))
    after = so_far ∙ gather-piece (slots_in s t) at e inside is ∙ rw (← ends, adds t sizes)

    breaks : stored s t p end ≡ Broken → (u : List (List ℕ)) → scanned s false u ≡ g
    unfolding scanned
    breaks q u = sym (after ∙ rw q)

    goes_on : (u : List (List ℕ)) → stored s t p end ≡ Values (slots_in s u) → g ≡ gather_from (slots_in s u) (pieces (drop (end + 1) s))
    goes_on u q = after ∙ rw q

    pub gather-bad : p ≡ Malformed → (u : List (List ℕ)) → scanned s false u ≡ g
    unfolding stored
    gather-bad h = breaks (rw h)

    pub gather-skip : p ≡ Nothing → g ≡ gather_from (slots_in s t) (pieces (drop (end + 1) s))
    unfolding stored
    gather-skip h = goes_on t (rw h)

    module _ (k from : ℕ) (value : p ≡ Value k from) where
      pub gather-twice : (end_at t k ≡ 0 → ⊥) → (u : List (List ℕ)) → scanned s false u ≡ g
      unfolding stored placed
      gather-twice n = breaks (rw (value, ne_eqb _ _ n))

      pub gather-new : end_at t k ≡ 0 → g ≡ gather_from (slots_in s (set t k (from ∷ (end ∷ [])))) (pieces (drop (end + 1) s))
      unfolding stored placed
      gather-new z = goes_on _ (rw (value, eq-eqb _ _ z))

  pub gather-end : (g : Gathered) (t : List (List ℕ)) (at : ℕ) → g ≡ gather_from (slots_in s t) (pieces (drop at s)) → length s ≤ at → (u : List (List ℕ)) → u ≡ t → scanned s true u ≡ g
  unfolding scanned
  gather-end g t at e h u q = rw q (sym (e ∙ rw (drop_of_length-le s h) (no_pieces (slots_in s t))))

-- ---- the end of a piece, and what lies behind it
module _ (s : List ℕ) (at e : ℕ) (inside : at < length s) (is : e ≡ find 38 (take (length s - at) (drop at s))) where
  pub reach : at + e ≤ length s
  reach = piece_inside s no_slots at e inside is

  pub end_fits : length s < 2 ^ 64 → Fits w64 (at + e)
  end_fits l = omega (arith, reach)

  pub next_fits : length s * 1 < 2 ^ 63 → Fits w64 (at + e + 1)
  next_fits l = omega (arith, reach)

  pub next-falls : (length s + 1) - (at + e + 1) < (length s + 1) - at
  next-falls = omega arith

  pub next-inside : at + e + 1 ≤ length s + 1
  next-inside = omega (arith, reach)

-- ---- a value once it is decoded
none : decoded_within 96 [] ≡ []
unfolding decoded_within decoded
none = refl

module _ (s : List ℕ) (t : List (List ℕ)) (k : ℕ) (small : k < 7) (sizes : 7 ≡ length t) where
  here : get_or (slots_in s t) k Absent ≡ slot_of s (get_or t k [])
  here = slot-get s t k (omega arith)

  pub not-given : is_given t k ≡ false → get_or (slots_in s t) k Absent ≡ Absent
  unfolding slot_at
  not-given e = here ∙ rw (not-false (eqb (end_at t k) 0) e)

  pub is-given : is_given t k ≡ true → get_or (slots_in s t) k Absent ≡ Absent → ⊥
  unfolding slot_at
  is-given e a =
      let h : slot_of s (get_or t k []) ≡ Holds (take (end_at t k - get_or (get_or t k []) 0 0) (drop (get_or (get_or t k []) 0 0) s)) = rw (not-true (eqb (end_at t k) 0) e) in
      let i : slot_of s (get_or t k []) ≡ Absent = sym here ∙ a in
      let z : ◌≡◌ {A = ℕ} 0 1 = cc in absurd (omega arith)

  pub text-clipped : (v : List ℕ) → v ≡ take (end_at t k - get_or (get_or t k []) 0 0) (drop (get_or (get_or t k []) 0 0) s) → (d : List ℕ) → 96 ≡ length d
      → (r : List ℕ) → r ≡ decoded_within (length d) v → r ≡ clipped_text (get_or (slots_in s t) k Absent)
  unfolding slot_at
  text-clipped v ev d l r q = q ∙ rw (← l, here, ev) (go (eqb (end_at t k) 0) refl)
    where
      from : ℕ
      from = get_or (get_or t k []) 0 0

      go : (z : Bool) → eqb (end_at t k) 0 ≡ z → decoded_within 96 (take (end_at t k - from) (drop from s)) ≡ clipped_text (cond z Absent (Holds (take (end_at t k - from) (drop from s))))
      go true z =
          let n : end_at t k - from ≡ 0 = omega (arith, eqb-true (end_at t k) 0 z) in
          rw n none
      go false z = refl

pub ruleset read_piece_laws = (piece-empty, name-size, piece-alone, piece-bad, place-fits, piece-unknown, piece-placed, is-known)

pub ruleset gather_laws = (gather-bad, gather-skip, gather-twice, gather-new, gather-end, end_fits, next_fits, next-inside, reach)
