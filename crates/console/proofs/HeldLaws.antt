-- What is held of a line is the line cut (CutLaws), so that the line's turn is that of what is held.
use Prim.Native.Nat.{ℕ, zero, suc, ◌+◌, ◌*◌, ◌≤◌, ◌<◌}
use native.Mathlib.Numerals.{add-one}
use native.Mathlib.Omega.{arith}
use mathlib.Core.Path.{◌≡◌, refl, sym, ap, ◌∙◌}
use mathlib.Core.List.{List, [], ◌∷◌, ◌++◌, append-nil, append_assoc}
use mathlib.Core.Bool.{Bool, true, false, and-false}
use lib.Dec.{eqb}
use lib.ListN.{length, get_or, set, take, length-set}
use lib.Seq.{take-suc-set, take-nil, get_or-set_same, get_or-set_other}
use borrow.Author.Tests.{lt-ltb, le-ltb, le-leb, lt-leb, ne_eqb, eqb-true}
use Rattle.table.specs.Table.{Rows}
use Rattle.orders.specs.Order.{Console}
use Rattle.gathering.specs.Held.{Held}
use Rattle.orders.specs.Order.{line_turn}
use Rattle.gathering.specs.Held.{held_text, pushed, in_params, absorbed, absorb_all, emptied}
use Rattle.console.proofs.CutLaws.{kept, joined, cut, cut-turn}
use Rattle.texts.proofs.Tests.{by-test}

-- ---- one byte more
abbrev next : Held → ℕ → ℕ → ℕ → Held
next h b k n = record { bytes = set h.bytes h.len b; len = h.len + 1; spaces = k; run = n }

-- a line that has begun, with R (82) or not, in a row that it does not fill
record Begun (r : Bool) (h : Held) : Type 0 where
  full : length h.bytes ≡ 2177
  some : 0 < h.len
  first : eqb (get_or h.bytes 0 0) 82 ≡ r
  room : h.len ≤ h.spaces * 32 + h.run

module _ (h : Held) (b k n : ℕ) where
  next-text : length h.bytes ≡ 2177 → h.len < 2177 → held_text (next h b k n) ≡ held_text h ++ (b ∷ [])
  next-text full l =
      let i : h.len < length h.bytes = omega arith in
      rw add-one (take-suc-set h.bytes h.len b i)

  push-next : h.len < 2177 → pushed h b k n ≡ next h b k n
  unfolding pushed
  push-next l = rw (lt-ltb h.len 2177 l)

  next-begun : (r : Bool) → Begun r h → h.len + 1 ≤ k * 32 + n → Begun r (next h b k n)
  next-begun r g m =
      record {
        full = length-set h.bytes h.len b ∙ g.full;
        some = omega arith;
        first = rw (get_or-set_other h.bytes h.len 0 b 0 (λ q. absurd (omega (arith, g.some)))) g.first;
        room = m;
      }

module _ (h : Held) (b : ℕ) (s : List ℕ) where
  -- a byte that is held, and one that is not
  step_push : (k n : ℕ) (rest : List ℕ) → length h.bytes ≡ 2177 → h.len < 2177 → absorbed h b ≡ pushed h b k n
      → held_text (absorb_all (next h b k n) s) ≡ held_text (next h b k n) ++ rest
      → held_text (absorb_all h (b ∷ s)) ≡ held_text h ++ (b ∷ rest)
  unfolding absorb_all
  step_push k n rest full l e up =
      ap (λ (x : Held). held_text (absorb_all x s)) (e ∙ push-next h b k n l)
      ∙ up ∙ ap (λ (u : List ℕ). u ++ rest) (next-text h b k n full l) ∙ append_assoc (held_text h) (b ∷ []) rest

  step-stay : (u : List ℕ) → absorbed h b ≡ h → held_text (absorb_all h s) ≡ u → held_text (absorb_all h (b ∷ s)) ≡ u
  unfolding absorb_all
  step-stay u e up = ap (λ (x : Held). held_text (absorb_all x s)) e ∙ up

module _ (h : Held) (b : ℕ) where
  module _ (p : in_params h ≡ true) where
    absorb-param : h.run < 2049 → absorbed h b ≡ pushed h b h.spaces (h.run + 1)
    unfolding absorbed
    absorb-param l = rw (p, lt-ltb h.run 2049 l)

    absorb-over : 2049 ≤ h.run → absorbed h b ≡ h
    unfolding absorbed
    absorb-over l = rw (p, le-ltb h.run 2049 l)

  module _ (p : in_params h ≡ false) where
    absorb-space : eqb b 32 ≡ true → h.spaces < 4 → absorbed h b ≡ pushed h b (h.spaces + 1) 0
    unfolding absorbed
    absorb-space e l = rw (p, e, lt-ltb h.spaces 4 l)

    absorb-fifth : eqb b 32 ≡ true → 4 ≤ h.spaces → absorbed h b ≡ h
    unfolding absorbed
    absorb-fifth e l = rw (p, e, le-ltb h.spaces 4 l)

    absorb-byte : eqb b 32 ≡ false → h.run < 31 → absorbed h b ≡ pushed h b h.spaces (h.run + 1)
    unfolding absorbed
    absorb-byte e l = rw (p, e, lt-ltb h.run 31 l)

    absorb-long : eqb b 32 ≡ false → 31 ≤ h.run → absorbed h b ≡ h
    unfolding absorbed
    absorb-long e l = rw (p, e, le-ltb h.run 31 l)

in-params : (h : Held) → eqb (get_or h.bytes 0 0) 82 ≡ true → 2 ≤ h.spaces → in_params h ≡ true
unfolding in_params
in-params h f l = rw (f, le-leb 2 h.spaces l)

no-params : (h : Held) → eqb (get_or h.bytes 0 0) 82 ≡ false → in_params h ≡ false
unfolding in_params
no-params h f = rw f

few-params : (h : Held) → h.spaces < 2 → in_params h ≡ false
unfolding in_params
few-params h l = rw (lt-leb 2 h.spaces l, and-false)

-- ---- the parameters of an R, of which m bytes more are held
params-held : (s : List ℕ) (h : Held) (m : ℕ) → Begun true h → h.spaces ≡ 2 → h.run + m ≡ 2049 → held_text (absorb_all h s) ≡ held_text h ++ take m s
unfolding absorb_all
params-held [] h m g k l = rw take-nil (sym (append-nil (held_text h)))
params-held (b ∷ s) h zero g k l =
    step-stay h b s (held_text h ++ []) (absorb-over h b (in-params h g.first (omega arith)) (omega arith)) (params-held s h zero g k l)
params-held (b ∷ s) h (suc m) g k l =
    let r : h.run + 1 + m ≡ 2049 = omega arith in
    let w : h.len < 2177 = omega (arith, g.room) in
    let v : h.len + 1 ≤ h.spaces * 32 + (h.run + 1) = omega (arith, g.room) in
    step_push h b s h.spaces (h.run + 1) (take m s) g.full w (absorb-param h b (in-params h g.first (omega arith)) (omega arith))
    (params-held s (next h b h.spaces (h.run + 1)) m (next-begun h b h.spaces (h.run + 1) true g v) k r)

-- ---- the fifth field of another line, and all behind it
fifth-held : (s : List ℕ) (h : Held) (m : ℕ) → Begun false h → h.spaces ≡ 4 → h.run + m ≡ 31 → held_text (absorb_all h s) ≡ held_text h ++ joined m s
unfolding absorb_all joined
fifth-held [] h m g k l = sym (append-nil (held_text h))
fifth-held (b ∷ s) h zero g k l =
    let p : in_params h ≡ false = no-params h g.first in
    let e : absorbed h b ≡ h = by-test (eqb b 32) (λ t. absorb-fifth h b p t (omega arith)) (λ t. absorb-long h b p t (omega arith)) in
    step-stay h b s (held_text h ++ joined zero s) e (fifth-held s h zero g k l)
fifth-held (b ∷ s) h (suc m) g k l =
    let p : in_params h ≡ false = no-params h g.first in
    let r : h.run + 1 + m ≡ 31 = omega arith in
    let w : h.len < 2177 = omega (arith, g.room) in
    let v : h.len + 1 ≤ h.spaces * 32 + (h.run + 1) = omega (arith, g.room) in
    by-test (eqb b 32)
    (λ t. rw t (step-stay h b s (held_text h ++ joined (suc m) s) (absorb-fifth h b p t (omega arith)) (fifth-held s h (suc m) g k l)))
    (λ t. rw t
    (step_push h b s h.spaces (h.run + 1) (joined m s) g.full w (absorb-byte h b p t (omega arith))
    (fifth-held s (next h b h.spaces (h.run + 1)) m (next-begun h b h.spaces (h.run + 1) false g v) k r)))

-- ---- the fields before: j spaces more are held as such, and m bytes more of this field; `end` is what follows the last of them
module _
    (r : Bool)
    (e : List ℕ → List ℕ)
    (last : ℕ)
    (few : last ≤ 4)
    (before : (h : Held) → Begun r h → h.spaces < last → in_params h ≡ false)
    (end : (s : List ℕ) (h : Held) → Begun r h → h.spaces ≡ last → h.run ≡ 0 → held_text (absorb_all h s) ≡ held_text h ++ e s)
  where
    field-space : (b : ℕ) (s : List ℕ) (h : Held) (j : ℕ) (rest : List ℕ) → Begun r h → h.spaces + suc j ≡ last → h.run ≤ 31
        → ((x : Held) → Begun r x → x.spaces + j ≡ last → x.run ≡ 0 → held_text (absorb_all x s) ≡ held_text x ++ rest)
        → eqb b 32 ≡ true → held_text (absorb_all h (b ∷ s)) ≡ held_text h ++ (32 ∷ rest)
    field-space b s h j rest g k l up t =
        let w : h.len < 2177 = omega (arith, g.room) in
        let v : h.len + 1 ≤ (h.spaces + 1) * 32 + 0 = omega (arith, g.room) in
        let q : h.spaces + 1 + j ≡ last = omega arith in
        step_push h b s (h.spaces + 1) 0 rest g.full w (absorb-space h b (before h g (omega arith)) t (omega arith))
        (up (next h b (h.spaces + 1) 0) (next-begun h b (h.spaces + 1) 0 r g v) q refl)
        ∙ ap (λ (c : ℕ). held_text h ++ (c ∷ rest)) (eqb-true b 32 t)

    field_step : (b : ℕ) (s : List ℕ) (h : Held) (j m : ℕ) → Begun r h → h.spaces + suc j ≡ last → h.run + m ≡ 31
        → ((x : Held) → Begun r x → x.spaces + j ≡ last → x.run ≡ 0 → held_text (absorb_all x s) ≡ held_text x ++ kept e j s 31)
        → ((x : Held) (n : ℕ) → Begun r x → x.spaces + suc j ≡ last → x.run + n ≡ 31 → held_text (absorb_all x s) ≡ held_text x ++ kept e (suc j) s n)
        → held_text (absorb_all h (b ∷ s)) ≡ held_text h ++ kept e (suc j) (b ∷ s) m
    unfolding kept
    field_step b s h j zero g k l space byte =
        by-test (eqb b 32) (λ t. rw t (field-space b s h j (kept e j s 31) g k (omega arith) space t))
        (λ t. rw t (step-stay h b s (held_text h ++ kept e (suc j) s zero) (absorb-long h b (before h g (omega arith)) t (omega arith)) (byte h zero g k l)))
    field_step b s h j (suc m) g k l space byte =
        let w : h.len < 2177 = omega (arith, g.room) in
        let v : h.len + 1 ≤ h.spaces * 32 + (h.run + 1) = omega (arith, g.room) in
        let q : h.run + 1 + m ≡ 31 = omega arith in
        by-test (eqb b 32) (λ t. rw t (field-space b s h j (kept e j s 31) g k (omega arith) space t))
        (λ t. rw t
        (step_push h b s h.spaces (h.run + 1) (kept e (suc j) s m) g.full w (absorb-byte h b (before h g (omega arith)) t (omega arith))
        (byte (next h b h.spaces (h.run + 1)) m (next-begun h b h.spaces (h.run + 1) r g v) k q)))

    fields-held : (s : List ℕ) (h : Held) (j m : ℕ) → Begun r h → h.spaces + suc j ≡ last → h.run + m ≡ 31
        → held_text (absorb_all h s) ≡ held_text h ++ kept e (suc j) s m
    unfolding absorb_all kept
    fields-held [] h j m g k l = sym (append-nil (held_text h))
    fields-held (b ∷ s) h zero m g k l =
        field_step b s h zero m g k l (λ x y z w. end s x y (omega arith) w) (λ x n y z w. fields-held s x zero n y z w)
    fields-held (b ∷ s) h (suc j) m g k l =
        field_step b s h (suc j) m g k l (λ x y z w. fields-held s x j 31 y z (omega arith)) (λ x n y z w. fields-held s x (suc j) n y z w)

asked-held : (s : List ℕ) (h : Held) (j m : ℕ) → Begun true h → h.spaces + suc j ≡ 2 → h.run + m ≡ 31
    → held_text (absorb_all h s) ≡ held_text h ++ kept (take 2049) (suc j) s m
asked-held =
    fields-held true (take 2049) 2 (omega arith) (λ h g l. few-params h l) (λ s h g k l. params-held s h 2049 g k (omega arith))

other-held : (s : List ℕ) (h : Held) (j m : ℕ) → Begun false h → h.spaces + suc j ≡ 4 → h.run + m ≡ 31
    → held_text (absorb_all h s) ≡ held_text h ++ kept (joined 31) (suc j) s m
other-held =
    fields-held false (joined 31) 4 (omega arith) (λ h g l. no-params h g.first) (λ s h g k l. fifth-held s h 31 g k (omega arith))

-- ---- a line from its first byte on
module _ (h : Held) (full : length h.bytes ≡ 2177) (b : ℕ) where
  start-begun : (k n : ℕ) (r : Bool) → eqb b 82 ≡ r → 1 ≤ k * 32 + n → Begun r (next (emptied h) b k n)
  start-begun k n r e l =
      let i : 0 < length h.bytes = omega arith in
      record {
        full = length-set h.bytes 0 b ∙ full;
        some = omega arith;
        first = rw (get_or-set_same h.bytes 0 b 0 i) e;
        room = l;
      }

  start-space : eqb b 32 ≡ true → absorbed (emptied h) b ≡ pushed (emptied h) b 1 0
  start-space t = absorb-space (emptied h) b (few-params (emptied h) (omega arith)) t (omega arith)

  start-byte : eqb b 32 ≡ false → absorbed (emptied h) b ≡ pushed (emptied h) b 0 1
  start-byte t = absorb-byte (emptied h) b (few-params (emptied h) (omega arith)) t (omega arith)

  module _ (s : List ℕ) where
    asked-line : eqb b 82 ≡ true → held_text (absorb_all (emptied h) (b ∷ s)) ≡ kept (take 2049) 2 (b ∷ s) 31
    unfolding kept
    asked-line r =
        let t : eqb b 32 ≡ false = ne_eqb b 32 (λ q. absurd (omega (arith, eqb-true b 82 r))) in
        rw t
        (step_push (emptied h) b s 0 1 (kept (take 2049) 2 s 30) full (omega arith) (start-byte t)
        (asked-held s (next (emptied h) b 0 1) 1 30 (start-begun 0 1 true r (omega arith)) refl refl))

    other-line : eqb b 82 ≡ false → held_text (absorb_all (emptied h) (b ∷ s)) ≡ kept (joined 31) 4 (b ∷ s) 31
    unfolding kept
    other-line r =
        by-test (eqb b 32)
        (λ t. rw t
        (step_push (emptied h) b s 1 0 (kept (joined 31) 3 s 31) full (omega arith) (start-space t)
        (other-held s (next (emptied h) b 1 0) 2 31 (start-begun 1 0 false r (omega arith)) refl refl)
        ∙ ap (λ (c : ℕ). c ∷ kept (joined 31) 3 s 31) (eqb-true b 32 t)))
        (λ t. rw t
        (step_push (emptied h) b s 0 1 (kept (joined 31) 4 s 30) full (omega arith) (start-byte t)
        (other-held s (next (emptied h) b 0 1) 3 30 (start-begun 0 1 false r (omega arith)) refl refl)))

-- what is held is the line cut
pub held_cut : (h : Held) (l : List ℕ) → length h.bytes ≡ 2177 → held_text (absorb_all (emptied h) l) ≡ cut l
unfolding cut kept absorb_all
held_cut h [] full = refl
held_cut h (b ∷ s) full = by-test (eqb b 82) (λ r. rw r (asked-line h full b s r)) (λ r. rw r (other-line h full b s r))

-- the turn of what is held is the turn of the line
pub held-turn : (x : Console) (t : Rows) (h : Held) (l : List ℕ) → length h.bytes ≡ 2177
    → line_turn x t (held_text (absorb_all (emptied h) l)) ≡ line_turn x t l
held-turn x t h l full = ap (line_turn x t) (held_cut h l full) ∙ cut-turn x t l
