-- Laws of chains of places: built from the last place to the first, with one place more, and kept where the keys are.
use mathlib.Core.Path.{◌≡◌, refl, sym, ap, ◌∙◌, subst}
use mathlib.Core.Logic.{◌≢◌}
use mathlib.Core.List.{List}
use Prim.Native.Nat.{ℕ, zero, suc, ◌+◌, ◌-◌, ◌<◌, ◌≤◌}
use native.Mathlib.Decide.{dec_lt, ℕ_discrete}
use native.Mathlib.Omega.{arith}
use lib.ListN.{length, get_or, set, replicate, length-set}
use lib.Seq.{get_or-set_same, get_or-set_other}
use Rattle.index.specs.Index.{slot_of, Link, Chained}

-- ---- slots
pub slot-below : (k : ℕ) → slot_of k < 8192
unfolding slot_of
slot-below k = omega arith

pub zeros : (n s : ℕ) → ◌≡◌ {A = ℕ} (get_or (replicate n 0) s 0) 0
zeros zero s = refl
zeros (suc n) zero = refl
zeros (suc n) (suc s) = zeros n s

module _ (key : ℕ → ℕ) where
  pub link-as : {s t i m n at to : ℕ} → s ≡ t → i ≡ m → at ≡ to → Link key s i n at → Link key t m n to
  link-as a b c l = rw (← a, ← b, ← c) l

  -- no place at all
  link-none : (s i n : ℕ) → n ≤ i → Link key s i n 0
  link-none s i n h =
      record { behind = λ p. absurd (omega arith); within = omega arith; slot = λ p. absurd (omega arith); least = λ j a b e. absurd (omega arith) }

  -- ---- built from the last place to the first
  module _ (i n : ℕ) (h : i < n) where
    link_here : Link key (slot_of (key i)) i n (i + 1)
    link_here =
        let e : i ≡ i + 1 - 1 = omega arith in
        record { behind = λ p. omega arith; within = omega arith; slot = λ p. ap (λ (j : ℕ). slot_of (key j)) (sym e); least = λ j a b q. (omega arith, omega arith) }

    -- a place of another slot
    link-past : (s at : ℕ) → slot_of (key i) ≢ s → Link key s (i + 1) n at → Link key s i n at
    link-past s at d l =
        record { behind = λ p. omega (arith, l.behind p); within = l.within; slot = l.slot; least = λ j a b e. l.least j (other j a e (ℕ_discrete j i)) b e }
      where
        other : (j : ℕ) → i ≤ j → slot_of (key j) ≡ s → Dec (j ≡ i) → i + 1 ≤ j
        other j a e (yes q) = absurd (d (ap (λ (m : ℕ). slot_of (key m)) (sym q) ∙ e))
        other j a e (no q) = omega arith

  pub chained-none : (n : ℕ) (heads next : List ℕ) → length heads ≡ 8192 → ((s : ℕ) → get_or heads s 0 ≡ 0) → n ≤ length next → Chained key n n heads next
  chained-none n heads next size none room =
      record {
        slots = size;
        room = room;
        head = λ s h. link-as refl refl (sym (none s)) (link-none s n n (omega arith));
        tail = λ j a b. absurd (omega arith);
      }

  module _ (i n : ℕ) (h : i < n) (heads next : List ℕ) (c : Chained key (i + 1) n heads next) where
    chained-push : Chained key i n (set heads (slot_of (key i)) (i + 1)) (set next i (get_or heads (slot_of (key i)) 0))
    chained-push =
        record {
          slots = length-set heads (slot_of (key i)) (i + 1) ∙ c.slots;
          room = omega (arith, c.room, length-set next i (get_or heads (slot_of (key i)) 0));
          head = λ s l. heads-on s l (ℕ_discrete s (slot_of (key i)));
          tail = λ j a b. next-on j a b (ℕ_discrete j i);
        }
      where
        heads-on : (s : ℕ) → s < 8192 → Dec (s ≡ slot_of (key i)) → Link key s i n (get_or (set heads (slot_of (key i)) (i + 1)) s 0)
        heads-on s l (yes e) =
            let w : slot_of (key i) < length heads = omega (arith, slot-below (key i), c.slots) in
            link-as (sym e) refl (sym (ap (λ (t : ℕ). get_or (set heads (slot_of (key i)) (i + 1)) t 0) e ∙ get_or-set_same heads (slot_of (key i)) (i + 1) 0 w)) (link_here i n h)
        heads-on s l (no d) =
            link-as refl refl (sym (get_or-set_other heads (slot_of (key i)) s (i + 1) 0 d)) (link-past i n h s (get_or heads s 0) (λ e. d (sym e)) (c.head s l))

        next-on : (j : ℕ) → i ≤ j → j < n → Dec (j ≡ i) → Link key (slot_of (key j)) (j + 1) n (get_or (set next i (get_or heads (slot_of (key i)) 0)) j 0)
        next-on j a b (yes e) =
            let w : i < length next = omega (arith, c.room) in
            link-as (ap (λ (m : ℕ). slot_of (key m)) (sym e)) (ap (λ (m : ℕ). m + 1) (sym e))
            (sym (ap (λ (m : ℕ). get_or (set next i (get_or heads (slot_of (key i)) 0)) m 0) e ∙ get_or-set_same next i (get_or heads (slot_of (key i)) 0) 0 w))
            (c.head (slot_of (key i)) (slot-below (key i)))
        next-on j a b (no d) = link-as refl refl (sym (get_or-set_other next i j (get_or heads (slot_of (key i)) 0) 0 d)) (c.tail j (omega arith) b)

  -- a turn of a loop that has chained the places from i on
  module _ (i n : ℕ) (heads next : List ℕ) (c : Chained key i n heads next) where
    pub chained-turn : 0 < i → i ≤ n → (heads' next' : List ℕ) → heads' ≡ set heads (slot_of (key (i - 1))) (i - 1 + 1)
        → next' ≡ set next (i - 1) (get_or heads (slot_of (key (i - 1))) 0) → Chained key (i - 1) n heads' next'
    chained-turn p h heads' next' a b =
        let e : i ≡ i - 1 + 1 = omega arith in
        rw (a, b) (chained-push (i - 1) n (omega arith) heads next (subst (λ (m : ℕ). Chained key m n heads next) e c))

    pub chained-all : i ≤ 0 → Chained key 0 n heads next
    chained-all h = let e : i ≡ 0 = omega arith in subst (λ (m : ℕ). Chained key m n heads next) e c

    -- what it may touch
    pub chained-room : (j : ℕ) → j < n → j < length next
    chained-room j h = omega (arith, c.room)

    pub chained-slots : length heads ≡ 8192
    chained-slots = c.slots

  -- ---- one place more
  module _ (s i n at : ℕ) (l : Link key s i n at) where
    link-kept : (slot_of (key n) ≡ s → 0 < at) → Link key s i (n + 1) at
    link-kept f =
        record { behind = l.behind; within = omega (arith, l.within); slot = l.slot; least = λ j a b e. least j a b e (dec_lt j n) }
      where
        least : (j : ℕ) → i ≤ j → j < n + 1 → slot_of (key j) ≡ s → Dec (j < n) → (0 < at) × (at ≤ j + 1)
        least j a b e (yes h) = l.least j a h e
        least j a b e (no h) =
            let q : j ≡ n = omega arith in
            (f (ap (λ (m : ℕ). slot_of (key m)) (sym q) ∙ e), omega (arith, l.within))

    -- there was none
    link-last : at ≡ 0 → i ≤ n → slot_of (key n) ≡ s → Link key s i (n + 1) (n + 1)
    link-last z h e =
        let q : n ≡ n + 1 - 1 = omega arith in
        record {
          behind = λ p. omega arith;
          within = omega arith;
          slot = λ p. ap (λ (m : ℕ). slot_of (key m)) (sym q) ∙ e;
          least = λ j a b w. (omega arith, least j a b w (dec_lt j n));
        }
      where
        least : (j : ℕ) → i ≤ j → j < n + 1 → slot_of (key j) ≡ s → Dec (j < n) → n + 1 ≤ j + 1
        least j a b w (yes k) = absurd (omega (arith, (l.least j a k w).0))
        least j a b w (no k) = omega arith

  module _ (n : ℕ) (heads next : List ℕ) (c : Chained key 0 n heads next) (room : n < length next) where
    -- the first of its slot
    chained-first : get_or heads (slot_of (key n)) 0 ≡ 0 → Chained key 0 (n + 1) (set heads (slot_of (key n)) (n + 1)) (set next n 0)
    chained-first none =
        record {
          slots = length-set heads (slot_of (key n)) (n + 1) ∙ c.slots;
          room = omega (arith, length-set next n 0);
          head = λ s l. heads-on s l (ℕ_discrete s (slot_of (key n)));
          tail = λ j a b. next-on j b (dec_lt j n);
        }
      where
        heads-on : (s : ℕ) → s < 8192 → Dec (s ≡ slot_of (key n)) → Link key s 0 (n + 1) (get_or (set heads (slot_of (key n)) (n + 1)) s 0)
        heads-on s l (yes e) =
            let w : slot_of (key n) < length heads = omega (arith, slot-below (key n), c.slots) in
            link-as (sym e) refl (sym (ap (λ (t : ℕ). get_or (set heads (slot_of (key n)) (n + 1)) t 0) e ∙ get_or-set_same heads (slot_of (key n)) (n + 1) 0 w))
            (link-last (slot_of (key n)) 0 n _ (c.head (slot_of (key n)) (slot-below (key n))) none (omega arith) refl)
        heads-on s l (no d) =
            link-as refl refl (sym (get_or-set_other heads (slot_of (key n)) s (n + 1) 0 d)) (link-kept s 0 n _ (c.head s l) (λ e. absurd (d (sym e))))

        next-on : (j : ℕ) → j < n + 1 → Dec (j < n) → Link key (slot_of (key j)) (j + 1) (n + 1) (get_or (set next n 0) j 0)
        next-on j b (yes h) =
            link-as refl refl (sym (get_or-set_other next n j 0 0 (λ e. absurd (omega arith))))
            (link-kept (slot_of (key j)) (j + 1) n _ (c.tail j (omega arith) h)
            (λ e. absurd (omega (arith, none, ((c.head (slot_of (key n)) (slot-below (key n))).least j (omega arith) h (sym e)).0))))
        next-on j b (no h) =
            let q : j ≡ n = omega arith in
            link-as refl refl (sym (ap (λ (m : ℕ). get_or (set next n 0) m 0) q ∙ get_or-set_same next n 0 0 room)) (link-none (slot_of (key j)) (j + 1) (n + 1) (omega arith))

    -- behind k, the last of its slot
    chained-join : (k : ℕ) → k < n → slot_of (key k) ≡ slot_of (key n) → get_or next k 0 ≡ 0 → Chained key 0 (n + 1) heads (set (set next n 0) k (n + 1))
    chained-join k within same none =
        record {
          slots = c.slots;
          room = omega (arith, length-set next n 0, length-set (set next n 0) k (n + 1));
          head = λ s l. link-kept s 0 n _ (c.head s l) (λ e. ((c.head s l).least k (omega arith) within (same ∙ e)).0);
          tail = λ j a b. next-on j b (ℕ_discrete j k) (dec_lt j n);
        }
      where
        ends : Link key (slot_of (key n)) (k + 1) n 0
        ends = link-as same refl none (c.tail k (omega arith) within)

        next-on : (j : ℕ) → j < n + 1 → Dec (j ≡ k) → Dec (j < n) → Link key (slot_of (key j)) (j + 1) (n + 1) (get_or (set (set next n 0) k (n + 1)) j 0)
        next-on j b (yes e) h =
            let w : k < length (set next n 0) = omega (arith, length-set next n 0) in
            link-as (sym same ∙ ap (λ (m : ℕ). slot_of (key m)) (sym e)) (ap (λ (m : ℕ). m + 1) (sym e))
            (sym (ap (λ (m : ℕ). get_or (set (set next n 0) k (n + 1)) m 0) e ∙ get_or-set_same (set next n 0) k (n + 1) 0 w))
            (link-last (slot_of (key n)) (k + 1) n 0 ends refl (omega arith) refl)
        next-on j b (no d) (yes h) =
            link-as refl refl (sym (get_or-set_other (set next n 0) k j (n + 1) 0 d ∙ get_or-set_other next n j 0 0 (λ e. absurd (omega arith))))
            (link-kept (slot_of (key j)) (j + 1) n _ (c.tail j (omega arith) h) (λ e. goes_on (sym e) (dec_lt j k)))
          where
            goes_on : slot_of (key j) ≡ slot_of (key n) → Dec (j < k) → 0 < get_or next j 0
            goes_on e (yes l) = ((c.tail j (omega arith) h).least k (omega arith) within (same ∙ sym e)).0
            goes_on e (no l) = absurd (omega (arith, (ends.least j (omega arith) h e).0))
        next-on j b (no d) (no h) =
            let q : j ≡ n = omega arith in
            link-as refl refl
            (sym (get_or-set_other (set next n 0) k j (n + 1) 0 d ∙ ap (λ (m : ℕ). get_or (set next n 0) m 0) q ∙ get_or-set_same next n 0 0 room))
            (link-none (slot_of (key j)) (j + 1) (n + 1) (omega arith))

-- ---- the end of a chain
module _ (key : ℕ → ℕ) (n : ℕ) (heads next : List ℕ) (c : Chained key 0 n heads next) where
  module _ (k at : ℕ) (h : k < n) (e : at ≡ get_or next k 0) (p : 0 < at) where
    onward : Link key (slot_of (key k)) (k + 1) n at
    onward = link-as key refl refl (sym e) (c.tail k (omega arith) h)

    pub onward-in : at - 1 < n
    onward-in = omega (arith, onward.within)

    pub onward-slot : (i : ℕ) → slot_of (key k) ≡ slot_of (key i) → slot_of (key (at - 1)) ≡ slot_of (key i)
    onward-slot i s = onward.slot p ∙ s

    pub onward-less : n - (at - 1) < n - k
    onward-less = omega (arith, onward.behind p, onward.within)

  pub chain-ends : (k at : ℕ) → at ≡ get_or next k 0 → at ≤ 0 → get_or next k 0 ≡ 0
  chain-ends k at e z = omega arith

  -- the head of the slot of the place n, which is to be chained
  module _ (h : ℕ) (e : h ≡ get_or heads (slot_of (key n)) 0) (room : n < length next) where
    pub head_in : 0 < h → h - 1 < n
    head_in p = omega (arith, (c.head (slot_of (key n)) (slot-below (key n))).within)

    pub append-first : h ≤ 0 → (heads' next' : List ℕ) → heads' ≡ set heads (slot_of (key n)) (n + 1) → next' ≡ set next n (get_or heads (slot_of (key n)) 0)
        → Chained key 0 (n + 1) heads' next'
    append-first z heads' next' a b =
        let none : get_or heads (slot_of (key n)) 0 ≡ 0 = omega arith in
        rw (a, b ∙ ap (set next n) none) (chained-first key n heads next c room none)

    pub append-last : 0 < h → (k : ℕ) → k < n → slot_of (key k) ≡ slot_of (key (h - 1)) → get_or next k 0 ≡ 0 → (next' : List ℕ) → next' ≡ set (set next n 0) k (n + 1)
        → Chained key 0 (n + 1) heads next'
    append-last p k w s none next' b =
        let first : slot_of (key (h - 1)) ≡ slot_of (key n) = (link-as key refl refl (sym e) (c.head (slot_of (key n)) (slot-below (key n)))).slot p in
        rw b (chained-join key n heads next c room k w (s ∙ first) none)

-- one place more or none
pub follow-more : (key : ℕ → ℕ) (n m : ℕ) (heads next : List ℕ) → Chained key 0 (n + 1) heads next → n < m → m ≤ n + 1 → Chained key 0 m heads next
follow-more key n m heads next c a b = let e : n + 1 ≡ m = omega arith in subst (λ (i : ℕ). Chained key 0 i heads next) e c

pub follow-none : (key : ℕ → ℕ) (n m : ℕ) (heads next : List ℕ) → Chained key 0 n heads next → m ≤ n → n ≤ m → Chained key 0 m heads next
follow-none key n m heads next c a b = let e : n ≡ m = omega arith in subst (λ (i : ℕ). Chained key 0 i heads next) e c

-- ---- other rows with the same keys
module _ (key other : ℕ → ℕ) (n : ℕ) (same : (j : ℕ) → j < n → key j ≡ other j) where
  link-same : (s i at : ℕ) → Link key s i n at → Link other s i n at
  link-same s i at l =
      record {
        behind = l.behind;
        within = l.within;
        slot = λ p. let h : at - 1 < n = omega (arith, l.within) in ap slot_of (sym (same (at - 1) h)) ∙ l.slot p;
        least = λ j a b e. l.least j a b (ap slot_of (same j b) ∙ e);
      }

  pub chained_same : (heads next : List ℕ) → Chained key 0 n heads next → Chained other 0 n heads next
  chained_same heads next c =
      record {
        slots = c.slots;
        room = c.room;
        head = λ s h. link-same s 0 _ (c.head s h);
        tail = λ j a b. rw (← same j b) (link-same (slot_of (key j)) (j + 1) _ (c.tail j a b));
      }
