-- Laws of tables of a function's values, and of searches, at any element type.
use Rattle.std.specs.Prelude.{Option, Some, None}
use mathlib.Core.Path.{◌≡◌, refl, sym, ap, ◌∙◌}
use mathlib.Core.Logic.{◌≢◌}
use mathlib.Core.Bool.{Bool, true, false, cond, ◌&&◌}
use mathlib.Core.List.{List, [], ◌∷◌, ◌++◌, map, map-append, append-nil}
use Prim.Native.Nat.{ℕ, zero, suc, ◌+◌, ◌<◌, ◌≤◌}
use native.Mathlib.Nat.{add-zero, zero-add}
use native.Mathlib.Numerals.{add-one}
use native.Mathlib.Decide.{dec_lt, ℕ_discrete}
use native.Mathlib.Omega.{arith}
use lib.ListN.{length, take, drop, get_or, set, length-append, length-set, drop_of_length-le, get_or-append, length-map, length-drop}
use lib.Seq.{append_snoc, set_at, length-take-le, take_all, take-suc, drop-cons, get_or_at, ext_get_or, get_or-set_same, get_or-set_other}
use Rattle.lists.specs.Lists.{tab, first_from, is_found, all_from}
use Rattle.texts.proofs.Tests.{and_left, and_right, no-claim}

-- ---- tables of a function's values

pub length-tab : {A : Type 0} (n : ℕ) (f : ℕ → A) → length (tab n f) ≡ n
unfolding tab
length-tab zero f = refl
length-tab (suc n) f = length-append (tab n f) (f n ∷ []) ∙ omega (arith, length-tab n f)

pub get_d-tab : {A : Type 0} (n : ℕ) (f : ℕ → A) (i : ℕ) (z : A) → i < n → get_or (tab n f) i z ≡ f i
unfolding tab
get_d-tab zero f i z h = absurd (omega arith)
get_d-tab (suc n) f i z h = pick (λ l. get_d-tab n f i z l) (dec_lt i n)
  where
    pick : (i < n → get_or (tab n f) i z ≡ f i) → Dec (i < n) → get_or (tab n f ++ (f n ∷ [])) i z ≡ f i
    pick up (yes l) = get_or-append (tab n f) (f n ∷ []) z i (omega (arith, length-tab n f)) ∙ up l
    pick up (no g) =
        let e : i ≡ n = omega arith in
        ap (λ (k : ℕ). get_or (tab n f ++ (f n ∷ [])) k z) e ∙ get_or_at (tab n f) (f n) [] z n (length-tab n f) ∙ ap f (sym e)

pub map-tab : {A B : Type 0} (n : ℕ) (f : ℕ → A) (g : A → B) → map g (tab n f) ≡ tab n (λ k. g (f k))
unfolding tab
map-tab zero f g = refl
map-tab (suc n) f g = map-append g (tab n f) (f n ∷ []) ∙ ap (λ (l : List _). l ++ (g (f n) ∷ [])) (map-tab n f g)

pub tab-same : {A : Type 0} (n : ℕ) (f g : ℕ → A) → ((i : ℕ) → i < n → f i ≡ g i) → tab n f ≡ tab n g
unfolding tab
tab-same zero f g e = refl
tab-same (suc n) f g e =
    ap (λ (l : List _). l ++ (f n ∷ [])) (tab-same n f g (λ i h. e i (omega arith)))
    ∙ ap (λ (x : _). tab n g ++ (x ∷ [])) (e n (omega arith))

-- a table that differs at i alone
pub tab-set : {A : Type 0} (n : ℕ) (f g : ℕ → A) (i : ℕ) → i < n → ((j : ℕ) → j ≢ i → g j ≡ f j) → tab n g ≡ set (tab n f) i (g i)
tab-set n f g i h other =
    ext_get_or (g 0) (tab n g) (set (tab n f) i (g i))
    (length-tab n g ∙ sym (length-set (tab n f) i (g i) ∙ length-tab n f))
    (λ j l. at j (omega (arith, length-tab n g)))
  where
    at : (j : ℕ) → j < n → get_or (tab n g) j (g 0) ≡ get_or (set (tab n f) i (g i)) j (g 0)
    at j l = pick (ℕ_discrete j i)
      where
        pick : Dec (j ≡ i) → get_or (tab n g) j (g 0) ≡ get_or (set (tab n f) i (g i)) j (g 0)
        pick (yes e) =
            get_d-tab n g j (g 0) l ∙ ap g e
            ∙ sym (get_or-set_same (tab n f) i (g i) (g 0) (omega (arith, length-tab n f)))
            ∙ ap (λ (k : ℕ). get_or (set (tab n f) i (g i)) k (g 0)) (sym e)
        pick (no d) =
            get_d-tab n g j (g 0) l ∙ other j d
            ∙ sym (get_or-set_other (tab n f) i j (g i) (g 0) d ∙ get_d-tab n f j (g 0) l)

-- a table of a list's own elements
pub tab-take : {A : Type 0} (n : ℕ) (l : List A) (z : A) → n ≤ length l → tab n (λ i. get_or l i z) ≡ take n l
unfolding tab
tab-take zero l z h = refl
tab-take (suc n) l z h = ap (λ (m : List _). m ++ (get_or l n z ∷ [])) (tab-take n l z (omega arith)) ∙ sym (take-suc l n z (omega arith))

tab-all : {A : Type 0} (n : ℕ) (l : List A) (z : A) → length l ≡ n → l ≡ tab n (λ i. get_or l i z)
tab-all n l z h = sym (tab-take n l z (omega arith) ∙ take_all n l (omega arith))

pub map-set : {A B : Type 0} (f : A → B) (l : List A) (i : ℕ) (a : A) → map f (set l i a) ≡ set (map f l) i (f a)
map-set f [] i a = refl
map-set f (x ∷ l) zero a = refl
map-set f (x ∷ l) (suc i) a = ap (λ (m : List _). f x ∷ m) (map-set f l i a)

-- a list of n elements, n written out
pub list-six : {A : Type 0} (l : List A) (z : A) → length l ≡ 6 → get_or l 0 z ∷ get_or l 1 z ∷ get_or l 2 z ∷ get_or l 3 z ∷ get_or l 4 z ∷ get_or l 5 z ∷ [] ≡ l
unfolding tab
list-six l z h = sym (tab-all 6 l z h)

pub list-three : {A : Type 0} (l : List A) (z : A) → length l ≡ 3 → get_or l 0 z ∷ get_or l 1 z ∷ get_or l 2 z ∷ [] ≡ l
unfolding tab
list-three l z h = sym (tab-all 3 l z h)

-- within a list the default does not matter
pub get_d-other : {A : Type 0} (l : List A) (i : ℕ) (y z : A) → i < length l → get_or l i y ≡ get_or l i z
get_d-other [] i y z h = absurd (omega arith)
get_d-other (x ∷ l) zero y z h = refl
get_d-other (x ∷ l) (suc i) y z h = get_d-other l i y z (omega arith)

-- ---- the first element that fits: a loop that has passed i elements
module _ {A : Type 0} (p : A → Bool) (i : ℕ) (l : List A) (z : A) where
  search-turn : i < length l → first_from p i (drop i l) ≡ cond (p (get_or l i z)) (Some i) (first_from p (i + 1) (drop (i + 1) l))
  unfolding first_from
  search-turn h =
      ap (first_from p i) (drop-cons l i z h)
      ∙ ap (λ (k : ℕ). cond (p (get_or l i z)) (Some i) (first_from p (i + 1) (drop k l))) (sym (add-one i))

  pub search-hit : i < length l → p (get_or l i z) ≡ true → first_from p i (drop i l) ≡ Some i
  search-hit h e = search-turn h ∙ rw e

  pub search-miss : i < length l → p (get_or l i z) ≡ false → first_from p i (drop i l) ≡ first_from p (i + 1) (drop (i + 1) l)
  search-miss h e = search-turn h ∙ rw e

  pub search-end : length l ≤ i → first_from p i (drop i l) ≡ None
  unfolding first_from
  search-end h = rw (drop_of_length-le l h)

-- ---- what a search gives
-- nothing is no place
pub nowhere : {k : ℕ} {A : Type 0} → None ≡ Some k → A
nowhere q = let z : ◌≡◌ {A = ℕ} 0 1 = cc in absurd (omega arith)

pub place : {i k : ℕ} → Some i ≡ Some k → i ≡ k
place q = cc

pub found_at : (f : Option ℕ) → is_found f ≡ true → (a : ℕ) × (f ≡ Some a)
found_at (Some a) h = (a, refl)
found_at None h = no-claim h

pub is-nothing : (f : Option ℕ) → is_found f ≡ false → f ≡ None
is-nothing None h = refl
is-nothing (Some a) h = no-claim (sym h)

module _ {A : Type 0} (p : A → Bool) where
  -- what a search finds is within the list
  pub search-within : (i : ℕ) (l : List A) (k : ℕ) → first_from p i l ≡ Some k → k < i + length l
  unfolding first_from
  search-within i [] k e = nowhere e
  search-within i (y ∷ ys) k e = go (p y) (λ q. search-within (i + 1) ys k q) e
    where
      go : (b : Bool) → (first_from p (i + 1) ys ≡ Some k → k < i + 1 + length ys) → cond b (Some i) (first_from p (i + 1) ys) ≡ Some k → k < i + suc (length ys)
      go true up q = omega (arith, place q)
      go false up q = omega (arith, up q)

  pub search-from : (i : ℕ) (l : List A) (k : ℕ) → first_from p i l ≡ Some k → i ≤ k
  unfolding first_from
  search-from i [] k e = nowhere e
  search-from i (y ∷ ys) k e = go (p y) (λ q. search-from (i + 1) ys k q) e
    where
      go : (b : Bool) → (first_from p (i + 1) ys ≡ Some k → i + 1 ≤ k) → cond b (Some i) (first_from p (i + 1) ys) ≡ Some k → i ≤ k
      go true up q = omega (arith, place q)
      go false up q = omega (arith, up q)

  fits-from : (i : ℕ) (l : List A) (j : ℕ) (z : A) → first_from p i l ≡ Some (i + j) → p (get_or l j z) ≡ true
  unfolding first_from
  fits-from i [] j z e = nowhere e
  fits-from i (y ∷ ys) zero z e = go (p y) refl e
    where
      go : (b : Bool) → p y ≡ b → cond b (Some i) (first_from p (i + 1) ys) ≡ Some (i + 0) → p y ≡ true
      go true h q = h
      go false h q = absurd (omega (arith, search-from (i + 1) ys (i + 0) q))
  fits-from i (y ∷ ys) (suc j) z e = go (p y) (λ q. fits-from (i + 1) ys j z q) e
    where
      go : (b : Bool) → (first_from p (i + 1) ys ≡ Some (i + 1 + j) → p (get_or ys j z) ≡ true) → cond b (Some i) (first_from p (i + 1) ys) ≡ Some (i + suc j) → p (get_or ys j z) ≡ true
      go true up q = absurd (omega (arith, place q))
      go false up q = let s : i + suc j ≡ i + 1 + j = omega arith in up (q ∙ ap Some s)

  none_from : (i : ℕ) (l : List A) (z : A) → first_from p i l ≡ None → (j : ℕ) → j < length l → p (get_or l j z) ≡ false
  unfolding first_from
  none_from i [] z e j h = absurd (omega arith)
  none_from i (y ∷ ys) z e zero h = go (p y) refl e
    where
      go : (b : Bool) → p y ≡ b → cond b (Some i) (first_from p (i + 1) ys) ≡ None → p y ≡ false
      go true s q = nowhere (sym q)
      go false s q = s
  none_from i (y ∷ ys) z e (suc j) h = go (p y) (λ q. none_from (i + 1) ys z q j (omega arith)) e
    where
      go : (b : Bool) → (first_from p (i + 1) ys ≡ None → p (get_or ys j z) ≡ false) → cond b (Some i) (first_from p (i + 1) ys) ≡ None → p (get_or ys j z) ≡ false
      go true up q = nowhere (sym q)
      go false up q = up q

  module _ (l : List A) (z : A) where
    -- what is found fits, nothing is found where nothing fits, and something where something does
    pub found-fits : {k : ℕ} → first_from p 0 l ≡ Some k → p (get_or l k z) ≡ true
    found-fits {k} e = fits-from 0 l k z (rw zero-add e)

    pub found_none : first_from p 0 l ≡ None → (i : ℕ) → i < length l → p (get_or l i z) ≡ false
    found_none e = none_from 0 l z e

    pub found_some : (i : ℕ) → i < length l → p (get_or l i z) ≡ true → is_found (first_from p 0 l) ≡ true
    found_some i h y = go (first_from p 0 l) refl
      where
        go : (f : Option ℕ) → first_from p 0 l ≡ f → is_found f ≡ true
        go (Some k) e = refl
        go None e = let q : true ≡ false = sym y ∙ found_none e i h in sym q

  -- what is found is the first that fits
  pub search-least : (i : ℕ) (l : List A) (z : A) (k : ℕ) → first_from p i l ≡ Some k → (j : ℕ) → j < length l → p (get_or l j z) ≡ true → k ≤ i + j
  unfolding first_from
  search-least i [] z k e j h y = absurd (omega arith)
  search-least i (x ∷ xs) z k e j h y = go (p x) refl (λ q n b t. search-least (i + 1) xs z k q n b t) e j h y
    where
      go : (b : Bool) → p x ≡ b → (first_from p (i + 1) xs ≡ Some k → (n : ℕ) → n < length xs → p (get_or xs n z) ≡ true → k ≤ i + 1 + n)
          → cond b (Some i) (first_from p (i + 1) xs) ≡ Some k → (j : ℕ) → j < suc (length xs) → p (get_or (x ∷ xs) j z) ≡ true → k ≤ i + j
      go true s up q j h y = omega (arith, place q)
      go false s up q zero h y = no-claim (sym s ∙ y)
      go false s up q (suc j) h y = omega (arith, up q j (omega arith) y)

  -- elements behind those searched: what was found stays, and what was not may be the one more
  pub search-more : (i : ℕ) (l m : List A) (k : ℕ) → first_from p i l ≡ Some k → first_from p i (l ++ m) ≡ Some k
  unfolding first_from
  search-more i [] m k e = nowhere e
  search-more i (y ∷ ys) m k e = go (p y) (λ q. search-more (i + 1) ys m k q) e
    where
      go : (b : Bool) → (first_from p (i + 1) ys ≡ Some k → first_from p (i + 1) (ys ++ m) ≡ Some k) → cond b (Some i) (first_from p (i + 1) ys) ≡ Some k → cond b (Some i) (first_from p (i + 1) (ys ++ m)) ≡ Some k
      go true up q = q
      go false up q = up q

  pub search-last : (i : ℕ) (l : List A) (x : A) → first_from p i l ≡ None → p x ≡ true → first_from p i (l ++ (x ∷ [])) ≡ Some (i + length l)
  unfolding first_from
  search-last i [] x e h = rw h (ap Some (sym (add-zero i)))
  search-last i (y ∷ ys) x e h = go (p y) (λ q. search-last (i + 1) ys x q h) e
    where
      go : (b : Bool) → (first_from p (i + 1) ys ≡ None → first_from p (i + 1) (ys ++ (x ∷ [])) ≡ Some (i + 1 + length ys))
          → cond b (Some i) (first_from p (i + 1) ys) ≡ None → cond b (Some i) (first_from p (i + 1) (ys ++ (x ∷ []))) ≡ Some (i + suc (length ys))
      go true up q = nowhere (sym q)
      go false up q = up q ∙ ap Some (omega arith)

-- ---- a test of every element: a loop that has passed i elements
module _ {A : Type 0} (p : ℕ → A → Bool) (i : ℕ) (l : List A) (z : A) where
  all-turn : i < length l → all_from p i (drop i l) ≡ p i (get_or l i z) && all_from p (i + 1) (drop (i + 1) l)
  unfolding all_from
  all-turn h =
      ap (all_from p i) (drop-cons l i z h)
      ∙ ap (λ (k : ℕ). p i (get_or l i z) && all_from p (i + 1) (drop k l)) (sym (add-one i))

  pub all_more : i < length l → p i (get_or l i z) ≡ true → all_from p i (drop i l) ≡ all_from p (i + 1) (drop (i + 1) l)
  all_more h e = all-turn h ∙ rw e

  pub all-not : i < length l → p i (get_or l i z) ≡ false → all_from p i (drop i l) ≡ false
  all-not h e = all-turn h ∙ rw e

  pub all_end : length l ≤ i → all_from p i (drop i l) ≡ true
  unfolding all_from
  all_end h = rw (drop_of_length-le l h)

all-from : {A : Type 0} (p : ℕ → A → Bool) (i : ℕ) (l : List A) (z : A) → all_from p i l ≡ true → (j : ℕ) → j < length l → p (i + j) (get_or l j z) ≡ true
unfolding all_from
all-from p i [] z e j h = absurd (omega arith)
all-from p i (y ∷ ys) z e zero h = rw add-zero (and_left (p i y) (all_from p (i + 1) ys) e)
all-from p i (y ∷ ys) z e (suc j) h =
    let s : i + suc j ≡ i + 1 + j = omega arith in
    rw s (all-from p (i + 1) ys z (and_right (p i y) (all_from p (i + 1) ys) e) j (omega arith))

pub all-at : {A : Type 0} (p : ℕ → A → Bool) (l : List A) (z : A) (i : ℕ) → all_from p 0 l ≡ true → i < length l → p i (get_or l i z) ≡ true
all-at p l z i e h = ap (λ (k : ℕ). p k (get_or l i z)) (sym (zero-add i)) ∙ all-from p 0 l z e i h

-- and back: a test that holds at each place holds of all
all-of-from : {A : Type 0} (p : ℕ → A → Bool) (i : ℕ) (l : List A) (z : A) → ((j : ℕ) → j < length l → p (i + j) (get_or l j z) ≡ true) → all_from p i l ≡ true
unfolding all_from
all-of-from p i [] z f = refl
all-of-from p i (y ∷ ys) z f =
    rw (ap (λ (n : ℕ). p n y) (sym (add-zero i)) ∙ f 0 (omega arith))
    (all-of-from p (i + 1) ys z (λ j h. ap (λ (n : ℕ). p n (get_or ys j z)) (next j) ∙ f (suc j) (omega arith)))
  where
    next : (j : ℕ) → i + 1 + j ≡ i + suc j
    next j = omega arith

pub all_of : {A : Type 0} (p : ℕ → A → Bool) (l : List A) (z : A) → ((i : ℕ) → i < length l → p i (get_or l i z) ≡ true) → all_from p 0 l ≡ true
all_of p l z f = all-of-from p 0 l z (λ j h. ap (λ (k : ℕ). p k (get_or l j z)) (zero-add j) ∙ f j h)

-- ---- a turn of a loop that maps a list in place: the first i elements are mapped

module _ {A : Type 0} (f : A → A) (l : List A) (i : ℕ) (z : A) (h : i < length l) where
  mapped-size : length (map f (take i l)) ≡ i
  mapped-size = length-map (take i l) f ∙ length-take-le i l (omega arith)

  pub partly-get : get_or (map f (take i l) ++ drop i l) i z ≡ get_or l i z
  partly-get =
      ap (λ (m : List A). get_or (map f (take i l) ++ m) i z) (drop-cons l i z h)
      ∙ get_or_at (map f (take i l)) (get_or l i z) (drop (suc i) l) z i mapped-size

  pub partly-turn : set (map f (take i l) ++ drop i l) i (f (get_or l i z)) ≡ map f (take (i + 1) l) ++ drop (i + 1) l
  partly-turn =
      ap (λ (m : List A). set (map f (take i l) ++ m) i (f (get_or l i z))) (drop-cons l i z h)
      ∙ set_at (map f (take i l)) (get_or l i z) (drop (suc i) l) (f (get_or l i z)) i mapped-size
      ∙ sym (append_snoc (map f (take i l)) (f (get_or l i z)) (drop (suc i) l))
      ∙ ap (λ (m : List A). m ++ drop (suc i) l) (sym (ap (map f) (take-suc l i z h) ∙ map-append f (take i l) (get_or l i z ∷ [])))
      ∙ ap (λ (k : ℕ). map f (take k l) ++ drop k l) (sym (add-one i))

  pub partly-size : length (map f (take i l) ++ drop i l) ≡ length l
  partly-size = length-append (map f (take i l)) (drop i l) ∙ omega (arith, mapped-size, length-drop i l)

pub partly-all : {A : Type 0} (f : A → A) (l : List A) (i : ℕ) → length l ≤ i → map f (take i l) ++ drop i l ≡ map f l
partly-all f l i h = rw (take_all i l h, drop_of_length-le l h) (append-nil (map f l))
