-- What a line's turn looks at: fields to the fifth, each to 31 bytes, and the parameters of an R to 2,049. A line cut to that has the same turn.
use Rattle.std.specs.Prelude.{Option, Some, None}
use Prim.Native.Nat.{ℕ, zero, suc, ◌≤◌, ◌<◌}
use native.Mathlib.Nat.{le_of_suc-le-suc, not-suc-le-zero}
use native.Mathlib.Decide.{dec_lt}
use native.Mathlib.Omega.{arith}
use mathlib.Core.Path.{◌≡◌, refl, sym, ap, ◌∙◌}
use mathlib.Core.List.{List, [], ◌∷◌}
use mathlib.Core.Bool.{true, false, cond, not, ◌&&◌, and-false}
use lib.Dec.{leb, eqb, leb-zero, leb-suc-suc}
use lib.ListN.{length, get_or, take, replicate}
use lib.Seq.{take_all, length-take-le, take-nil}
use borrow.Author.Tests.{le-leb, lt-leb, eq-eqb, ne_eqb, eqb-true, eqb-false, leb-true, leb-false}
use Rattle.texts.proofs.Tests.{by-test}
use Rattle.texts.specs.Lists.{find, eq_list}
use Rattle.texts.specs.Digits.{digits_read, range_read}
use Rattle.fields.specs.Codes.{kind_read}
use Rattle.fields.specs.Number.{is_number_text, number_read}
use Rattle.days.specs.Calendar.{day_read}
use Rattle.dates.specs.Date.{date_day, date_read}
use Rattle.coding.specs.Params.{longer, split_at}
use Rattle.payments.specs.declared.Action.TheVariants.{Check}
use Rattle.message.specs.declared.request.Fault.TheVariants.{Malformed}
use Rattle.message.specs.Request.{refused, request_read}
use Rattle.table.specs.declared.Gate.{Gate}
use Rattle.table.specs.Table.{Rows}
use Rattle.gate.specs.Deliver.{deliver}
use Rattle.orders.specs.Order.{Console}
use Rattle.orders.specs.Order.{clock_in, start_turn, open_turn, draw_of, draw_turn, ask_turn, list_turn, order_turn, line_turn}
use Rattle.line_fields.specs.LineFields.{field_count, field_at, has_letter, after_space, params_in}

-- ---- a line cut: m bytes of this field, 31 of each of the fields up to the jth space, and of the rest what e leaves
unfoldable pub kept : (List ℕ → List ℕ) → ℕ → List ℕ → ℕ → List ℕ
kept e zero s m = e s
kept e (suc j) [] m = []
kept e (suc j) (b ∷ s) zero = cond (eqb b 32) (32 ∷ kept e j s 31) (kept e (suc j) s zero)
kept e (suc j) (b ∷ s) (suc m) = cond (eqb b 32) (32 ∷ kept e j s 31) (b ∷ kept e (suc j) s m)

-- the fifth field and all behind it: m bytes, and no space
unfoldable pub joined : ℕ → List ℕ → List ℕ
joined m [] = []
joined zero (b ∷ s) = joined zero s
joined (suc m) (b ∷ s) = cond (eqb b 32) (joined (suc m) s) (b ∷ joined m s)

-- ---- the pieces of a text
longer-first : (b : ℕ) (ps : List (List ℕ)) → get_or (longer b ps) 0 [] ≡ b ∷ get_or ps 0 []
longer-first b [] = refl
longer-first b (p ∷ ps) = refl

longer-later : (b i : ℕ) (ps : List (List ℕ)) → get_or (longer b ps) (suc i) [] ≡ get_or ps (suc i) []
longer-later b i [] = refl
longer-later b i (p ∷ ps) = refl

longer-count : (b : ℕ) (ps : List (List ℕ)) → 0 < length ps → length (longer b ps) ≡ length ps
longer-count b [] h = absurd (not-suc-le-zero h)
longer-count b (p ∷ ps) h = refl

longer-some : (b : ℕ) (ps : List (List ℕ)) → 0 < length (longer b ps)
longer-some b [] = omega arith
longer-some b (p ∷ ps) = omega arith

pub split-some : (c : ℕ) (s : List ℕ) → 0 < length (split_at c s)
unfolding split_at
split-some c [] = omega arith
split-some c (b ∷ s) = by-test (eqb b c) (λ h. rw h (omega arith)) (λ h. rw h (longer-some b (split_at c s)))

module _ (b : ℕ) (s : List ℕ) where
  module _ (h : eqb b 32 ≡ true) where
    space-split : split_at 32 (b ∷ s) ≡ [] ∷ split_at 32 s
    unfolding split_at
    space-split = rw h

    space-after : after_space (b ∷ s) ≡ s
    unfolding find
    space-after = rw h

  module _ (h : eqb b 32 ≡ false) where
    byte-first : field_at 0 (b ∷ s) ≡ b ∷ field_at 0 s
    unfolding split_at
    byte-first = rw h (longer-first b (split_at 32 s))

    byte-later : (i : ℕ) → field_at (suc i) (b ∷ s) ≡ field_at (suc i) s
    unfolding split_at
    byte-later i = rw h (longer-later b i (split_at 32 s))

    byte-count : field_count (b ∷ s) ≡ field_count s
    unfolding split_at
    byte-count = rw h (longer-count b (split_at 32 s) (split-some 32 s))

    byte-after : after_space (b ∷ s) ≡ after_space s
    unfolding find
    byte-after = rw h

-- ---- the fields of a cut line
module _ (e : List ℕ → List ℕ) where
  module _ (j b : ℕ) (s : List ℕ) where
    kept-space : (m : ℕ) → eqb b 32 ≡ true → kept e (suc j) (b ∷ s) m ≡ 32 ∷ kept e j s 31
    unfolding kept
    kept-space zero h = rw h
    kept-space (suc m) h = rw h

    kept_byte : (m : ℕ) → eqb b 32 ≡ false → kept e (suc j) (b ∷ s) (suc m) ≡ b ∷ kept e (suc j) s m
    unfolding kept
    kept_byte m h = rw h

    kept_full : eqb b 32 ≡ false → kept e (suc j) (b ∷ s) zero ≡ kept e (suc j) s zero
    unfolding kept
    kept_full h = rw h

  -- what does not look at the bytes of this field passes over them
  kept-pass : {A : Type 0} (o : List ℕ → A) (x : A) (j b : ℕ) (s : List ℕ) (m : ℕ) → eqb b 32 ≡ false → ((u : List ℕ) → o (b ∷ u) ≡ o u)
      → ((n : ℕ) → o (kept e (suc j) s n) ≡ x) → o (kept e (suc j) (b ∷ s) m) ≡ x
  kept-pass o x j b s zero h f g = ap o (kept_full j b s h) ∙ g zero
  kept-pass o x j b s (suc m) h f g = ap o (kept_byte j b s m h) ∙ f (kept e (suc j) s m) ∙ g m

  -- each field before the jth space is cut at 31 bytes, this one at m
  kept-first : (j : ℕ) (s : List ℕ) (m : ℕ) → field_at 0 (kept e (suc j) s m) ≡ take m (field_at 0 s)
  unfolding split_at kept
  kept-first j [] m = sym (take-nil m)
  kept-first j (b ∷ s) zero =
      by-test (eqb b 32) (λ h. rw (kept-space j b s zero h)) (λ h. rw (kept_full j b s h) (kept-first j s zero))
  kept-first j (b ∷ s) (suc m) =
      by-test (eqb b 32) (λ h. rw (kept-space j b s (suc m) h, space-split b s h))
      (λ h. rw (kept_byte j b s m h, byte-first b (kept e (suc j) s m) h, byte-first b s h, kept-first j s m))

  kept-later : (i j : ℕ) (s : List ℕ) (m : ℕ) → i < j → field_at (suc i) (kept e (suc j) s m) ≡ take 31 (field_at (suc i) s)
  unfolding split_at kept
  kept-later i j [] m l = refl
  kept-later i zero (b ∷ s) m l = absurd (not-suc-le-zero l)
  kept-later zero (suc j) (b ∷ s) m l =
      by-test (eqb b 32) (λ h. rw (kept-space (suc j) b s m h, space-split b s h) (kept-first j s 31))
      (λ h. kept-pass (field_at 1) (take 31 (field_at 1 (b ∷ s))) (suc j) b s m h (λ u. byte-later b u h 0)
      (λ n. kept-later 0 (suc j) s n l ∙ ap (take 31) (sym (byte-later b s h 0))))
  kept-later (suc i) (suc j) (b ∷ s) m l =
      by-test (eqb b 32) (λ h. rw (kept-space (suc j) b s m h, space-split b s h) (kept-later i j s 31 (le_of_suc-le-suc l)))
      (λ h. kept-pass (field_at (suc (suc i))) (take 31 (field_at (suc (suc i)) (b ∷ s))) (suc j) b s m h (λ u. byte-later b u h (suc i))
      (λ n. kept-later (suc i) (suc j) s n l ∙ ap (take 31) (sym (byte-later b s h (suc i)))))

  pub kept_field : (i j : ℕ) (s : List ℕ) → i < j → field_at i (kept e j s 31) ≡ take 31 (field_at i s)
  kept_field i zero s l = absurd (not-suc-le-zero l)
  kept_field zero (suc j) s l = kept-first j s 31
  kept_field (suc i) (suc j) s l = kept-later i j s 31 (le_of_suc-le-suc l)

  -- as many fields, up to j + 1
  pub kept-count : (i j : ℕ) (s : List ℕ) (m : ℕ) → i ≤ suc j → leb i (field_count (kept e j s m)) ≡ leb i (field_count s)
  unfolding split_at kept
  kept-count zero j s m l = leb-zero (field_count (kept e j s m)) ∙ sym (leb-zero (field_count s))
  kept-count (suc i) zero s m l =
      le-leb (suc i) (field_count (e s)) (omega (arith, split-some 32 (e s))) ∙ sym (le-leb (suc i) (field_count s) (omega (arith, split-some 32 s)))
  kept-count (suc i) (suc j) [] m l = refl
  kept-count (suc i) (suc j) (b ∷ s) m l =
      by-test (eqb b 32)
      (λ h. rw (kept-space j b s m h, space-split b s h)
      (leb-suc-suc i (field_count (kept e j s 31)) ∙ kept-count i j s 31 (le_of_suc-le-suc l) ∙ sym (leb-suc-suc i (field_count s))))
      (λ h. kept-pass (λ u. leb (suc i) (field_count u)) (leb (suc i) (field_count (b ∷ s))) j b s m h (λ u. ap (leb (suc i)) (byte-count b u h))
      (λ n. kept-count (suc i) (suc j) s n l ∙ ap (leb (suc i)) (sym (byte-count b s h))))

  -- the rest behind a space
  module _ (none : e [] ≡ []) where
    kept-nil : (j m : ℕ) → kept e j [] m ≡ []
    unfolding kept
    kept-nil zero m = none
    kept-nil (suc j) m = refl

    pub kept-after : (j : ℕ) (s : List ℕ) (m : ℕ) → after_space (kept e (suc j) s m) ≡ kept e j (after_space s) 31
    unfolding find kept
    kept-after j [] m = sym (kept-nil j 31)
    kept-after j (b ∷ s) m =
        by-test (eqb b 32) (λ h. rw (kept-space j b s m h, space-after b s h))
        (λ h. kept-pass after_space (kept e j (after_space (b ∷ s)) 31) j b s m h (λ u. byte-after b u h)
        (λ n. kept-after j s n ∙ ap (λ (u : List ℕ). kept e j u 31) (sym (byte-after b s h))))

    kept-params : (s : List ℕ) (m : ℕ) → params_in (kept e 2 s m) ≡ e (params_in s)
    unfolding kept
    kept-params s m = ap after_space (kept-after 1 s m) ∙ kept-after 0 (after_space s) 31

-- ---- readers of a cut text: one that answers all long texts alike does not see the cut
pub cut-read : {A : Type 0} (f : List ℕ → A) (z : A) (n : ℕ) → ((s : List ℕ) → n ≤ length s → f s ≡ z) → (s : List ℕ) → f (take n s) ≡ f s
cut-read f z n alike s = pick (dec_lt (length s) n)
  where
    pick : Dec (length s < n) → f (take n s) ≡ f s
    pick (yes l) = ap f (take_all n s (omega arith))
    pick (no g) =
        let k : n ≤ length s = omega arith in
        let w : n ≤ length (take n s) = omega (arith, length-take-le n s k) in
        alike (take n s) w ∙ sym (alike s k)

letter-cut : (x : ℕ) (s : List ℕ) → eq_list (take 31 s) (x ∷ []) ≡ eq_list s (x ∷ [])
unfolding eq_list
letter-cut x [] = refl
letter-cut x (a ∷ []) = refl
letter-cut x (a ∷ (b ∷ s)) = refl

long-digits : (most : ℕ) (s : List ℕ) → most < length s → digits_read most s ≡ None
unfolding digits_read
long-digits most s h = rw (lt-leb (length s) most h, and-false)

digits-cut : (most : ℕ) → most < 31 → (s : List ℕ) → digits_read most (take 31 s) ≡ digits_read most s
digits-cut most h = cut-read (digits_read most) None 31 (λ u l. long-digits most u (omega arith))

kind-cut : (s : List ℕ) → kind_read (take 31 s) ≡ kind_read s
unfolding range_read
kind-cut s = rw (digits-cut 3 (omega arith) s)

number_cut : (s : List ℕ) → number_read (take 31 s) ≡ number_read s
unfolding number_read is_number_text
number_cut = cut-read number_read None 31 (λ u l. rw (lt-leb (length u) 30 l, and-false))

day-cut : (s : List ℕ) → day_read (take 31 s) ≡ day_read s
unfolding day_read
day-cut = cut-read day_read None 31 (λ u l. rw (ne_eqb (length u) 10 (λ q. absurd (omega arith))))

date-cut : (s : List ℕ) → date_read (take 31 s) ≡ date_read s
unfolding date_read date_day
date-cut = cut-read date_read None 31 (λ u l. rw (ne_eqb (length u) 19 (λ q. absurd (omega arith))))

request-cut : (s : List ℕ) → request_read (take 2049 s) ≡ request_read s
unfolding request_read
request-cut = cut-read request_read (refused Malformed Check) 2049 (λ u l. rw (lt-leb (length u) 2048 l))

deliver-cut : (g : Gate) (t : Rows) (clock params out : List ℕ) → deliver g t clock (take 2049 params) out ≡ deliver g t clock params out
unfolding deliver
deliver-cut g t clock params out = rw (request-cut params)

-- ---- the tests of a line
-- a number is i where it is at least i and not more
equal-by-least : (n i : ℕ) → eqb n i ≡ leb i n && not (leb (suc i) n)
equal-by-least n i =
    by-test (leb i n)
    (λ h. by-test (leb (suc i) n)
    (λ g. rw (h, g) (ne_eqb n i (λ q. absurd (omega (arith, leb-true (suc i) n g)))))
    (λ g. rw (h, g) (eq-eqb n i (omega (arith, leb-true i n h, leb-false (suc i) n g)))))
    (λ h. rw h (ne_eqb n i (λ q. absurd (omega (arith, leb-false i n h)))))

-- a line has no other letter than its first byte
other-letter : (x : ℕ) (l : List ℕ) → (get_or l 0 0 ≡ x → ⊥) → has_letter x l ≡ false
unfolding split_at eq_list
other-letter x [] n = refl
other-letter x (b ∷ s) n =
    by-test (eqb b 32) (λ h. rw (space-split b s h)) (λ h. rw (byte-first b s h, ne_eqb b x n))

module _ (e : List ℕ → List ℕ) (j : ℕ) (s : List ℕ) where
  letter-kept : (x : ℕ) → 0 < j → has_letter x (kept e j s 31) ≡ has_letter x s
  letter-kept x h = ap (λ (f : List ℕ). eq_list f (x ∷ [])) (kept_field e 0 j s h) ∙ letter-cut x (field_at 0 s)

  count_kept : (i : ℕ) → i ≤ j → eqb (field_count (kept e j s 31)) i ≡ eqb (field_count s) i
  count_kept i h =
      let a : i ≤ suc j = omega arith in
      let b : suc i ≤ suc j = omega arith in
      equal-by-least (field_count (kept e j s 31)) i ∙ rw (kept-count e i j s 31 a, kept-count e (suc i) j s 31 b) (sym (equal-by-least (field_count s) i))

-- ---- the turn of a line u that has the fields of l, cut
module _ (x : Console) (t : Rows) (u l : List ℕ) where
  pub unread-turn : has_letter 67 u ≡ false → has_letter 67 l ≡ false → start_turn x t u ≡ start_turn x t l
  unfolding start_turn
  unread-turn a b = rw (a, b)

  module _ (first : field_at 1 u ≡ take 31 (field_at 1 l)) where
    start-cut : has_letter 67 u ≡ has_letter 67 l → eqb (field_count u) 2 ≡ eqb (field_count l) 2 → start_turn x t u ≡ start_turn x t l
    unfolding start_turn
    start-cut a b = rw (a, b, first, day-cut (field_at 1 l))

    list-cut : list_turn x t u ≡ list_turn x t l
    unfolding list_turn
    list-cut = rw (first, day-cut (field_at 1 l))

    ask-cut : params_in u ≡ take 2049 (params_in l) → ask_turn x t u ≡ ask_turn x t l
    unfolding ask_turn
    ask-cut p =
        rw (first, date-cut (field_at 1 l), p, deliver-cut x.gate t (clock_in l) (params_in l) (replicate 512 0))

    module _ (second : field_at 2 u ≡ take 31 (field_at 2 l)) where
      open-cut : open_turn x t u ≡ open_turn x t l
      unfolding open_turn
      open-cut = rw (first, number_cut (field_at 1 l), second, kind-cut (field_at 2 l))

      draw-cut : field_at 3 u ≡ take 31 (field_at 3 l) → draw_turn x t u ≡ draw_turn x t l
      unfolding draw_turn
      draw-cut third = rw (third, digits-cut 15 (omega arith) (field_at 3 l)) (of (digits_read 15 (field_at 3 l)))
        where
          of : (d : Option ℕ) → draw_of x t u d ≡ draw_of x t l d
          of None = refl
          of (Some n) = rw (first, number_cut (field_at 1 l), second, kind-cut (field_at 2 l))

  order-ask : has_letter 79 u ≡ false → has_letter 79 l ≡ false → has_letter 68 u ≡ false → has_letter 68 l ≡ false
      → has_letter 80 u ≡ false → has_letter 80 l ≡ false
      → has_letter 82 u ≡ has_letter 82 l → leb 3 (field_count u) ≡ leb 3 (field_count l) → ask_turn x t u ≡ ask_turn x t l → order_turn x t u ≡ order_turn x t l
  unfolding order_turn
  order-ask a b c d p q f g h = rw (a, b, c, d, p, q, f, g, h)

  order_other : has_letter 82 u ≡ false → has_letter 82 l ≡ false → has_letter 79 u ≡ has_letter 79 l → eqb (field_count u) 3 ≡ eqb (field_count l) 3
      → has_letter 68 u ≡ has_letter 68 l → eqb (field_count u) 4 ≡ eqb (field_count l) 4
      → has_letter 80 u ≡ has_letter 80 l → eqb (field_count u) 2 ≡ eqb (field_count l) 2
      → open_turn x t u ≡ open_turn x t l → draw_turn x t u ≡ draw_turn x t l → list_turn x t u ≡ list_turn x t l → order_turn x t u ≡ order_turn x t l
  unfolding order_turn
  order_other a b c d f g p q h k m = rw (a, b, c, d, f, g, p, q, h, k, m)

  line_same : order_turn x t u ≡ order_turn x t l → start_turn x t u ≡ start_turn x t l → line_turn x t u ≡ line_turn x t l
  unfolding line_turn
  line_same a b = rw (a, b)

-- ---- the turn of a cut line
-- the two ways of cutting: a line that begins with R (82), and every other
unfoldable pub cut : List ℕ → List ℕ
cut l = cond (eqb (get_or l 0 0) 82) (kept (take 2049) 2 l 31) (kept (joined 31) 4 l 31)

-- the first byte is held
kept-some : (e : List ℕ → List ℕ) (j b : ℕ) (s : List ℕ) → 0 < length (kept e (suc j) (b ∷ s) 31)
unfolding kept
kept-some e j b s = by-test (eqb b 32) (λ h. rw h (omega arith)) (λ h. rw h (omega arith))

pub cut-some : (b : ℕ) (s : List ℕ) → 0 < length (cut (b ∷ s))
unfolding cut
cut-some b s = by-test (eqb b 82) (λ h. rw h (kept-some (take 2049) 1 b s)) (λ h. rw h (kept-some (joined 31) 3 b s))

module _ (x : Console) (t : Rows) (l : List ℕ) where
  asked-turn : get_or l 0 0 ≡ 82 → line_turn x t (kept (take 2049) 2 l 31) ≡ line_turn x t l
  asked-turn r =
      let e : List ℕ → List ℕ = take 2049 in
      let u : List ℕ = kept e 2 l 31 in
      let p : params_in u ≡ take 2049 (params_in l) = kept-params e refl l 31 in
      let no : (k : ℕ) → (k ≡ 82 → ⊥) → has_letter k l ≡ false = λ k n. other-letter k l (λ q. n (sym q ∙ r)) in
      let nou : (k : ℕ) → (k ≡ 82 → ⊥) → has_letter k u ≡ false = λ k n. letter-kept e 2 l k (omega arith) ∙ no k n in
      line_same x t u l
      (order-ask x t u l (nou 79 (λ q. absurd (omega arith))) (no 79 (λ q. absurd (omega arith))) (nou 68 (λ q. absurd (omega arith))) (no 68 (λ q. absurd (omega arith)))
      (nou 80 (λ q. absurd (omega arith))) (no 80 (λ q. absurd (omega arith)))
      (letter-kept e 2 l 82 (omega arith)) (kept-count e 3 2 l 31 (omega arith)) (ask-cut x t u l (kept_field e 1 2 l (omega arith)) p))
      (unread-turn x t u l (nou 67 (λ q. absurd (omega arith))) (no 67 (λ q. absurd (omega arith))))

  other-turn : (get_or l 0 0 ≡ 82 → ⊥) → line_turn x t (kept (joined 31) 4 l 31) ≡ line_turn x t l
  other-turn r =
      let e : List ℕ → List ℕ = joined 31 in
      let u : List ℕ = kept e 4 l 31 in
      let n : has_letter 82 l ≡ false = other-letter 82 l r in
      let letter : (k : ℕ) → has_letter k u ≡ has_letter k l = λ k. letter-kept e 4 l k (omega arith) in
      let first : field_at 1 u ≡ take 31 (field_at 1 l) = kept_field e 1 4 l (omega arith) in
      let second : field_at 2 u ≡ take 31 (field_at 2 l) = kept_field e 2 4 l (omega arith) in
      line_same x t u l
      (order_other x t u l (letter 82 ∙ n) n (letter 79) (count_kept e 4 l 3 (omega arith)) (letter 68) (count_kept e 4 l 4 (omega arith))
      (letter 80) (count_kept e 4 l 2 (omega arith))
      (open-cut x t u l first second) (draw-cut x t u l first second (kept_field e 3 4 l (omega arith))) (list-cut x t u l first))
      (start-cut x t u l first (letter 67) (count_kept e 4 l 2 (omega arith)))

  pub cut-turn : line_turn x t (cut l) ≡ line_turn x t l
  unfolding cut
  cut-turn =
      by-test (eqb (get_or l 0 0) 82) (λ h. rw h (asked-turn (eqb-true (get_or l 0 0) 82 h))) (λ h. rw h (other-turn (eqb-false (get_or l 0 0) 82 h)))
