-- An input that is fed in parts, whatever the parts are, prints what the session prints of the whole.
use Prim.Native.Nat.{ℕ, zero, suc, ◌+◌, ◌≤◌, ◌<◌}
use native.Mathlib.Nat.{not-suc-le-zero, add-zero}
use native.Mathlib.Numerals.{add-one}
use native.Mathlib.Omega.{arith}
use mathlib.Core.Path.{◌≡◌, refl, sym, ap, ◌∙◌}
use mathlib.Core.List.{List, [], ◌∷◌, ◌++◌, append-nil, append_assoc}
use mathlib.Core.Bool.{Bool, true, false, cond}
use lib.Dec.{eqb, leb, ltb}
use lib.ListN.{length, take, drop, length-set, length-drop, length-replicate}
use lib.Seq.{drop-drop}
use borrow.Author.Tests.{lt-ltb, le-ltb, lt-leb, le-leb, eqb-true, ltb-true, ltb-false}
use Rattle.texts.specs.Lists.{find}
use Rattle.coding.specs.Params.{split_at}
use Rattle.coding.proofs.ParamLaws.{split-append, split-last}
use Rattle.texts.proofs.FindLaws.{find-both}
use Rattle.table.specs.Table.{Rows}
use Rattle.gathering.specs.Held.{Held}
use Rattle.orders.specs.Order.{Turn, line_turn, turn_text}
use Rattle.gathering.specs.Held.{held_text, pushed, in_params, absorbed, absorb_all, emptied}
use Rattle.console.specs.Feed.{Fed, ended, fed_byte, fed, finished, filled}
use Rattle.gathering.specs.Gather.{Gathered}
use Rattle.gathering.specs.Gather.{gathered}
use Rattle.gathering.specs.Held.{new_held}
use Rattle.console.specs.Session.{lines_in, lines_text, new_fed, session_text}
use Rattle.console.proofs.CutLaws.{split-some, cut-some}
use Rattle.texts.proofs.Tests.{by-test}
use Rattle.console.proofs.HeldLaws.{held_cut, held-turn}

-- the parts of an input do not matter
pub fed-append : (f : Fed) (s u : List ℕ) → fed f (s ++ u) ≡ fed (fed f s) u
unfolding fed
fed-append f [] u = refl
fed-append f (b ∷ s) u = fed-append (fed_byte f b) s u

-- ---- what is held of a line
pub absorb-append : (h : Held) (s u : List ℕ) → absorb_all h (s ++ u) ≡ absorb_all (absorb_all h s) u
unfolding absorb_all
absorb-append h [] u = refl
absorb-append h (b ∷ s) u = absorb-append (absorbed h b) s u

pushed-length : (h : Held) (b k n : ℕ) → length (pushed h b k n).bytes ≡ length h.bytes
unfolding pushed
pushed-length h b k n = by-test (ltb h.len 2177) (λ t. rw t (length-set h.bytes h.len b)) (λ t. rw t)

absorbed-length : (h : Held) (b : ℕ) → length (absorbed h b).bytes ≡ length h.bytes
unfolding absorbed
absorbed-length h b =
    of (in_params h) (cond (ltb h.run 2049) param h) (cond (eqb b 32) (cond (ltb h.spaces 4) space h) (cond (ltb h.run 31) param h))
    (of (ltb h.run 2049) param h (pushed-length h b h.spaces (h.run + 1)) refl)
    (of (eqb b 32) (cond (ltb h.spaces 4) space h) (cond (ltb h.run 31) param h)
    (of (ltb h.spaces 4) space h (pushed-length h b (h.spaces + 1) 0) refl)
    (of (ltb h.run 31) param h (pushed-length h b h.spaces (h.run + 1)) refl))
  where
    param : Held
    param = pushed h b h.spaces (h.run + 1)

    space : Held
    space = pushed h b (h.spaces + 1) 0

    of : (t : Bool) (x y : Held) → length x.bytes ≡ length h.bytes → length y.bytes ≡ length h.bytes
        → length (cond t x y).bytes ≡ length h.bytes
    of true x y p q = p
    of false x y p q = q

pub absorb-length : (s : List ℕ) (h : Held) → length (absorb_all h s).bytes ≡ length h.bytes
unfolding absorb_all
absorb-length [] h = refl
absorb-length (b ∷ s) h = absorb-length s (absorbed h b) ∙ absorbed-length h b

-- something is held of a line that is not empty
text-some : (n : ℕ) (a : List ℕ) → 0 < length (take n a) → 0 < n
text-some zero a h = h
text-some (suc n) a h = omega arith

absorb-some : (h : Held) (b : ℕ) (l : List ℕ) → length h.bytes ≡ 2177 → 0 < (absorb_all (emptied h) (b ∷ l)).len
absorb-some h b l full =
    let x : Held = absorb_all (emptied h) (b ∷ l) in
    let s : 0 < length (held_text x) = rw (held_cut h (b ∷ l) full) (cut-some b l) in
    text-some x.len x.bytes s

-- ---- the lines of a session
lines_more : (l : List ℕ) (ms : List (List ℕ)) → 0 < length ms → lines_in (l ∷ ms) ≡ l ∷ lines_in ms
unfolding lines_in
lines_more l [] h = absurd (not-suc-le-zero h)
lines_more [] (m ∷ ms) h = refl
lines_more (b ∷ l) (m ∷ ms) h = refl

pub lines-first : (l s : List ℕ) → find 10 l ≡ length l → lines_in (split_at 10 (l ++ (10 ∷ s))) ≡ l ∷ lines_in (split_at 10 s)
lines-first l s n = rw (split-append 10 l s n) (lines_more l (split_at 10 s) (split-some 10 s))

lines-last : (b : ℕ) (l : List ℕ) → length (b ∷ l) ≤ find 10 (b ∷ l) → lines_in (split_at 10 (b ∷ l)) ≡ (b ∷ l) ∷ []
unfolding lines_in
lines-last b l p = rw (split-last 10 (b ∷ l) p)

-- ---- a session that holds l of its present line
module _ (f : Fed) (h : Held) (l : List ℕ) (full : length h.bytes ≡ 2177) (e : f.held ≡ absorb_all (emptied h) l) where
  turn-held : line_turn f.console f.rows (held_text f.held) ≡ line_turn f.console f.rows l
  turn-held = ap (λ (x : Held). line_turn f.console f.rows (held_text x)) e ∙ held-turn f.console f.rows h l full

  length-held : length f.held.bytes ≡ 2177
  length-held = ap (λ (x : Held). length x.bytes) e ∙ absorb-length l (emptied h) ∙ full

  -- the line ends
  ended-text : (rest : List (List ℕ)) (r : Turn) → r ≡ line_turn f.console f.rows (held_text f.held)
      → (f.text ++ turn_text r) ++ lines_text r.console r.rows rest ≡ f.text ++ lines_text f.console f.rows (l ∷ rest)
  unfolding lines_text
  ended-text rest r q = append_assoc f.text (turn_text r) (lines_text r.console r.rows rest) ∙ rw (← turn-held, ← q)

  last-text : (r : Turn) → r ≡ line_turn f.console f.rows (held_text f.held)
      → f.text ++ turn_text r ≡ f.text ++ lines_text f.console f.rows (l ∷ [])
  unfolding lines_text
  last-text r q = sym (append-nil (f.text ++ turn_text r)) ∙ ended-text [] r q

-- the input ends
finished-text : (f : Fed) (h : Held) (l : List ℕ) → length h.bytes ≡ 2177 → f.held ≡ absorb_all (emptied h) l → find 10 l ≡ length l
    → (finished f).text ≡ f.text ++ lines_text f.console f.rows (lines_in (split_at 10 l))
unfolding finished ended
finished-text f h [] full e n = unfold absorb_all split_at lines_in lines_text in rw (ap (λ (x : Held). x.len) e) (sym (append-nil f.text))
finished-text f h (b ∷ l) full e n =
    let o : 0 < f.held.len = rw e (absorb-some h b l full) in
    let p : length (b ∷ l) ≤ find 10 (b ∷ l) = omega arith in
    let r : Turn = line_turn f.console f.rows (held_text f.held) in
    rw (lt-ltb 0 f.held.len o, lines-last b l p) (last-text f h (b ∷ l) full e r refl)

-- a byte of a line
find-one : (b : ℕ) → eqb b 10 ≡ false → find 10 (b ∷ []) ≡ 1
unfolding find
find-one b t = rw t

fed-lines : (s : List ℕ) (f : Fed) (h : Held) (l : List ℕ) → length h.bytes ≡ 2177 → f.held ≡ absorb_all (emptied h) l → find 10 l ≡ length l
    → (finished (fed f s)).text ≡ f.text ++ lines_text f.console f.rows (lines_in (split_at 10 (l ++ s)))
unfolding fed fed_byte ended absorb_all find
fed-lines [] f h l full e n = finished-text f h l full e n ∙ rw append-nil
fed-lines (b ∷ s) f h l full e n =
    by-test (eqb b 10)
    (λ t. rw (t, eqb-true b 10 t, lines-first l s n)
    (fed-lines s (ended f) f.held [] (length-held f h l full e) refl refl
    ∙ ended-text f h l full e (lines_in (split_at 10 s)) (line_turn f.console f.rows (held_text f.held)) refl))
    (λ t.
    let one : find 10 (l ++ (b ∷ [])) ≡ length (l ++ (b ∷ [])) = find-both 10 l (b ∷ []) n (find-one b t) in
    let more : absorbed f.held b ≡ absorb_all (emptied h) (l ++ (b ∷ [])) = ap (λ (x : Held). absorbed x b) e ∙ sym (absorb-append (emptied h) l (b ∷ [])) in
    rw t
    (fed-lines s (record { console = f.console; held = absorbed f.held b; rows = f.rows; text = f.text }) h (l ++ (b ∷ [])) full more one
    ∙ rw (append_assoc l (b ∷ []) s)))

-- the whole input
pub session-fed : (t : Rows) (s : List ℕ) → (finished (fed (new_fed t) s)).text ≡ session_text t s
unfolding session_text absorb_all find
session-fed t s = fed-lines s (new_fed t) new_held [] (length-replicate {A = ℕ} 2177 0) refl refl

-- ---- a part of the input, gathered up to a line's end
abbrev pub holding : Fed → Held → Fed
holding f h = record { console = f.console; held = h; rows = f.rows; text = f.text }

find_first : (b : ℕ) (u : List ℕ) → eqb b 10 ≡ true → find 10 (b ∷ u) ≡ 0
unfolding find
find_first b u t = rw t

find-further : (b : ℕ) (u : List ℕ) → eqb b 10 ≡ false → find 10 (b ∷ u) ≡ suc (find 10 u)
unfolding find
find-further b u t = rw t

module _ (need room : ℕ) where
  -- no more is taken without room for a line
  pub fill_stop : (f : Fed) (n : ℕ) (s : List ℕ) → room < length f.text + need → filled need room f n s ≡ record { fed = f; taken = n }
  unfolding filled
  fill_stop f n [] h = refl
  fill_stop f n (b ∷ s) h = rw (lt-leb _ _ h)

  line-end : (u : List ℕ) (f : Fed) (n : ℕ) → length f.text + need ≤ room → find 10 u < length u
      → filled need room f n u ≡ filled need room (ended (holding f (absorb_all f.held (take (find 10 u) u)))) (n + (find 10 u + 1)) (drop (suc (find 10 u)) u)
  unfolding filled fed_byte absorb_all
  line-end [] f n fit h = absurd (not-suc-le-zero h)
  line-end (b ∷ u) f n fit h =
      by-test (eqb b 10) (λ t. rw (le-leb _ _ fit, find_first b u t, t))
      (λ t.
      let l : find 10 u < length u = omega (arith, h, find-further b u t) in
      let k : n + 1 + (find 10 u + 1) ≡ n + (suc (find 10 u) + 1) = omega arith in
      rw (le-leb _ _ fit, find-further b u t, t)
      (line-end u (holding f (absorbed f.held b)) (n + 1) fit l
      ∙ ap (λ (m : ℕ). filled need room (ended (holding f (absorb_all (absorbed f.held b) (take (find 10 u) u)))) m (drop (suc (find 10 u)) u)) k))

  line-rest : (u : List ℕ) (f : Fed) (n : ℕ) → length f.text + need ≤ room → length u ≤ find 10 u
      → filled need room f n u ≡ record { fed = holding f (absorb_all f.held (take (find 10 u) u)); taken = n + find 10 u }
  unfolding filled fed_byte absorb_all find
  line-rest [] f n fit h = ap (λ (m : ℕ). record { fed = f; taken = m }) (sym (add-zero n))
  line-rest (b ∷ u) f n fit h =
      by-test (eqb b 10) (λ t. absurd (omega (arith, h, find_first b u t)))
      (λ t.
      let l : length u ≤ find 10 u = omega (arith, h, find-further b u t) in
      let k : n + 1 + find 10 u ≡ n + suc (find 10 u) = omega arith in
      rw (le-leb _ _ fit, find-further b u t, t)
      (line-rest u (holding f (absorbed f.held b)) (n + 1) fit l
      ∙ ap (λ (m : ℕ). record { fed = holding f (absorb_all (absorbed f.held b) (take (find 10 u) u)); taken = m }) k))

-- the session after the part from `at` on: on behind the line that has ended, or at the end of the part
module _ (f : Fed) (s : List ℕ) (at : ℕ) (g : Gathered) (e : g ≡ gathered f.held (drop at s) at) where
  ended_is : g.ended ≡ ltb (find 10 (drop at s)) (length (drop at s))
  unfolding gathered
  ended_is = ap (λ (x : Gathered). x.ended) e

  held-is : g.held ≡ absorb_all f.held (take (find 10 (drop at s)) (drop at s))
  unfolding gathered
  held-is = ap (λ (x : Gathered). x.held) e

  module _ (t : g.ended ≡ true) where
    end-inside : find 10 (drop at s) < length (drop at s)
    end-inside = ltb-true (find 10 (drop at s)) (length (drop at s)) (sym ended_is ∙ t)

    end-at : g.at ≡ at + (find 10 (drop at s) + 1)
    unfolding gathered
    end-at = ap (λ (x : Gathered). x.at) e ∙ rw (lt-ltb (find 10 (drop at s)) (length (drop at s)) end-inside)

    pub gathered-on : at < g.at
    gathered-on = omega (arith, end-at)

    pub gathered-in : g.at ≤ length s
    gathered-in = omega (arith, end-at, end-inside, length-drop at s)

    pub fill-ended : (need room : ℕ) → length f.text + need ≤ room → filled need room f at (drop at s) ≡ filled need room (ended (holding f g.held)) g.at (drop g.at s)
    fill-ended need room fit =
        line-end need room (drop at s) f at fit end-inside
        ∙ rw (← held-is, drop-drop, ← add-one (find 10 (drop at s)), ← end-at)

  pub fill-rest : g.ended ≡ false → (need room : ℕ) → length f.text + need ≤ room → filled need room f at (drop at s) ≡ record { fed = holding f g.held; taken = g.at }
  unfolding gathered
  fill-rest t need room fit =
      let l : length (drop at s) ≤ find 10 (drop at s) = ltb-false (find 10 (drop at s)) (length (drop at s)) (sym ended_is ∙ t) in
      let k : g.at ≡ at + find 10 (drop at s) = ap (λ (x : Gathered). x.at) e ∙ rw (le-ltb (find 10 (drop at s)) (length (drop at s)) l) in
      line-rest need room (drop at s) f at fit l ∙ rw (← held-is, ← k)

-- ---- what a part leaves is fed again: whatever the parts and the room, the session is the same
module _ (need room : ℕ) where
  fill-from : (s : List ℕ) (f : Fed) (n : ℕ) → (k : ℕ) × ((filled need room f n s).taken ≡ n + k) × (k ≤ length s) × (fed (filled need room f n s).fed (drop k s) ≡ fed f s)
  unfolding filled fed
  fill-from [] f n = (0, omega arith, omega arith, refl)
  fill-from (b ∷ s) f n = go (leb (length f.text + need) room) (fill-from s (fed_byte f b) (n + 1))
    where
      go : (z : Bool) → (k : ℕ) × ((filled need room (fed_byte f b) (n + 1) s).taken ≡ n + 1 + k) × (k ≤ length s) × (fed (filled need room (fed_byte f b) (n + 1) s).fed (drop k s) ≡ fed (fed_byte f b) s)
          → (k : ℕ) × ((cond z (filled need room (fed_byte f b) (n + 1) s) (record { fed = f; taken = n })).taken ≡ n + k) × (k ≤ suc (length s))
          × (fed (cond z (filled need room (fed_byte f b) (n + 1) s) (record { fed = f; taken = n })).fed (drop k (b ∷ s)) ≡ fed (fed_byte f b) s)
      go true q = (suc q.0, omega (arith, q.1), omega (arith, q.2), q.3)
      go false q = (0, omega arith, omega arith, refl)

  -- no more is taken than there is
  pub fill-within : (s : List ℕ) (f : Fed) → (filled need room f 0 s).taken ≤ length s
  fill-within s f = let q = fill-from s f 0 in omega (arith, q.1, q.2)

  -- and feeding the rest ends where feeding all ends
  pub fill-again : (s : List ℕ) (f : Fed) → fed (filled need room f 0 s).fed (drop (filled need room f 0 s).taken s) ≡ fed f s
  fill-again s f =
      let q = fill-from s f 0 in
      let k : (filled need room f 0 s).taken ≡ q.0 = omega (arith, q.1) in
      ap (λ (m : ℕ). fed (filled need room f 0 s).fed (drop m s)) k ∙ q.3

  -- with room for a line a part is not left whole
  pub fill-some : (s : List ℕ) (f : Fed) → length f.text + need ≤ room → 0 < length s → 0 < (filled need room f 0 s).taken
  unfolding filled
  fill-some [] f fit h = h
  fill-some (b ∷ s) f fit h = let q = fill-from s (fed_byte f b) 1 in rw (le-leb _ _ fit) (omega (arith, q.1))
