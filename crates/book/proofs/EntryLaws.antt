-- Laws of the book's rows: what a store leaves is the list of entries with one of them set.
use mathlib.Core.Path.{◌≡◌, sym, ap, ◌∙◌}
use mathlib.Core.Logic.{◌≢◌}
use mathlib.Core.List.{List, [], ◌∷◌, ◌++◌, map}
use Prim.Native.Nat.{ℕ, suc, ◌+◌, ◌<◌, ◌≤◌}
use native.Mathlib.Numerals.{add-one}
use native.Mathlib.Omega.{arith}
use borrow.Author.Count.{below_none, below_more}
use lib.ListN.{length, take, drop, get_or, set, length-set, length-append, take-append-drop}
use lib.Seq.{drop-cons, get_or-set_same, get_or-set_other, ext_get_or}
use Rattle.lists.proofs.ListLaws.{length-tab, get_d-tab, map-tab, tab-same, tab-take, list-six}
use Rattle.lists.proofs.ColumnLaws.{tab-put, tab-add, column-back, column-more, column-at}
use Rattle.book.specs.declared.Entry.{Entry}
use Rattle.book.specs.Entries.{BookRows, entry_at, entries_of, entry_nums, book_with, book_from, WholeBook}

-- the rows are long enough for entry i
pub record EntryRoom (t : BookRows) (i : ℕ) : Type 0 where
  pub nums : i < length t.nums
  pub numbers : i < length t.numbers
  pub dates : i < length t.dates

abbrev bytes_of : Entry → List ℕ
bytes_of e = e.number.bytes

abbrev date_of : Entry → List ℕ
date_of e = e.date

module _ (t : BookRows) (i : ℕ) (e : Entry) where
  pub entry_other : (j : ℕ) → j ≢ i → entry_at (book_with t i e) j ≡ entry_at t j
  entry_other j d =
      rw (
        get_or-set_other t.nums i j (entry_nums e) [] d,
        get_or-set_other t.numbers i j (bytes_of e) [] d,
        get_or-set_other t.dates i j (date_of e) [] d,
      )

  pub entry-same : EntryRoom t i → entry_at (book_with t i e) i ≡ e
  entry-same h =
      rw (
        get_or-set_same t.nums i (entry_nums e) [] h.nums,
        get_or-set_same t.numbers i (bytes_of e) [] h.numbers,
        get_or-set_same t.dates i (date_of e) [] h.dates,
      )

  -- a store is set, and behind the last entry one entry more
  pub entries-set : (n : ℕ) → EntryRoom t i → i < n → entries_of (book_with t i e) n ≡ set (entries_of t n) i e
  unfolding entries_of
  entries-set n h l = tab-put (entry_at t) (entry_at (book_with t i e)) i e entry_other (entry-same h) n l

  pub entries-more : EntryRoom t i → entries_of (book_with t i e) (i + 1) ≡ entries_of t i ++ (e ∷ [])
  unfolding entries_of
  entries-more h = tab-add (entry_at t) (entry_at (book_with t i e)) i e entry_other (entry-same h)

pub length-entries : (t : BookRows) (n : ℕ) → length (entries_of t n) ≡ n
unfolding entries_of
length-entries t n = length-tab n (entry_at t)

pub get_d-entries : (t : BookRows) (n i : ℕ) (z : Entry) → i < n → get_or (entries_of t n) i z ≡ entry_at t i
unfolding entries_of
get_d-entries t n i z h = get_d-tab n (entry_at t) i z h

-- what is left of the entries at i
pub entries-rest : (t : BookRows) (n i : ℕ) (e : Entry) → i < n → e ≡ entry_at t i → drop i (entries_of t n) ≡ e ∷ drop (i + 1) (entries_of t n)
entries-rest t n i e h is =
    let l : i < length (entries_of t n) = omega (arith, length-entries t n) in
    drop-cons (entries_of t n) i e l
    ∙ ap (λ (x : Entry). x ∷ drop (suc i) (entries_of t n)) (get_d-entries t n i e h ∙ sym is)
    ∙ ap (λ (k : ℕ). e ∷ drop k (entries_of t n)) (sym (add-one i))

-- ---- rows from a list of entries
module _ (t : BookRows) (n : ℕ) (w : WholeBook t n) where
  nums-back : map entry_nums (entries_of t n) ≡ take n t.nums
  unfolding entries_of
  nums-back =
      map-tab n (entry_at t) entry_nums
      ∙ tab-same n (λ i. entry_nums (entry_at t i)) (λ i. get_or t.nums i []) (λ i h. list-six (get_or t.nums i []) 0 (w.six i h))
      ∙ tab-take n t.nums [] w.nums

  numbers-back : map bytes_of (entries_of t n) ≡ take n t.numbers
  unfolding entries_of
  numbers-back = map-tab n (entry_at t) bytes_of ∙ tab-take n t.numbers [] w.numbers

  dates-back : map date_of (entries_of t n) ≡ take n t.dates
  unfolding entries_of
  dates-back = map-tab n (entry_at t) date_of ∙ tab-take n t.dates [] w.dates

  -- an entry is set, added, or nothing is changed
  pub book-set : (i : ℕ) (e : Entry) → i < n → book_from t (set (entries_of t n) i e) ≡ book_with t i e
  unfolding book_from
  book-set i e h =
      rw (length-set (entries_of t n) i e, length-entries t n)
      (rw (
        column-back entry_nums t.nums (entries_of t n) n i e nums-back h w.nums,
        column-back bytes_of t.numbers (entries_of t n) n i e numbers-back h w.numbers,
        column-back date_of t.dates (entries_of t n) n i e dates-back h w.dates,
      ))

  pub book-more : (e : Entry) → n < length t.nums → n < length t.numbers → n < length t.dates → book_from t (entries_of t n ++ (e ∷ [])) ≡ book_with t n e
  unfolding book_from
  book-more e hn hb hd =
      rw (length-append (entries_of t n) (e ∷ []), length-entries t n)
      (rw (
        column-more entry_nums t.nums (entries_of t n) n e nums-back hn,
        column-more bytes_of t.numbers (entries_of t n) n e numbers-back hb,
        column-more date_of t.dates (entries_of t n) n e dates-back hd,
      ))

  pub book-kept : book_from t (entries_of t n) ≡ t
  unfolding book_from
  book-kept =
      rw (
        length-entries t n,
        nums-back,
        numbers-back,
        dates-back,
        take-append-drop n t.nums,
        take-append-drop n t.numbers,
        take-append-drop n t.dates,
      )

-- ---- rows from a list, read
pub entry-from : (t : BookRows) (es : List Entry) (i : ℕ) (z : Entry) → i < length es → entry_at (book_from t es) i ≡ get_or es i z
unfolding book_from
entry-from t es i z h =
    rw (
      column-at entry_nums t.nums es i [] z h,
      column-at bytes_of t.numbers es i [] z h,
      column-at date_of t.dates es i [] z h,
    )

pub entries_from : (t : BookRows) (es : List Entry) (z : Entry) → entries_of (book_from t es) (length es) ≡ es
entries_from t es z =
    ext_get_or z (entries_of (book_from t es) (length es)) es (length-entries (book_from t es) (length es))
    (λ i l. one i (omega (arith, l, length-entries (book_from t es) (length es))))
  where
    one : (i : ℕ) → i < length es → get_or (entries_of (book_from t es) (length es)) i z ≡ get_or es i z
    one i h = get_d-entries (book_from t es) (length es) i z h ∙ entry-from t es i z h

-- ---- whole rows: a loop that has read i entries
pub book-none : (t : BookRows) → WholeBook t 0
book-none t = record { nums = omega arith; numbers = omega arith; dates = omega arith; six = below_none _ }

pub book-next : (t : BookRows) (i n : ℕ) → WholeBook t i → i < n → n ≤ length t.nums → n ≤ length t.numbers → n ≤ length t.dates
    → length (get_or t.nums i []) ≡ 6 → WholeBook t (i + 1)
book-next t i n w h a b c s = record { nums = omega arith; numbers = omega arith; dates = omega arith; six = below_more _ i w.six s }

pub book-end : (t : BookRows) (i n : ℕ) → WholeBook t i → i ≤ n → n ≤ i → WholeBook t n
book-end t i n w h k =
    record { nums = omega (arith, w.nums); numbers = omega (arith, w.numbers); dates = omega (arith, w.dates); six = λ j l. w.six j (omega arith) }
