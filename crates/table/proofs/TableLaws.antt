-- Laws of the table's rows: what store leaves is the list of records with one of them set.
use Rattle.std.specs.Prelude.{Bool, cond, Option, Some, eqb, nat_eq}
use Rattle.std.specs.List.{position, position_from}
use Rattle.std.proofs.lemmas.Iterator.Adapters.{position_from-zero}
use mathlib.Core.Path.{◌≡◌, refl, sym, ap, ◌∙◌}
use mathlib.Core.Logic.{◌≢◌}
use mathlib.Core.List.{List, [], ◌∷◌, ◌++◌, map}
use Prim.Native.Nat.{ℕ, ◌+◌, ◌-◌, ◌<◌, ◌≤◌}
use native.Mathlib.Omega.{arith}
use borrow.Author.Count.{below_none, below_more}
use borrow.Author.Tests.{eqb-true}
use lib.ListN.{length, take, get_or, set, length-set, length-append, take-append-drop}
use lib.Seq.{get_or-set_same, get_or-set_other, ext_get_or}
use Rattle.table.specs.declared.Record.{Record}
use Rattle.lists.specs.Lists.{tab, first_from}
use Rattle.table.specs.Table.{Rows, record_at, records_of, nums_of, dates_of, rows_with, rows_from, Whole, has_receipt, find_record}
use Rattle.lists.proofs.ListLaws.{length-tab, get_d-tab, map-tab, tab-same, tab-take, list-six, list-three, search-within, found-fits}
use Rattle.lists.proofs.ColumnLaws.{tab-put, tab-add, column-back, column-more, column-set, column-next, column-at, column-size}

-- the rows are long enough for record i
pub record Room (t : Rows) (i : ℕ) : Type 0 where
  pub nums : i < length t.nums
  pub numbers : i < length t.numbers
  pub dates : i < length t.dates

module _ (t : Rows) (i : ℕ) (r : Record) where
  pub record-other : (j : ℕ) → j ≢ i → record_at (rows_with t i r) j ≡ record_at t j
  record-other j d =
      rw (
        get_or-set_other t.nums i j (nums_of r) [] d,
        get_or-set_other t.numbers i j r.number.bytes [] d,
        get_or-set_other t.dates i j (dates_of r) [] d,
      )

  pub record_same : Room t i → record_at (rows_with t i r) i ≡ r
  record_same h =
      rw (
        get_or-set_same t.nums i (nums_of r) [] h.nums,
        get_or-set_same t.numbers i r.number.bytes [] h.numbers,
        get_or-set_same t.dates i (dates_of r) [] h.dates,
      )

  -- store is set
  pub records-set : (n : ℕ) → Room t i → i < n → records_of (rows_with t i r) n ≡ set (records_of t n) i r
  unfolding records_of
  records-set n h l = tab-put (record_at t) (record_at (rows_with t i r)) i r record-other (record_same h) n l

  -- store behind the last record is one more record
  pub records-more : Room t i → records_of (rows_with t i r) (i + 1) ≡ records_of t i ++ (r ∷ [])
  unfolding records_of
  records-more h = tab-add (record_at t) (record_at (rows_with t i r)) i r record-other (record_same h)

pub length-records : (t : Rows) (n : ℕ) → length (records_of t n) ≡ n
unfolding records_of
length-records t n = length-tab n (record_at t)

pub get_d-records : (t : Rows) (n i : ℕ) (z : Record) → i < n → get_or (records_of t n) i z ≡ record_at t i
unfolding records_of
get_d-records t n i z h = get_d-tab n (record_at t) i z h

-- ---- the first record with a receipt, by the numbers alone
first-by : {A B : Type 0} (f : A → B) (p : B → Bool) (i : ℕ) (l : List A) → first_from (λ a. p (f a)) i l ≡ position_from p i (map f l)
unfolding first_from
first-by f p i [] = refl
first-by f p i (a ∷ l) = ap (cond (p (f a)) (Some i)) (first-by f p (i + 1) l)

position-by : {A B : Type 0} (f : A → B) (p : B → Bool) (i : ℕ) (l : List A) → position_from (λ a. p (f a)) i l ≡ position_from p i (map f l)
position-by f p i [] = refl
position-by f p i (a ∷ l) = ap (cond (p (f a)) (Some i)) (position-by f p (i + 1) l)

pub receipt_position : (t : Rows) (n x : ℕ) (r : Option ℕ) → r ≡ position (λ w. nat_eq (get_or w 0 0) x) (take n t.nums) → n ≤ length t.nums → r ≡ find_record x (records_of t n)
unfolding find_record records_of
receipt_position t n x r e h =
    e ∙
    position_from-zero (λ w. eqb (get_or w 0 0) x) (take n t.nums)
    ∙ position-by (λ (w : List ℕ). get_or w 0 0) (λ y. eqb y x) 0 (take n t.nums)
    ∙ ap (position_from (λ y. eqb y x) 0) same
    ∙ sym (first-by (λ (r : Record). r.receipt) (λ y. eqb y x) 0 (records_of t n))
  where
    same : map (λ (w : List ℕ). get_or w 0 0) (take n t.nums) ≡ map (λ (r : Record). r.receipt) (tab n (record_at t))
    same =
        ap (map (λ (w : List ℕ). get_or w 0 0)) (sym (tab-take n t.nums [] h))
        ∙ map-tab n (λ i. get_or t.nums i []) (λ (w : List ℕ). get_or w 0 0)
        ∙ sym (map-tab n (record_at t) (λ (r : Record). r.receipt))

module _ (t : Rows) (n x i : ℕ) (f : Option ℕ) (e : f ≡ find_record x (records_of t n)) (h : f ≡ Some i) where
  pub receipt-within : i < n
  unfolding find_record
  receipt-within = omega (arith, search-within (has_receipt x) 0 (records_of t n) i (sym e ∙ h), length-records t n)

  pub receipt-fits : (record_at t i).receipt ≡ x
  unfolding find_record
  receipt-fits =
      eqb-true _ _ (ap (has_receipt x) (sym (get_d-records t n i (record_at t i) receipt-within))
      ∙ found-fits (has_receipt x) (records_of t n) (record_at t i) (sym e ∙ h))

-- ---- rows from a list of records

module _ (t : Rows) (n : ℕ) (w : Whole t n) where
  nums-back : map nums_of (records_of t n) ≡ take n t.nums
  unfolding records_of
  nums-back =
      map-tab n (record_at t) nums_of
      ∙ tab-same n (λ i. nums_of (record_at t i)) (λ i. get_or t.nums i []) (λ i h. list-six (get_or t.nums i []) 0 (w.six i h))
      ∙ tab-take n t.nums [] w.nums

  numbers-back : map (λ (r : Record). r.number.bytes) (records_of t n) ≡ take n t.numbers
  unfolding records_of
  numbers-back = map-tab n (record_at t) (λ (r : Record). r.number.bytes) ∙ tab-take n t.numbers [] w.numbers

  dates-back : map dates_of (records_of t n) ≡ take n t.dates
  unfolding records_of
  dates-back =
      map-tab n (record_at t) dates_of
      ∙ tab-same n (λ i. dates_of (record_at t i)) (λ i. get_or t.dates i []) (λ i h. list-three (get_or t.dates i []) [] (w.three i h))
      ∙ tab-take n t.dates [] w.dates

  size : length (records_of t n) ≡ n
  unfolding records_of
  size = length-tab n (record_at t)

  -- a record is set
  pub rows-set : (i : ℕ) (r : Record) → i < n → rows_from t (set (records_of t n) i r) ≡ rows_with t i r
  unfolding rows_from
  rows-set i r h =
      rw (length-set (records_of t n) i r, size)
      (rw (
        column-back nums_of t.nums (records_of t n) n i r nums-back h w.nums,
        column-back (λ (q : Record). q.number.bytes) t.numbers (records_of t n) n i r numbers-back h w.numbers,
        column-back dates_of t.dates (records_of t n) n i r dates-back h w.dates,
      ))

  -- a record is added
  pub rows_more : (r : Record) → n < length t.nums → n < length t.numbers → n < length t.dates → rows_from t (records_of t n ++ (r ∷ [])) ≡ rows_with t n r
  unfolding rows_from
  rows_more r hn hb hd =
      rw (length-append (records_of t n) (r ∷ []), size)
      (rw (
        column-more nums_of t.nums (records_of t n) n r nums-back hn,
        column-more (λ (q : Record). q.number.bytes) t.numbers (records_of t n) n r numbers-back hb,
        column-more dates_of t.dates (records_of t n) n r dates-back hd,
      ))

  -- nothing is changed
  pub rows-kept : rows_from t (records_of t n) ≡ t
  unfolding rows_from
  rows-kept =
      rw (size, nums-back, numbers-back, dates-back, take-append-drop n t.nums, take-append-drop n t.numbers, take-append-drop n t.dates)

-- ---- rows from a list, read and set

pub from-set : (t : Rows) (rs : List Record) (i : ℕ) (r : Record) → i < length rs → rows_with (rows_from t rs) i r ≡ rows_from t (set rs i r)
unfolding rows_from
from-set t rs i r h =
    rw (length-set rs i r)
    (rw (column-set nums_of t.nums rs i r h, column-set (λ (q : Record). q.number.bytes) t.numbers rs i r h, column-set dates_of t.dates rs i r h))

pub from_at : (t : Rows) (rs : List Record) (i : ℕ) (z : Record) → i < length rs → record_at (rows_from t rs) i ≡ get_or rs i z
unfolding rows_from
from_at t rs i z h =
    rw (column-at nums_of t.nums rs i [] z h, column-at (λ (q : Record). q.number.bytes) t.numbers rs i [] z h, column-at dates_of t.dates rs i [] z h)

pub from-whole : (t : Rows) (rs : List Record) → (length (rows_from t rs).nums ≡ length rs + (length t.nums - length rs))
    × (length (rows_from t rs).numbers ≡ length rs + (length t.numbers - length rs))
    × (length (rows_from t rs).dates ≡ length rs + (length t.dates - length rs))
unfolding rows_from
from-whole t rs = (column-size nums_of t.nums rs, column-size (λ (q : Record). q.number.bytes) t.numbers rs, column-size dates_of t.dates rs)

-- a record is added behind those of the list
pub from_more : (t : Rows) (rs : List Record) (r : Record) → length rs < length t.nums → length rs < length t.numbers → length rs < length t.dates
    → rows_with (rows_from t rs) (length rs) r ≡ rows_from t (rs ++ (r ∷ []))
unfolding rows_from
from_more t rs r hn hb hd =
    rw (length-append rs (r ∷ []))
    (rw (
      column-next nums_of t.nums rs r [] hn,
      column-next (λ (q : Record). q.number.bytes) t.numbers rs r [] hb,
      column-next dates_of t.dates rs r [] hd,
    ))

-- the records of rows from a list are the list, and such rows are whole
pub records-from : (t : Rows) (rs : List Record) (z : Record) → records_of (rows_from t rs) (length rs) ≡ rs
records-from t rs z =
    ext_get_or z (records_of (rows_from t rs) (length rs)) rs (length-records (rows_from t rs) (length rs))
    (λ i l. one i (omega (arith, l, length-records (rows_from t rs) (length rs))))
  where
    one : (i : ℕ) → i < length rs → get_or (records_of (rows_from t rs) (length rs)) i z ≡ get_or rs i z
    one i h = get_d-records (rows_from t rs) (length rs) i z h ∙ from_at t rs i z h

-- the same by the number of records in use
pub rows_as : (t : Rows) (rs : List Record) (z : Record) (n : ℕ) → length rs ≡ n → records_of (rows_from t rs) n ≡ rs
rows_as t rs z n e = ap (records_of (rows_from t rs)) (sym e) ∙ records-from t rs z

-- and the rows lent stay as many
pub rows-cap : (t : Rows) (rs : List Record) → length rs ≤ length t.nums → length (rows_from t rs).nums ≡ length t.nums
rows-cap t rs l = omega (arith, (from-whole t rs).0)

pub whole_from : (t : Rows) (rs : List Record) → Whole (rows_from t rs) (length rs)
unfolding rows_from
whole_from t rs =
    record {
      nums = omega (arith, (from-whole t rs).0);
      numbers = omega (arith, (from-whole t rs).1);
      dates = omega (arith, (from-whole t rs).2);
      six = λ i h. ap length (column-at nums_of t.nums rs i [] (record_at t 0) h);
      three = λ i h. ap length (column-at dates_of t.dates rs i [] (record_at t 0) h);
    }

-- ---- whole rows: a loop that has read i records
pub whole-none : (t : Rows) → Whole t 0
whole-none t = record { nums = omega arith; numbers = omega arith; dates = omega arith; six = below_none _; three = below_none _ }

pub whole-more : (t : Rows) (i n : ℕ) → Whole t i → i < n → n ≤ length t.nums → n ≤ length t.numbers → n ≤ length t.dates
    → length (get_or t.nums i []) ≡ 6 → length (get_or t.dates i []) ≡ 3 → Whole t (i + 1)
whole-more t i n w h a b c s d =
    record { nums = omega arith; numbers = omega arith; dates = omega arith; six = below_more _ i w.six s; three = below_more _ i w.three d }

pub whole-less : (t : Rows) (i n : ℕ) → Whole t i → n ≤ i → Whole t n
whole-less t i n w h =
    let a = w.nums in
    let b = w.numbers in
    let c = w.dates in
    record {
      nums = omega arith;
      numbers = omega arith;
      dates = omega arith;
      six = λ k l. w.six k (omega arith);
      three = λ k l. w.three k (omega arith);
    }
