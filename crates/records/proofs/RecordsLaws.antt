-- Records that go into rows and come back, and a call on the rows between.
--     record_is, records-are   the records of the rows of a list are the list's
--     rows-from                the rows of a list with their first records replaced
--     records-left             their records
--     calls                    a call on copied rows, copied back, is the call on the records' rows
--     all-calls                the same for `call_records`
--     records-refused, none-refused, many-refused   row 68: everything is kept
use Prim.Native.Nat.{ℕ, zero, suc, ◌+◌, ◌-◌, ◌<◌, ◌≤◌}
use native.Mathlib.Omega.{arith}
use mathlib.Core.Path.{◌≡◌, refl, sym, ap, ◌∙◌, subst}
use mathlib.Core.Bool.{Bool, true, false}
use mathlib.Core.List.{List, [], ◌∷◌, ◌++◌, map, map-append, append-nil}
use lib.Dec.{leb}
use lib.ListN.{length, take, drop, get_or, set, replicate, length-append, length-drop, length-map, length-replicate, take-append-drop, get_or-append}
use lib.Seq.{length-take-le, take_all, take-length, drop-length, drop-nil, take-suc, drop-cons, append_snoc, take-append_seam, set-append_seam}
use borrow.Author.Tests.{leb-true, leb-false}
use Rattle.table.specs.declared.Gate.{Gate}
use Rattle.table.specs.declared.Record.{Record}
use Rattle.lists.specs.Lists.{tab}
use Rattle.lists.proofs.ListLaws.{tab-same, tab-take}
use Rattle.lists.proofs.LentLaws.{lent_none, lent-many}
use Rattle.table.specs.Table.{Rows, no_record, nums_of, dates_of, record_from, record_at, records_of, rows_with, rows_from}
use Rattle.validity.specs.Valid.{table_good}
use Rattle.table.proofs.TableLaws.{length-records, from_at, from_more, from-whole, records-from}
use Rattle.ledger.specs.declared.Reply.{Reply}
use Rattle.admission.specs.Delivery.{Delivery, delivery_of, undelivered}
use Rattle.records.specs.Records.{rows_of, Called, called_of, back_from, call_records}
use Rattle.calls.specs.Calls.{call_on}
use Rattle.records.specs.Copying.{rows_in, filled, restored, Sized, first_rows, on_rows, on_first, on_part}
use Rattle.calls.specs.declared.Call.{Call}
use Rattle.records.proofs.Types.{reply_of}
use Rattle.records.proofs.PartLaws.{part-called, part-refused}
use Rattle.calls.proofs.CallLaws.{call-refused}

-- ---- the rows of a list
abbrev bytes_of : Record → List ℕ
bytes_of r = r.number.bytes

abbrev none : Rows
none = record { nums = []; numbers = []; dates = [] }

rows_are : (ts : List Record) → rows_from none ts ≡ rows_of ts
unfolding rows_from rows_of
rows_are ts = λ j. record { nums = column nums_of j; numbers = column bytes_of j; dates = column dates_of j }
  where
    column : {A : Type 0} (f : Record → A) → map f ts ++ drop (length ts) [] ≡ map f ts
    column f = ap (λ (l : List _). map f ts ++ l) (drop-nil (length ts)) ∙ append-nil (map f ts)

pub record_is : (ts : List Record) (i : ℕ) (z : Record) → i < length ts → record_at (rows_of ts) i ≡ get_or ts i z
record_is ts i z h = ap (λ (t : Rows). record_at t i) (sym (rows_are ts)) ∙ from_at none ts i z h

pub records-are : (ts : List Record) (n : ℕ) → n ≤ length ts → records_of (rows_of ts) n ≡ take n ts
unfolding records_of
records-are ts n h = tab-same n (record_at (rows_of ts)) (λ i. get_or ts i no_record) (λ i l. record_is ts i no_record (omega (arith, l, h))) ∙ tab-take n ts no_record h

map-drop : {A B : Type 0} (f : A → B) (n : ℕ) (l : List A) → drop n (map f l) ≡ map f (drop n l)
map-drop f zero l = refl
map-drop f (suc n) [] = refl
map-drop f (suc n) (x ∷ l) = map-drop f n l

pub rows-from : (ts rs : List Record) → rows_from (rows_of ts) rs ≡ rows_of (rs ++ drop (length rs) ts)
unfolding rows_from rows_of
rows-from ts rs = λ j. record { nums = column nums_of j; numbers = column bytes_of j; dates = column dates_of j }
  where
    column : {A : Type 0} (f : Record → A) → map f rs ++ drop (length rs) (map f ts) ≡ map f (rs ++ drop (length rs) ts)
    column f = ap (λ (l : List _). map f rs ++ l) (map-drop f (length rs) ts) ∙ sym (map-append f rs (drop (length rs) ts))

-- the records of such rows: rs, and the list's past them
pub records-left : (ts rs : List Record) → length rs ≤ length ts → records_of (rows_from (rows_of ts) rs) (length ts) ≡ rs ++ drop (length rs) ts
records-left ts rs h =
    let size : length (rs ++ drop (length rs) ts) ≡ length ts = omega (arith, h, length-append rs (drop (length rs) ts), length-drop (length rs) ts) in
    ap (λ (t : Rows). records_of t (length ts)) (rows-from ts rs) ∙ records-are (rs ++ drop (length rs) ts) (length ts) (omega (arith, size)) ∙ take_all (length ts) (rs ++ drop (length rs) ts) (omega (arith, size))

-- ---- records copied into rows, and back
-- the rows have k places
abbrev Places : Rows → ℕ → Type 0
Places t k = (k ≤ length t.nums) × (k ≤ length t.numbers) × (k ≤ length t.dates)

filled-are : (ts : List Record) (k : ℕ) (t : Rows) → k ≤ length ts → Places t k → filled ts k t ≡ rows_from t (take k ts)
unfolding filled rows_from
filled-are ts zero t h p = refl
filled-are ts (suc k) t h p =
    let size : length (take k ts) ≡ k = length-take-le k ts (omega (arith, h)) in
    ap (λ (w : Rows). rows_with w k (get_or ts k no_record)) (filled-are ts k t (omega (arith, h)) (omega (arith, p.0), omega (arith, p.1), omega (arith, p.2)))
    ∙ ap (λ (i : ℕ). rows_with (rows_from t (take k ts)) i (get_or ts k no_record)) (sym size)
    ∙ from_more t (take k ts) (get_or ts k no_record) (omega (arith, size, p.0)) (omega (arith, size, p.1)) (omega (arith, size, p.2))
    ∙ ap (rows_from t) (sym (take-suc ts k no_record h))

restored-are : (ts : List Record) (k : ℕ) (t : Rows) → k ≤ length ts → restored ts k t ≡ records_of t k ++ drop k ts
unfolding restored records_of tab
restored-are ts zero t h = refl
restored-are ts (suc k) t h =
    ap (λ (l : List Record). set l k (record_at t k)) (restored-are ts k t (omega (arith, h)) ∙ ap (λ (l : List Record). records_of t k ++ l) (drop-cons ts k no_record h))
    ∙ ap (λ (i : ℕ). set (records_of t k ++ get_or ts k no_record ∷ drop (suc k) ts) i (record_at t k)) (sym (length-records t k))
    ∙ set-append_seam (records_of t k) (get_or ts k no_record) (drop (suc k) ts) (record_at t k)
    ∙ sym (append_snoc (records_of t k) (record_at t k) (drop (suc k) ts))

-- the first places of rows that hold a list are the list's rows
first-are : (ts : List Record) (t : Rows) → first_rows (length ts) (rows_from t ts) ≡ rows_of ts
unfolding rows_from rows_of
first-are ts t = λ j. record { nums = column nums_of t.nums j; numbers = column bytes_of t.numbers j; dates = column dates_of t.dates j }
  where
    column : {A : Type 0} (f : Record → A) (l : List A) → take (length ts) (map f ts ++ drop (length ts) l) ≡ map f ts
    column f l = ap (λ (k : ℕ). take k (map f ts ++ drop (length ts) l)) (sym (length-map ts f)) ∙ take-append_seam (map f ts) (drop (length ts) l)

on-records : (n : ℕ) (t s : Rows) → Places s n → records_of (on_rows n t s) n ≡ records_of s n
unfolding records_of
on-records n t s p =
    tab-same n (record_at (on_rows n t s)) (record_at s) (λ i h. λ j. record_from
    (get_or-append s.nums (drop n t.nums) [] i (omega (arith, h, p.0)) j)
    (get_or-append s.numbers (drop n t.numbers) [] i (omega (arith, h, p.1)) j)
    (get_or-append s.dates (drop n t.dates) [] i (omega (arith, h, p.2)) j))

-- ---- a call on the copy
module _ (call : Rows → Delivery) (g : Gate) (out : List ℕ) (many : (t : Rows) → 4096 < length t.nums → call t ≡ undelivered 68 g t out) (t₀ : Rows) (room : Sized t₀) (ts : List Record) where
  abbrev w : Rows
  w = filled ts (rows_in (length ts)) t₀

  abbrev dv : Delivery
  dv = on_part (length ts) g out call w

  abbrev back : Delivery → Called
  back d = record { code = d.code; gate = d.gate; records = restored ts (rows_in (length ts)) d.rows; out = d.out; size = d.size }

  places : (k : ℕ) → k ≤ 4096 → Places t₀ k
  places k h = (omega (arith, h, room.nums), omega (arith, h, room.numbers), omega (arith, h, room.dates))

  module _ (h : length ts ≤ 4096) where
    abbrev d : Delivery
    d = call (rows_of ts)

    abbrev W : Rows
    W = rows_from t₀ ts

    all_in : rows_in (length ts) ≡ length ts
    all_in = omega (arith, h)

    filled-few : w ≡ W
    filled-few = ap (λ (k : ℕ). filled ts k t₀) all_in ∙ filled-are ts (length ts) t₀ (omega arith) (places (length ts) h) ∙ ap (rows_from t₀) (take-length ts)

    called-few : dv ≡ on_first (length ts) W d
    called-few =
        sym (part-called (length ts) g out call w (call (first_rows (length ts) w)) h refl)
        ∙ ap (λ (x : Rows). on_first (length ts) x (call (first_rows (length ts) x))) filled-few ∙ ap (λ (x : Rows). on_first (length ts) W (call x)) (first-are ts t₀)

    -- the call keeps the places that it was given
    size : {A : Type 0} (l x y : List A) → length (l ++ drop (length ts) x) ≡ 4096 → length x ≡ length ts + (length y - length ts) → length y ≡ 4096 → length ts ≤ length l
    size l x y e f k = omega (arith, h, e, f, k, length-append l (drop (length ts) x), length-drop (length ts) x)

    placed : Sized dv.rows → Places d.rows (length ts)
    placed s =
        let s' : Sized (on_rows (length ts) W d.rows) = subst (λ (x : Delivery). Sized x.rows) called-few s in
        let all = from-whole t₀ ts in (
          size d.rows.nums W.nums t₀.nums s'.nums all.0 room.nums,
          size d.rows.numbers W.numbers t₀.numbers s'.numbers all.1 room.numbers,
          size d.rows.dates W.dates t₀.dates s'.dates all.2 room.dates,
        )

    back-few : Sized dv.rows → restored ts (rows_in (length ts)) (on_rows (length ts) W d.rows) ≡ records_of d.rows (length ts)
    back-few s =
        ap (λ (k : ℕ). restored ts k (on_rows (length ts) W d.rows)) all_in ∙ restored-are ts (length ts) (on_rows (length ts) W d.rows) (omega arith)
        ∙ ap (λ (l : List Record). records_of (on_rows (length ts) W d.rows) (length ts) ++ l) (drop-length ts) ∙ append-nil (records_of (on_rows (length ts) W d.rows) (length ts))
        ∙ on-records (length ts) W d.rows (placed s)

    few : Sized dv.rows → back dv ≡ back_from (length ts) (call (rows_of ts))
    few s = ap back called-few ∙ (λ j. record { code = d.code; gate = d.gate; records = back-few s j; out = d.out; size = d.size })

  module _ (h : 4096 < length ts) where
    filled-many : w ≡ rows_from t₀ (take 4096 ts)
    filled-many = ap (λ (k : ℕ). filled ts k t₀) (omega (arith, h)) ∙ filled-are ts 4096 t₀ (omega (arith, h)) (places 4096 (omega arith))

    refused-many : call (rows_of ts) ≡ undelivered 68 g (rows_of ts) out
    unfolding rows_of
    refused-many = many (rows_of ts) (omega (arith, h, length-map ts nums_of))

    back-many : restored ts (rows_in (length ts)) w ≡ records_of (rows_of ts) (length ts)
    back-many =
        ap (λ (k : ℕ). restored ts k w) (omega (arith, h)) ∙ restored-are ts 4096 w (omega (arith, h))
        ∙ ap (λ (l : List Record). l ++ drop 4096 ts) (ap (λ (x : Rows). records_of x 4096) filled-many
        ∙ ap (records_of (rows_from t₀ (take 4096 ts))) (sym (length-take-le 4096 ts (omega (arith, h)))) ∙ records-from t₀ (take 4096 ts) no_record)
        ∙ take-append-drop 4096 ts ∙ sym (records-are ts (length ts) (omega arith) ∙ take-length ts)

    lots : back dv ≡ back_from (length ts) (call (rows_of ts))
    lots =
        ap back (sym (part-refused (length ts) g out call w h)) ∙ (λ j. record { code = 68; gate = g; records = back-many j; out = out; size = 0 })
        ∙ ap (back_from (length ts)) (sym refused-many)

  pub calls : Sized dv.rows → back dv ≡ back_from (length ts) (call (rows_of ts))
  calls s = go (leb (length ts) 4096) refl
    where
      go : (b : Bool) → leb (length ts) 4096 ≡ b → back dv ≡ back_from (length ts) (call (rows_of ts))
      go true e = few (leb-true (length ts) 4096 e) s
      go false e = lots (leb-false (length ts) 4096 e)

-- ---- the copy in local rows
-- rows of 4,096 places without a record
abbrev none-nums : List ℕ
none-nums = replicate 6 0

abbrev none_number : List ℕ
none_number = replicate 30 0

abbrev none-dates : List (List ℕ)
none-dates = replicate 3 (replicate 19 0)

abbrev pub empty : Rows
empty = record { nums = replicate 4096 none-nums; numbers = replicate 4096 none_number; dates = replicate 4096 none-dates }

pub empty-sized : Sized empty
empty-sized = record { nums = length-replicate 4096 none-nums; numbers = length-replicate 4096 none_number; dates = length-replicate 4096 none-dates }

table-many : (g : Gate) (t : Rows) → 4096 < length t.nums → table_good g t ≡ false
unfolding table_good
table-many g t h = rw (← lent-many g.used (length t.nums) (length t.numbers) (length t.dates) h)

table_none : (g : Gate) (t : Rows) → length t.nums < 1 → table_good g t ≡ false
unfolding table_good
table_none g t h = rw (← lent_none g.used (length t.nums) (length t.numbers) (length t.dates) h)

module _ (g : Gate) (ts : List Record) (c : Call) (text out : List ℕ) where
  abbrev called : Delivery
  called = on_part (length ts) g out (call_on g c text out) (filled ts (rows_in (length ts)) empty)

  pub all-calls : Sized called.rows → called_of (reply_of called) (restored ts (rows_in (length ts)) called.rows) called.out ≡ (call_records g ts c text out)
  unfolding call_records
  all-calls = calls (call_on g c text out) g out (λ t h. call-refused g c text out t (table-many g t h)) empty empty-sized ts

  -- the call that the code makes: records into rows, the call on these, and the rows back
  pub call-made : (r : Reply) (w₁ w : Rows) (out₁ : List ℕ) (left : List Record) → w₁ ≡ filled ts (rows_in (length ts)) empty
      → delivery_of r w out₁ ≡ on_part (length ts) g out (call_on g c text out) w₁ → Sized w → left ≡ restored ts (rows_in (length ts)) w
      → called_of r left out₁ ≡ call_records g ts c text out
  call-made r w₁ w out₁ left f d s l =
      let e : delivery_of r w out₁ ≡ called = d ∙ ap (on_part (length ts) g out (call_on g c text out)) f in
      ap (λ (x : List Record). called_of r x out₁) l
      ∙ ap (λ (x : Delivery). called_of (reply_of x) (restored ts (rows_in (length ts)) x.rows) x.out) e
      ∙ all-calls (subst (λ (x : Delivery). Sized x.rows) e s)

  -- ---- row 68: everything is kept
  abbrev kept : Called
  kept = record { code = 68; gate = g; records = ts; out = out; size = 0 }

  pub records-refused : table_good g (rows_of ts) ≡ false → call_records g ts c text out ≡ kept
  unfolding call_records
  records-refused h =
      ap (back_from (length ts)) (call-refused g c text out (rows_of ts) h)
      ∙ (λ j. record { code = 68; gate = g; records = (records-are ts (length ts) (omega arith) ∙ take-length ts) j; out = out; size = 0 })

  -- no record is lent
  pub none-refused : length ts ≡ 0 → call_records g ts c text out ≡ kept
  unfolding rows_of
  none-refused h = records-refused (table_none g (rows_of ts) (omega (arith, h, length-map ts nums_of)))

  -- more than 4,096 are lent
  pub many-refused : 4096 < length ts → call_records g ts c text out ≡ kept
  unfolding rows_of
  many-refused h = records-refused (table-many g (rows_of ts) (omega (arith, h, length-map ts nums_of)))
