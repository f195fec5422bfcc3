-- What a writing and an answer find in the lent book, and what they leave: all as it was, or one entry in another state.
use Rattle.std.specs.Prelude.{Option, Some}
use Prim.Native.Nat.{ℕ, ◌<◌}
use native.Mathlib.Decide.{ℕ_discrete}
use native.Mathlib.Omega.{arith}
use mathlib.Core.Path.{◌≡◌, refl, sym, ap, subst⁻¹, ◌∙◌}
use mathlib.Core.Bool.{true, false}
use mathlib.Core.List.{[]}
use lib.ListN.{length, get_or, set, length-set}
use lib.Seq.{get_or-set_same, get_or-set_other, set-get_or}
use Rattle.texts.proofs.Tests.{no-claim}
use Rattle.book.specs.declared.Book.{Book}
use Rattle.book.specs.declared.Entry.{Entry}
use Rattle.book.specs.Entries.{BookRows, no_entry, entry_at, entries_of, entry_nums, book_with, book_from, find_entry, WholeBook}
use Rattle.book_validity.specs.BookValid.{entry_fields, book_good, ReadyBook}
use Rattle.book.proofs.EntryLaws.{EntryRoom, entry_other, entry-same, get_d-entries, book-kept}
use Rattle.lists.proofs.LentLaws.{lent-facts}
use Rattle.book_validity.proofs.BookLaws.{good_book, good-lent, good-room, put-good, entry-within}
use Rattle.book_validity.proofs.PaymentLaws.{SamePayment, same-payment}
use Rattle.daybook.specs.Freezing.{is_frozen}

-- ---- what is found
-- the place of a receipt
abbrev pub place_of : Book → BookRows → ℕ → Option ℕ
place_of b t receipt = find_entry receipt (entries_of t b.used)

pub same_place : (j i : ℕ) → Some j ≡ Some i → j ≡ i
same_place j i e = cc

module _ (b : Book) (t : BookRows) where
  -- the entry that is found is good
  pub found-fields : (receipt i : ℕ) → book_good b t ≡ true → place_of b t receipt ≡ Some i → entry_fields (entry_at t i) ≡ true
  found-fields receipt i good e = (good_book b t good).entry i (entry-within t b.used receipt i e)

  -- the entry that is there already
  pub put_same : (i : ℕ) → ReadyBook b t → i < b.used → (e : Entry) → e ≡ entry_at t i → book_from t (set (entries_of t b.used) i e) ≡ t
  put_same i ready l e same =
      let there : set (entries_of t b.used) i e ≡ entries_of t b.used =
      ap (set (entries_of t b.used) i) (same ∙ sym (get_d-entries t b.used i no_entry l)) ∙ set-get_or (entries_of t b.used) i no_entry in
      ap (book_from t) there ∙ book-kept t b.used ready.whole

-- rows of whole arrays are so with one of them set
set-whole : (t : BookRows) (n i : ℕ) (e : Entry) → WholeBook t n → WholeBook (book_with t i e) n
set-whole t n i e w =
    record {
      nums = omega (arith, w.nums, length-set t.nums i (entry_nums e));
      numbers = omega (arith, w.numbers, length-set t.numbers i e.number.bytes);
      dates = omega (arith, w.dates, length-set t.dates i e.date);
      six = λ j l. go j l (ℕ_discrete j i);
    }
  where
    go : (j : ℕ) → j < n → Dec (j ≡ i) → length (get_or (set t.nums i (entry_nums e)) j []) ≡ 6
    go j l (yes q) =
        let k : i < length t.nums = omega (arith, l, w.nums) in
        rw q (ap length (get_or-set_same t.nums i (entry_nums e) [] k))
    go j l (no d) = ap length (get_or-set_other t.nums i j (entry_nums e) [] d) ∙ w.six j l

set-ready : (b : Book) (t : BookRows) (i : ℕ) (e : Entry) → ReadyBook b t → ReadyBook b (book_with t i e)
set-ready b t i e r =
    let n : length (set t.nums i (entry_nums e)) ≡ length t.nums = length-set t.nums i (entry_nums e) in
    let m : length (set t.numbers i e.number.bytes) ≡ length t.numbers = length-set t.numbers i e.number.bytes in
    let d : length (set t.dates i e.date) ≡ length t.dates = length-set t.dates i e.date in
    record {
      whole = set-whole t b.used i e r.whole;
      same = record { numbers = m ∙ r.same.numbers ∙ sym n; dates = d ∙ r.same.dates ∙ sym n };
      size = omega (arith, n, r.size);
    }

-- ---- the rows t' that a call about the place p leaves of t
pub data Left (b : Book) (t : BookRows) (p : Option ℕ) (t' : BookRows) : Type 0 where
  kept : t' ≡ t → Left b t p t'
  moved : (i : ℕ) (e' : Entry) → p ≡ Some i → i < b.used → book_good b t ≡ true → is_frozen b (entry_at t i).date ≡ false
      → SamePayment (entry_at t i) e' → entry_fields e' ≡ true → t' ≡ book_with t i e' → Left b t p t'

module _ (b : Book) (t : BookRows) (p : Option ℕ) (t' : BookRows) where
  -- an entry at another place is as it was
  pub others-kept : Left b t p t' → (j : ℕ) → (p ≡ Some j → ⊥) → entry_at t' j ≡ entry_at t j
  others-kept (kept e) j n = ap (λ (r : BookRows). entry_at r j) e
  others-kept (moved i e' found l good free same fields e) j n =
      ap (λ (r : BookRows). entry_at r j) e ∙ entry_other t i e' j (λ q. n (found ∙ ap Some (sym q)))

  -- a property of what was at a place and what is there now
  each-kept : (P : Entry → Entry → Type 0) → ((e : Entry) → P e e) → Left b t p t'
      → ((i : ℕ) (e' : Entry) → is_frozen b (entry_at t i).date ≡ false → SamePayment (entry_at t i) e' → P (entry_at t i) e')
      → (j : ℕ) → P (entry_at t j) (entry_at t' j)
  each-kept P one (kept e) f j = subst⁻¹ (λ (r : BookRows). P (entry_at t j) (entry_at r j)) e (one (entry_at t j))
  each-kept P one (moved i e' found l good free same fields e) f j = subst⁻¹ (λ (r : BookRows). P (entry_at t j) (entry_at r j)) e (go (ℕ_discrete j i))
    where
      room : EntryRoom t i
      room = good-room b t good i (omega (arith, l, (lent-facts _ _ _ _ (good-lent b t good)).room))

      go : Dec (j ≡ i) → P (entry_at t j) (entry_at (book_with t i e') j)
      go (yes q) = subst⁻¹ (λ (k : ℕ). P (entry_at t k) (entry_at (book_with t i e') k)) q (subst⁻¹ (P (entry_at t i)) (entry-same t i e' room) (f i e' free same))
      go (no d) = subst⁻¹ (P (entry_at t j)) (entry_other t i e' j d) (one (entry_at t j))

  -- every entry keeps its receipt, its account, its amount and its date
  pub payments-kept : Left b t p t' → (j : ℕ) → SamePayment (entry_at t j) (entry_at t' j)
  payments-kept x = each-kept SamePayment same-payment x (λ i e' free same. same)

  -- an entry of a frozen day is as it was
  pub frozen-kept : Left b t p t' → (j : ℕ) → is_frozen b (entry_at t j).date ≡ true → entry_at t' j ≡ entry_at t j
  frozen-kept x = each-kept (λ (e e' : Entry). is_frozen b e.date ≡ true → e' ≡ e) (λ e h. refl) x (λ i e' free same h. no-claim (sym free ∙ h))

  -- a good book is good again
  pub good-kept : Left b t p t' → book_good b t ≡ true → book_good b t' ≡ true
  good-kept (kept e) g = ap (book_good b) e ∙ g
  good-kept (moved i e' found l good free same fields e) g = ap (book_good b) e ∙ put-good b t g i e' l fields same.receipt same.date

  -- rows that are ready are ready again
  pub ready-kept : Left b t p t' → ReadyBook b t → ReadyBook b t'
  ready-kept (kept e) r = subst⁻¹ (ReadyBook b) e r
  ready-kept (moved i e' found l good free same fields e) r = subst⁻¹ (ReadyBook b) e (set-ready b t i e' r)
