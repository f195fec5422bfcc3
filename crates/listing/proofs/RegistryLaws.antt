-- Laws of a day's registry: which entries it lists, how long it is, and how it is written.
use Prim.Native.Nat.{ℕ, suc, ◌+◌, ◌*◌, ◌<◌, ◌≤◌}
use native.Mathlib.Nat.{add-zero}
use native.Mathlib.Omega.{arith}
use mathlib.Core.Path.{◌≡◌, refl, sym, ap, ◌∙◌}
use mathlib.Core.Bool.{Bool, true, false, cond, not, ◌&&◌}
use mathlib.Core.List.{List, [], ◌∷◌, ◌++◌, map}
use lib.ListN.{length, drop, length-append, drop_of_length-le}
use Rattle.days.specs.declared.calendar.Day.{Day}
use Rattle.texts.specs.Lists.{written, cursor_after}
use Rattle.fields.specs.Amount.{is_amount}
use Rattle.days.specs.Calendar.{on_day}
use Rattle.fields.specs.Codes.{is_receipt, is_kind}
use Rattle.dates.specs.Date.{date_day, is_written}
use Rattle.fields.specs.Number.{is_number}
use Rattle.texts.proofs.Tests.{both, and_left, and_right}
use Rattle.texts.proofs.OutLaws.{over_none, cursor-moves, written_over, written-length, cursor-then, written_then}
use Rattle.lists.specs.Lists.{all_from}
use Rattle.lines.specs.declared.line.Line.{Line}
use Rattle.lines.specs.Line.{is_line, line_bytes, line_text}
use Rattle.registry.specs.Registry.{registry_bytes}
use Rattle.lines.proofs.LineParts.{line-is, text-is, line-length}
use Rattle.book.specs.declared.Book.{Book}
use Rattle.book.specs.declared.Entry.{Entry}
use Rattle.book.specs.Entries.{BookRows, is_cancelled, entry_at, entries_of}
use Rattle.book_validity.specs.BookValid.{entry_fields, in_turn, entry_good, day_count, days_good, book_lent, book_head, book_good}
use Rattle.book.proofs.EntryLaws.{length-entries, entries-rest}
use Rattle.book_validity.proofs.BookLaws.{fields-dated, good_book}
use Rattle.listing.specs.Listing.{is_listed, listed, entry_line, registry_of}

-- ---- one entry before others
module _ (day : Day) (e : Entry) (es : List Entry) where
  pub registry-skip : is_listed day e ≡ false → registry_of day (e ∷ es) ≡ registry_of day es
  unfolding registry_of listed
  registry-skip h = rw h

  pub registry-line : is_listed day e ≡ true → registry_of day (e ∷ es) ≡ line_bytes (entry_line e) ++ registry_of day es
  unfolding registry_of listed registry_bytes
  registry-line h = rw h

-- ---- an entry in its ranges has a line
pub entry-line : (e : Entry) → entry_fields e ≡ true → is_line (entry_line e) ≡ true
unfolding entry_fields
entry-line e h =
    let a = both (is_receipt e.receipt) _ h in
    let b = both (is_number e.number) _ a.1 in
    let c = both (is_kind e.kind) _ b.1 in
    let d = both (is_amount e.amount) _ c.1 in
    let f = both (is_written e.date) _ d.1 in
    line-is (entry_line e) (record { number = b.0; kind = c.0; date = f.0; amount = d.0; receipt = a.0 })

module _ (b : Book) (t : BookRows) (good : book_good b t ≡ true) (i : ℕ) (h : i < b.used) (e : Entry) (is : e ≡ entry_at t i) where
  in-range : entry_fields e ≡ true
  in-range = ap entry_fields is ∙ (good_book b t good).entry i h

  pub listed-date : is_written e.date ≡ true
  listed-date = fields-dated e in-range

  pub listed-line : (x : Line) → x ≡ entry_line e → is_line x ≡ true
  listed-line x ex = ap is_line ex ∙ entry-line e in-range

-- ---- how long: 83 bytes for each entry of the day
module _ (b : Book) (day : Day) where
  pub registry-size : (k : ℕ) (es : List Entry) → all_from (entry_good b) k es ≡ true → length (registry_of day es) ≤ 83 * day_count day es
  unfolding all_from registry_of listed registry_bytes is_listed day_count entry_good
  registry-size k [] h = omega arith
  registry-size k (e ∷ es) h =
      let p = both (in_turn b k e && entry_fields e) (all_from (entry_good b) (k + 1) es) h in
      go (on_day day (date_day e.date)) (not (is_cancelled e)) (line-length (entry_line e) (entry-line e (and_right (in_turn b k e) (entry_fields e) p.0))) (registry-size (k + 1) es p.1)
    where
      go : (o s : Bool) → length (line_bytes (entry_line e)) ≤ 83 → length (registry_bytes (map entry_line (listed day es))) ≤ 83 * day_count day es
          → length (registry_bytes (map entry_line (cond (o && s) (e ∷ listed day es) (listed day es)))) ≤ 83 * cond o (suc (day_count day es)) (day_count day es)
      go true true l m = rw length-append (omega arith)
      go true false l m = omega arith
      go false s l m = m

pub entries-all : (b : Book) (t : BookRows) → book_good b t ≡ true → all_from (entry_good b) 0 (entries_of t b.used) ≡ true
unfolding book_good
entries-all b t h = and_left _ (days_good (entries_of t b.used)) (and_right (book_head b) _ (and_right (book_lent b t) _ h))

-- so each has room in 65,536 bytes
pub registry-few : (b : Book) (t : BookRows) (day : Day) → book_good b t ≡ true → length (registry_of day (entries_of t b.used)) ≤ 65536
registry-few b t day h =
    omega (arith, registry-size b day 0 (entries_of t b.used) (entries-all b t h), (good_book b t h).days day)

-- ---- a loop that has written the lines of the first i entries: what is left to write gives the whole
pub record LinesLeft (day : Day) (es : List Entry) (out₀ out : List ℕ) (at i : ℕ) : Type 0 where
  pub room : at + length (registry_of day (drop i es)) ≤ length out
  pub cursor : cursor_after out₀ 0 (registry_of day es) ≡ cursor_after out at (registry_of day (drop i es))
  pub text : written out₀ 0 (registry_of day es) ≡ written out at (registry_of day (drop i es))

module _ (b : Book) (t : BookRows) (day : Day) where
  abbrev es : List Entry
  es = entries_of t b.used

  pub lines_start : (out : List ℕ) → book_good b t ≡ true → 65536 ≤ length out → LinesLeft day es out out 0 0
  lines_start out g l = record { room = omega (arith, registry-few b t day g); cursor = refl; text = refl }

  module _ {out₀ out : List ℕ} {at i : ℕ} (left : LinesLeft day es out₀ out at i) where
    module _ (e : Entry) (h : i < b.used) (is : e ≡ entry_at t i) (l : Bool) (el : l ≡ is_listed day e) where
      pub lines-skip : l ≡ false → (p : ℕ) → p ≡ at → (d : List ℕ) → d ≡ out → LinesLeft day es out₀ d p (i + 1)
      lines-skip n p ep d ed =
          let skip : registry_of day (drop i es) ≡ registry_of day (drop (i + 1) es) = ap (registry_of day) (entries-rest t b.used i e h is) ∙ registry-skip day e (drop (i + 1) es) (sym el ∙ n) in
          rw (ep, ed) (record { room = rw (← skip) left.room; cursor = left.cursor ∙ rw skip; text = left.text ∙ rw skip })

      module _ (y : l ≡ true) (good : book_good b t ≡ true) (x : Line) (ex : x ≡ entry_line e)
          (p : ℕ) (ep : p ≡ cursor_after out at (line_text x)) (d : List ℕ) (ed : d ≡ written out at (line_text x)) where
        text : line_text x ≡ line_bytes (entry_line e)
        text =
            ap line_text ex
            ∙ text-is (entry_line e) (entry-line e (in-range b t good i h e is))

        line : registry_of day (drop i es) ≡ line_text x ++ registry_of day (drop (i + 1) es)
        line =
            ap (registry_of day) (entries-rest t b.used i e h is)
            ∙ registry-line day e (drop (i + 1) es) (sym el ∙ y)
            ∙ ap (λ (s : List ℕ). s ++ registry_of day (drop (i + 1) es)) (sym text)

        room-both : at + (length (line_text x) + length (registry_of day (drop (i + 1) es))) ≤ length out
        room-both = let m : length (registry_of day (drop i es)) ≡ length (line_text x) + length (registry_of day (drop (i + 1) es)) = ap length line ∙ length-append (line_text x) _ in omega (arith, left.room)

        line-room : p + length (registry_of day (drop (i + 1) es)) ≤ length d
        line-room =
            let f : at + length (line_text x) ≤ length out = omega (arith, room-both) in
            let q : at + length (line_text x) ≡ p = cursor-moves out at (line_text x) f ∙ sym ep in
            let k : length d ≡ length out = ap length ed ∙ written-length out at (line_text x) in
            omega (arith, room-both)

        pub lines-line : LinesLeft day es out₀ d p (i + 1)
        lines-line =
            record {
              room = line-room;
              cursor = left.cursor ∙ ap (cursor_after out at) line ∙ sym (cursor-then out at (line_text x) (registry_of day (drop (i + 1) es)) room-both) ∙ rw (ep, ed);
              text = left.text ∙ ap (written out at) line ∙ sym (written_then out at (line_text x) (registry_of day (drop (i + 1) es)) room-both) ∙ rw (ep, ed);
            }

    pub lines-end : b.used ≤ i → (at ≡ cursor_after out₀ 0 (registry_of day es)) × (out ≡ written out₀ 0 (registry_of day es))
    unfolding registry_of listed registry_bytes
    lines-end h =
        let l : length es ≤ i = omega (arith, length-entries t b.used) in
        let none : registry_of day (drop i es) ≡ [] = ap (registry_of day) (drop_of_length-le es l) in
        let m : length (registry_of day (drop i es)) ≡ 0 = ap length none in
        let fits : at + 0 ≤ length out = omega (arith, left.room) in (
          sym (left.cursor ∙ ap (cursor_after out at) none ∙ sym (cursor-moves out at [] fits) ∙ add-zero at),
          sym (left.text ∙ ap (written out at) none ∙ sym (written_over out at [] fits) ∙ over_none out at),
        )
