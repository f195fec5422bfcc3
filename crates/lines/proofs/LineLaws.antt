-- Laws of a line's fields, at each way out of its reader and of the test of a line.
use Rattle.std.specs.Prelude.{Option, Some, None}
use Prim.Native.Nat.{ℕ, ◌+◌, ◌-◌, ◌*◌, ◌^◌, ◌≤◌, ◌<◌}
use native.Mathlib.Numerals.{add-one}
use native.Mathlib.Omega.{arith}
use mir.Syntax.{w64}
use mir.Val.{Fits}
use lib.ListN.{length, get_or, take, drop, take-append-drop, length-drop}
use lib.Seq.{length-take-le, drop-drop}
use lib.Dec.{eqb, leb}
use Rattle.texts.specs.Lists.{find}
use Rattle.texts.specs.Digits.{is_digit}
use Rattle.texts.proofs.Tests.{and_left, by-test, no-claim}
use Rattle.texts.proofs.ListLaws.{drop-next}
use Rattle.texts.proofs.FindLaws.{find-behind}
use Rattle.texts.proofs.ScanLaws.{find-le}
use mathlib.Core.Path.{◌≡◌, refl, sym, ap, ◌∙◌}
use mathlib.Core.List.{List, ◌∷◌, ◌++◌}
use mathlib.Core.Bool.{Bool, true, false, cond, not}
use borrow.Author.Tests.{ne_eqb, leb-true, not-true, not-false}
use Rattle.fields.specs.declared.number.Number.{Number}
use Rattle.fields.specs.Amount.{amount_read}
use Rattle.fields.specs.Codes.{receipt_read, kind_read}
use Rattle.fields.specs.Number.{is_number_text, number_of, number_read}
use Rattle.fields.proofs.NumberLaws.{number_short}
use Rattle.days.specs.declared.calendar.Day.{Day}
use Rattle.days.specs.Calendar.{on_day}
use Rattle.dates.specs.Date.{date_day, found, is_written, date_read}
use Rattle.dates.proofs.DateLaws.{on-written, written-parts, date-bytes}
use Rattle.lines.specs.declared.line.Line.{Line}
use Rattle.lines.specs.declared.line.Found.{Found}
use Rattle.lines.specs.declared.line.Paid.{Paid}
use Rattle.lines.specs.Line.{field, after_field, line_of, line_read, is_read_on}
use Rattle.lines.specs.LineText.{EndsDate, line_kept, line_read_on, line_with, line_paid, PaidIn, FoundIn}

pub behind-fits : (s : List ℕ) (p : ℕ) → p ≡ find 9 s → length s * 1 < 2 ^ 63 → Fits w64 (p + 1)
behind-fits s p e h = let l : p ≤ length s = rw e (find-le 9 s) in omega arith

-- ---- where the date ends
none_written : (x : Option Day) → found x ≡ false → x ≡ None
none_written (Some y) e = no-claim (sym e)
none_written None e = refl

untabbed : (b : ℕ) → is_digit b ≡ true → not (eqb b 9) ≡ true
untabbed b h = ap not (ne_eqb b 9 (λ e. omega (arith, e, leb-true 48 b (and_left (leb 48 b) (leb b 57) h))))

module _ (s : List ℕ) where
  pub ends_found : (p : ℕ) → p ≡ find 9 s → EndsDate s p
  ends_found p e = (rw e, λ _. e, rw e (find-le 9 s))

  module _ (l : 20 ≤ length s) (t : get_or s 19 0 ≡ 9) where
    cut : take 19 s ++ (9 ∷ drop 20 s) ≡ s
    cut = ap (λ (u : List ℕ). take 19 s ++ u) (sym (drop-next s 19 l ∙ ap (λ (b : ℕ). b ∷ drop 20 s) t)) ∙ take-append-drop 19 s

    -- no byte of a date is 09
    written-end : is_written (take 19 s) ≡ true → 19 ≡ find 9 s
    written-end h =
        let every-other = date-bytes (λ b. not (eqb b 9)) (take 19 s) untabbed refl refl refl h in
        let k : length (take 19 s) ≡ 19 = (written-parts (take 19 s) h).size in
        sym (ap (find 9) (sym cut) ∙ find-behind (λ b. not (eqb b 9)) 9 (take 19 s) (drop 20 s) refl every-other ∙ k)

    field_end : is_written (field s) ≡ true → 19 ≡ find 9 s
    field_end h = sym (sym (length-take-le (find 9 s) s (find-le 9 s)) ∙ (written-parts (field s) h).size)

    same-date : date_day (take 19 s) ≡ date_day (field s)
    same-date =
        by-test (is_written (take 19 s))
        (λ y. ap (λ (n : ℕ). date_day (take n s)) (written-end y))
        (λ n.
        by-test (is_written (field s))
        (λ y. ap (λ (k : ℕ). date_day (take k s)) (field_end y))
        (λ m. none_written (date_day (take 19 s)) n ∙ sym (none_written (date_day (field s)) m)))

    pub ends-nineteen : EndsDate s 19
    ends-nineteen = (same-date, written-end, omega arith)

pub end_fits : (s : List ℕ) (p : ℕ) → EndsDate s p → length s * 1 < 2 ^ 63 → Fits w64 (p + 1)
end_fits s p ends h = omega (arith, ends.2)

-- ---- a line of five fields
pub line-fields : (s s₁ s₂ s₃ f₁ f₂ f₃ f₄ f₅ : List ℕ) (n : Option Number) (k : Option ℕ) (d : Option (List ℕ)) (a r : Option ℕ) (x : Option Line)
    → f₁ ≡ field s → n ≡ number_read f₁ → s₁ ≡ after_field s → f₂ ≡ field s₁ → k ≡ kind_read f₂ → s₂ ≡ after_field s₁ → f₃ ≡ field s₂ → d ≡ date_read f₃
    → s₃ ≡ after_field s₂ → f₄ ≡ field s₃ → a ≡ amount_read f₄ → f₅ ≡ after_field s₃ → r ≡ receipt_read f₅ → x ≡ line_of n k d a r → x ≡ line_read s
unfolding line_read
line-fields s s₁ s₂ s₃ f₁ f₂ f₃ f₄ f₅ n k d a r x g₁ en e₁ g₂ ek e₂ g₃ ed e₃ g₄ ea g₅ er e =
    e ∙ rw (en, ek, ed, ea, er, g₁, g₂, g₃, g₄, g₅, e₃, e₂, e₁)

-- ---- a line of the day
module _ (day : Day) where
  -- a date that is not on the day
  of-off : (n : Option Number) (k : Option ℕ) (f : List ℕ) (a r : Option ℕ) → on_day day (date_day f) ≡ false → line_kept day (line_of n k (date_read f) a r) ≡ None
  of-off None k f a r o = refl
  of-off (Some n) None f a r o = refl
  of-off (Some n) (Some k) f a r o = go (is_written f) refl a r
    where
      go : (q : Bool) → is_written f ≡ q → (a r : Option ℕ) → line_kept day (line_of (Some n) (Some k) (date_read f) a r) ≡ None
      go false ew a r = unfold date_read in rw ew
      go true ew None r = unfold date_read in rw ew
      go true ew (Some a) None = unfold date_read in rw ew
      go true ew (Some a) (Some r) = unfold date_read in rw (ew, o)

  -- ---- the text of date, amount and receipt
  module _ (s : List ℕ) where
    unpaid : ((name : List ℕ) (k : ℕ) → None ≡ line_with day name k s) → PaidIn day s None
    unpaid bad = record { line = bad; room = λ y h. cc }

    module _ (p : ℕ) (ends : EndsDate s p) (f : List ℕ) (ef : f ≡ take p s) (t : Bool) (judged : t ≡ on_day day (date_day f)) where
      pub paid-off : not t ≡ true → PaidIn day s None
      unfolding line_with
      paid-off h =
          let s₁ = after_field s in
          let off : on_day day (date_day (field s)) ≡ false = ap (on_day day) (sym (ap date_day ef ∙ ends.0)) ∙ sym judged ∙ not-true t h in
          unpaid (λ name k. sym (of-off (Some (number_of name)) (Some k) (field s) (amount_read (field s₁)) (receipt_read (after_field s₁)) off))

      module _ (held : not t ≡ false) where
        on-day : on_day day (date_day f) ≡ true
        on-day = sym judged ∙ not-false t held

        written : is_written f ≡ true
        written = on-written f day on-day

        -- a date that was found on the day ends where its field does
        date-ends : p ≡ find 9 s
        date-ends = ends.1 (ap is_written (sym ef) ∙ written)

        nineteen : p ≡ 19
        nineteen = sym (length-take-le p s ends.2) ∙ ap length (sym ef) ∙ (written-parts f written).size

        module _ (s₁ : List ℕ) (e₁ : s₁ ≡ drop (p + 1) s) (q : ℕ) (tab : q ≡ find 9 s₁) (f₁ : List ℕ) (g₁ : f₁ ≡ take q s₁) (a : Option ℕ) (ea : a ≡ amount_read f₁) where
          behind : s₁ ≡ after_field s
          behind = e₁ ∙ rw (date-ends, add-one)

          amount-is : a ≡ amount_read (field (after_field s))
          amount-is = ea ∙ ap amount_read (g₁ ∙ rw (tab, behind))

          date-is : date_read (field s) ≡ Some f
          unfolding date_read
          date-is = let g : field s ≡ f = rw (← date-ends) (sym ef) in rw (g, written)

          pub paid-no-amount : a ≡ None → (x : Option Paid) → x ≡ None → PaidIn day s x
          unfolding line_with
          paid-no-amount m x none = let z : amount_read (field (after_field s)) ≡ None = sym amount-is ∙ m in rw none (unpaid (λ name k. rw (date-is, z)))

          module _ (w : ℕ) (aw : a ≡ Some w) (f₂ : List ℕ) (g₂ : f₂ ≡ drop (q + 1) s₁) (r : Option ℕ) (er : r ≡ receipt_read f₂) where
            receipt-is : r ≡ receipt_read (after_field (after_field s))
            receipt-is = er ∙ ap receipt_read (g₂ ∙ rw (tab, add-one, behind))

            pub paid-no-receipt : r ≡ None → (x : Option Paid) → x ≡ None → PaidIn day s x
            unfolding line_with
            paid-no-receipt m x none =
                let za : amount_read (field (after_field s)) ≡ Some w = sym amount-is ∙ aw in
                let zr : receipt_read (after_field (after_field s)) ≡ None = sym receipt-is ∙ m in
                rw none (unpaid (λ name k. rw (date-is, za, zr)))

            pub paid-good : (u : ℕ) → r ≡ Some u → PaidIn day s (Some (record { amount = w; receipt = u }))
            unfolding line_with
            paid-good u ru =
                let za : amount_read (field (after_field s)) ≡ Some w = sym amount-is ∙ aw in
                let zr : receipt_read (after_field (after_field s)) ≡ Some u = sym receipt-is ∙ ru in
                let date : take 19 s ≡ f = rw (← nineteen) (sym ef) in
                record { line = λ name k. rw (za, zr, date, date-is, on-day); room = λ _ _. omega (arith, nineteen, ends.2) }

  -- ---- the whole text
  module _ (s : List ℕ) where
    unfound : None ≡ line_read_on day s → FoundIn day s None
    unfound bad = record { line = bad; stands = λ y h. cc }

    module _ (p : ℕ) (tab : p ≡ find 9 s) (f : List ℕ) (ef : f ≡ take p s) (t : Bool) (judged : t ≡ is_number_text f) where
      first_field : f ≡ field s
      first_field = ef ∙ rw tab

      pub found-no-number : not t ≡ true → FoundIn day s None
      unfolding line_read line_read_on number_read
      found-no-number h =
          let z : is_number_text (field s) ≡ false = rw (← first_field, ← judged) (not-true t h) in
          unfound (rw z)

      module _ (held : not t ≡ false) (s₁ : List ℕ) (e₁ : s₁ ≡ drop (p + 1) s) (q : ℕ) (tab₁ : q ≡ find 9 s₁) (f₁ : List ℕ) (g₁ : f₁ ≡ take q s₁) (k : Option ℕ) (ek : k ≡ kind_read f₁) where
        behind-number : s₁ ≡ after_field s
        behind-number = e₁ ∙ rw (tab, add-one)

        kind-is : k ≡ kind_read (field (after_field s))
        kind-is = ek ∙ ap kind_read (g₁ ∙ rw (tab₁, behind-number))

        number-is : number_read (field s) ≡ Some (number_of f)
        unfolding number_read
        number-is =
            let z : is_number_text (field s) ≡ true = rw (← first_field, ← judged) (not-false t held) in
            rw z (ap (λ (u : List ℕ). Some (number_of u)) (sym first_field))

        pub found-no-kind : k ≡ None → (x : Option Found) → x ≡ None → FoundIn day s x
        unfolding line_read line_read_on
        found-no-kind m x none = let z : kind_read (field (after_field s)) ≡ None = sym kind-is ∙ m in rw none (unfound (rw (number-is, z)))

        module _ (v : ℕ) (kv : k ≡ Some v) (s₂ : List ℕ) (e₂ : s₂ ≡ drop (q + 1) s₁) (y : Option Paid) (paid : PaidIn day s₂ y) where
          read-with : line_with day f v s₂ ≡ line_read_on day s
          unfolding line_read line_read_on line_with
          read-with =
              let zk : kind_read (field (after_field s)) ≡ Some v = sym kind-is ∙ kv in
              let zs : s₂ ≡ after_field (after_field s) = e₂ ∙ rw (tab₁, add-one, behind-number) in
              rw (zk, number-is, zs)

          date-at : drop (p + q + 2) s ≡ s₂
          date-at =
              let n : p + q + 2 ≡ p + 1 + (q + 1) = omega arith in
              rw (n, e₂, e₁) (sym (drop-drop (q + 1) (p + 1) s))

          pub found-unpaid : y ≡ None → (x : Option Found) → x ≡ None → FoundIn day s x
          found-unpaid e x none = rw none (unfound (sym (ap (line_paid f v s₂) e) ∙ paid.line f v ∙ read-with))

          pub found-line : (z : Paid) → y ≡ Some z → FoundIn day s (Some (record { len = p; kind = v; date = p + q + 2; amount = z.amount; receipt = z.receipt }))
          found-line z e =
              record {
                line = rw (date-at, ← ef) (sym (ap (line_paid f v s₂) e) ∙ paid.line f v ∙ read-with);
                stands = λ w h.
                    let l : length s₂ ≡ length s - (p + q + 2) = rw (← date-at) (length-drop (p + q + 2) s) in
                    let len : w.len ≡ p = cc in
                    let date : w.date ≡ p + q + 2 = cc in
                    record {
                      short = omega (arith, len, tab, size, number_short f t judged (not-false t held));
                      number = rw (len, tab) (find-le 9 s);
                      date = omega (arith, l, date, paid.room z e);
                    };
              }
            where
              size : length f ≡ p
              size = ap length ef ∙ length-take-le p s (rw tab (find-le 9 s))

  -- ---- a line that was read
  none-on : (z : Option Line) → None ≡ line_kept day z → is_read_on day z ≡ false
  none-on None e = refl
  none-on (Some x) e = go (on_day day (date_day x.date)) e
    where
      go : (t : Bool) → None ≡ cond t (Some x) None → t ≡ false
      go true q = cc
      go false q = refl

  some-on : (y : Line) (z : Option Line) → Some y ≡ line_kept day z → (Some y ≡ z) × (on_day day (date_day y.date) ≡ true)
  some-on y None e = cc
  some-on y (Some x) e = go (on_day day (date_day x.date)) refl e
    where
      go : (t : Bool) → on_day day (date_day x.date) ≡ t → Some y ≡ cond t (Some x) None → (Some y ≡ Some x) × (on_day day (date_day y.date) ≡ true)
      go true o q = let p : y ≡ x = cc in (q, rw p o)
      go false o q = cc

  module _ (l : List ℕ) where
    pub off-read : None ≡ line_read_on day l → is_read_on day (line_read l) ≡ false
    unfolding line_read_on
    off-read = none-on (line_read l)

    pub on_read : (y : Line) → Some y ≡ line_read_on day l → (Some y ≡ line_read l) × (on_day day (date_day y.date) ≡ true)
    unfolding line_read_on
    on_read y = some-on y (line_read l)
