-- Laws of what P prints of a day.
use Prim.Native.Nat.{ℕ, zero, suc, ◌+◌, ◌*◌, ◌≤◌, ◌<◌}
use native.Mathlib.Numerals.{add-one}
use native.Mathlib.Omega.{arith}
use mathlib.Core.Path.{◌≡◌, refl, sym, ap, subst, ◌∙◌}
use mathlib.Core.Bool.{Bool, true, false}
use mathlib.Core.List.{List, [], ◌∷◌, ◌++◌, append_assoc, append-nil}
use lib.ListN.{length, length-append}
use mir.Syntax.{w64}
use mir.Val.{Fits}
use Rattle.texts.specs.Digits.{decimal}
use Rattle.texts.specs.Lists.{written, cursor_after}
use Rattle.texts.proofs.OutLaws.{over_none}
use Rattle.lists.specs.Lists.{tab}
use Rattle.days.specs.declared.calendar.Day.{Day}
use Rattle.table.specs.declared.Record.{Record}
use Rattle.table.specs.Table.{Rows, record_at, records_of, done, cancelled}
use Rattle.table.specs.Daily.{stands_on, records_on, total_of}
use Rattle.table.proofs.DailyLaws.{on-next, on_one, on_none, on-few, total-append}
use Rattle.table.proofs.TableLaws.{length-records}
use Rattle.figures.specs.Daily.{record_text, records_text, sum_text, sum_of, day_text}
use Rattle.figures.specs.Listing.{Payable, Put, Summed}
use Rattle.figures.proofs.PrintLaws.{put_both, put-length, three-put, decimal-twenty}

-- ---- the lines of records
module _ (d : List ℕ) (at : ℕ) (fit : at + 64 ≤ length d) (r : Record)
    (p₁ : ℕ) (c₁ : p₁ ≡ cursor_after d at (decimal r.receipt)) (e₁ : List ℕ) (t₁ : e₁ ≡ written d at (decimal r.receipt))
    (p₂ : ℕ) (c₂ : p₂ ≡ cursor_after e₁ p₁ (32 ∷ decimal r.amount)) (e₂ : List ℕ) (t₂ : e₂ ≡ written e₁ p₁ (32 ∷ decimal r.amount))
    (p₃ : ℕ) (c₃ : p₃ ≡ cursor_after e₂ p₂ (32 ∷ decimal r.authcode)) (e₃ : List ℕ) (t₃ : e₃ ≡ written e₂ p₂ (32 ∷ decimal r.authcode)) where
  pub record-put : (q : ℕ) (e : List ℕ) → q ≡ cursor_after e₃ p₃ (10 ∷ []) → e ≡ written e₃ p₃ (10 ∷ []) → Put d at (record_text r) q e
  unfolding record_text
  record-put = three-put d at fit r.receipt r.amount p₁ c₁ e₁ t₁ p₂ c₂ e₂ t₂ r.authcode p₃ c₃ e₃ t₃

record-length : (r : Record) → length (record_text r) ≤ 64
unfolding record_text
record-length r = simp length-append (omega (arith, decimal-twenty r.receipt, decimal-twenty r.amount, decimal-twenty r.authcode))

records-append : (rs ss : List Record) → records_text (rs ++ ss) ≡ records_text rs ++ records_text ss
unfolding records_text
records-append [] ss = refl
records-append (r ∷ rs) ss = ap (λ (l : List ℕ). record_text r ++ l) (records-append rs ss) ∙ sym (append_assoc (record_text r) (records_text rs) (records_text ss))

records-length : (rs : List Record) → length (records_text rs) ≤ 64 * length rs
unfolding records_text
records-length [] = omega arith
records-length (r ∷ rs) = rw (length-append (record_text r)) (omega (arith, record-length r, records-length rs))

sum-length : (count total : ℕ) → length (sum_text count total) ≤ 64
unfolding sum_text
sum-length count total = simp length-append (omega (arith, decimal-twenty count, decimal-twenty total))

module _ (day : Day) where
  pub done-one : (r : Record) {d : List ℕ} {at p : ℕ} {e : List ℕ} → Put d at (record_text r) p e → (b : Bool) → b ≡ stands_on day done r → b ≡ true
      → Put d at (records_text (records_on day done (r ∷ []))) p e
  unfolding records_text
  done-one r {d} {at} {p} {e} put b eb h =
      subst (λ (x : List ℕ). Put d at x p e) (sym (ap records_text (on_one day done r (sym eb ∙ h)) ∙ append-nil (record_text r))) put

  pub done_none : (r : Record) (d : List ℕ) (at : ℕ) → at + 64 ≤ length d → (e : List ℕ) → e ≡ d → (b : Bool) → b ≡ stands_on day done r → b ≡ false
      → Put d at (records_text (records_on day done (r ∷ []))) at e
  unfolding records_text
  done_none r d at fit e ee b eb h =
      subst (λ (x : List ℕ). Put d at x at e) (sym (ap records_text (on_none day done r (sym eb ∙ h))))
      (record { fits = omega arith; cursor = omega arith; text = ee ∙ sym (over_none d at) })

  abbrev prefix : Rows → ℕ → List ℕ
  prefix t i = records_text (records_on day done (records_of t i))

  pub prefix-length : (t : Rows) (i : ℕ) → length (prefix t i) ≤ 64 * i
  prefix-length t i = omega (arith, records-length (records_on day done (records_of t i)), on-few day done (records_of t i), length-records t i)

  pub prefix-start : (t : Rows) (d : List ℕ) (at used : ℕ) → at + 64 * used ≤ length d → Put d at (prefix t 0) at d
  unfolding records_text records_on records_of tab
  prefix-start t d at used fit = record { fits = omega arith; cursor = omega arith; text = sym (over_none d at) }

  module _ (t : Rows) (i : ℕ) {d : List ℕ} {at p : ℕ} {e : List ℕ} (put : Put d at (prefix t i) p e) where
    pub prefix-room : (used : ℕ) → at + 64 * used ≤ length d → i < used → p + 64 ≤ length e
    prefix-room used fit h = omega (arith, put.cursor, put-length put, prefix-length t i)

    pub prefix-next : (r : Record) → r ≡ record_at t i → {q : ℕ} {f : List ℕ} → Put e p (records_text (records_on day done (r ∷ []))) q f → Put d at (prefix t (i + 1)) q f
    prefix-next r er {q} {f} one =
        subst (λ (x : List ℕ). Put d at x q f)
        (sym (ap records_text (on-next day done t i ∙ ap (λ (x : Record). records_on day done (records_of t i) ++ records_on day done (x ∷ [])) (sym er))
        ∙ records-append (records_on day done (records_of t i)) (records_on day done (r ∷ []))))
        (put_both put one)

-- ---- number and kopecks
module _ (day : Day) (state : ℕ) where
  -- 4,096 of less than 10^9 kopecks are far within 64 bits
  total-few : (t : Rows) (used : ℕ) → Payable t used → (i : ℕ) → i ≤ used → total_of (records_on day state (records_of t i)) ≤ i * 1000000000
  unfolding records_on records_of tab total_of
  total-few t used p zero h = omega arith
  total-few t used p (suc i) h = go (stands_on day state (record_at t i)) refl (total-few t used p i (omega arith))
    where
      next : records_on day state (records_of t (suc i)) ≡ records_on day state (records_of t i) ++ records_on day state (record_at t i ∷ [])
      next = ap (λ (k : ℕ). records_on day state (records_of t k)) (sym (add-one i)) ∙ on-next day state t i

      go : (b : Bool) → stands_on day state (record_at t i) ≡ b → total_of (records_on day state (records_of t i)) ≤ i * 1000000000
          → total_of (records_on day state (records_of t (suc i))) ≤ suc i * 1000000000
      go true e up =
          let more : total_of (records_on day state (records_of t (suc i))) ≡ total_of (records_on day state (records_of t i)) + (record_at t i).amount
          = ap total_of (next ∙ ap (λ (l : List Record). records_on day state (records_of t i) ++ l) (on_one day state (record_at t i) e))
          ∙ total-append (records_on day state (records_of t i)) (record_at t i ∷ []) ∙ omega arith in
          omega (arith, more, up, p.amounts i (omega arith))
      go false e up =
          let same : total_of (records_on day state (records_of t (suc i))) ≡ total_of (records_on day state (records_of t i))
          = ap total_of (next ∙ ap (λ (l : List Record). records_on day state (records_of t i) ++ l) (on_none day state (record_at t i) e) ∙ append-nil (records_on day state (records_of t i))) in
          omega (arith, same, up)

  pub summed-start : (t : Rows) → Summed day state (records_of t 0) 0 0
  unfolding records_on records_of tab total_of
  summed-start t = record { counted = refl; kopecks = refl }

  module _ (t : Rows) (used i count total : ℕ) (p : Payable t used) (s : Summed day state (records_of t i) count total) where
    pub summed-next : i < used → Fits w64 (count + 1)
    summed-next h = omega (arith, s.counted, on-few day state (records_of t i), length-records t i, p.few)

    pub summed-fits : i < used → (r : Record) → r ≡ record_at t i → Fits w64 (total + r.amount)
    summed-fits h r er =
        let few : r.amount < 1000000000 = rw er (p.amounts i h) in
        omega (arith, few, s.kopecks, total-few t used p i (omega arith), p.few)

    module _ (h : i < used) (r : Record) (er : r ≡ record_at t i) (b : Bool) (eb : b ≡ stands_on day state r) where
      next : records_on day state (records_of t (i + 1)) ≡ records_on day state (records_of t i) ++ records_on day state (r ∷ [])
      next = on-next day state t i ∙ ap (λ (x : Record). records_on day state (records_of t i) ++ records_on day state (x ∷ [])) (sym er)

      pub summed-skip : b ≡ false → Summed day state (records_of t (i + 1)) count total
      summed-skip n =
          let same : records_on day state (records_of t (i + 1)) ≡ records_on day state (records_of t i)
          = next ∙ ap (λ (l : List Record). records_on day state (records_of t i) ++ l) (on_none day state r (sym eb ∙ n)) ∙ append-nil _ in
          record { counted = s.counted ∙ ap length (sym same); kopecks = s.kopecks ∙ ap total_of (sym same) }

      pub summed-more : b ≡ true → Summed day state (records_of t (i + 1)) (count + 1) (total + r.amount)
      unfolding total_of
      summed-more n =
          let more : records_on day state (records_of t (i + 1)) ≡ records_on day state (records_of t i) ++ (r ∷ [])
          = next ∙ ap (λ (l : List Record). records_on day state (records_of t i) ++ l) (on_one day state r (sym eb ∙ n)) in
          record {
            counted = rw (more, length-append (records_on day state (records_of t i)) (r ∷ [])) (omega (arith, s.counted));
            kopecks = rw (more, total-append (records_on day state (records_of t i)) (r ∷ [])) (omega (arith, s.kopecks));
          }

-- ---- the whole day
module _ (day : Day) (t : Rows) (used at : ℕ) (d : List ℕ) (fit : at + 64 * (used + 2) ≤ length d) (p₁ : ℕ) (e₁ : List ℕ) (put₁ : Put d at (prefix day t used) p₁ e₁) where
  pub sum_room : p₁ + 64 ≤ length e₁
  sum_room = omega (arith, put₁.cursor, put-length put₁, prefix-length day t used)

  module _ (count total : ℕ) (s₁ : Summed day done (records_of t used) count total) (p₂ : ℕ) (e₂ : List ℕ) (put₂ : Put e₁ p₁ (sum_text count total) p₂ e₂) where
    pub last-room : p₂ + 64 ≤ length e₂
    last-room =
        omega (arith, put₁.cursor, put-length put₁, prefix-length day t used, put₂.cursor, put-length put₂, sum-length count total)

    pub day-put : (count' total' : ℕ) → Summed day cancelled (records_of t used) count' total' → (p₃ : ℕ) (e₃ : List ℕ) → Put e₂ p₂ (sum_text count' total') p₃ e₃
        → Put d at (day_text day (records_of t used)) p₃ e₃
    unfolding day_text
    day-put count' total' s₂ p₃ e₃ put₃ =
        subst (λ (x : List ℕ). Put d at x p₃ e₃)
        (rw (s₁.counted, s₁.kopecks, s₂.counted, s₂.kopecks) (append_assoc (prefix day t used) (sum_of (records_on day done (records_of t used))) (sum_of (records_on day cancelled (records_of t used)))))
        (put_both (put_both put₁ put₂) put₃)

-- a line for each record, and two
pub day-length : (day : Day) (t : Rows) (used : ℕ) → length (day_text day (records_of t used)) ≤ 64 * (used + 2)
unfolding day_text
day-length day t used =
    let paid = records_on day done (records_of t used) in
    let revoked = records_on day cancelled (records_of t used) in
    rw (length-append (prefix day t used) (sum_of paid ++ sum_of revoked), length-append (sum_of paid) (sum_of revoked))
    (omega (arith, prefix-length day t used, sum-length (length paid) (total_of paid), sum-length (length revoked) (total_of revoked)))
