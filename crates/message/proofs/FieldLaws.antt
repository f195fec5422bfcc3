-- Laws of the fields of a request.
use Rattle.std.specs.Prelude.{Option, Some, None, is_some, Result, Ok, Err}
use Rattle.std.specs.Option.{ok_or}
use Prim.Native.Nat.{ℕ, suc, ◌+◌, ◌*◌, ◌≤◌, ◌<◌}
use native.Mathlib.Omega.{arith}
use mathlib.Core.Path.{◌≡◌, refl, sym, ap, ◌∙◌}
use mathlib.Core.List.{List, [], ◌∷◌}
use mathlib.Core.Bool.{Bool, true, false, cond, not}
use lib.Dec.{leb, eqb}
use lib.ListN.{length, get_or, take, drop, length-drop}
use lib.Seq.{length-take-le}
use borrow.Author.Tests.{not-true, not-false, leb-true, leb-false}
use Rattle.texts.specs.Digits.{digits_read, range_read}
use Rattle.fields.specs.Amount.{kopecks_after, kopecks_from, amount_of, amount_read}
use Rattle.fields.specs.Codes.{receipt_read, kind_read, reason_read}
use Rattle.texts.specs.Lists.{find, eq_list}
use Rattle.fields.specs.declared.number.Number.{Number}
use Rattle.fields.specs.Number.{is_number_text, number_of, number_read}
use Rattle.dates.specs.Date.{is_written, empty_date, date_read}
use Rattle.texts.proofs.Tests.{cond-elim}
use Rattle.texts.proofs.DigitLaws.{read-long}
use Rattle.fields.proofs.NumberLaws.{text-empty, text-long, number_short, number-good, number-bad}
use Rattle.dates.proofs.DateLaws.{date-size, date-again, written-parts}
use Rattle.texts.proofs.ScanLaws.{find-le, lengths_differ}
use Rattle.coding.specs.Url.{hex_value, decoded, decoded_within}
use Rattle.payments.specs.declared.Action.{Action}
use Rattle.payments.specs.declared.Action.TheVariants.{Check, Payment, Status, Cancel}
use Rattle.parameters.specs.Names.{action_word, action_of, has_account, has_receipt, has_date, has_reason}
use Rattle.parameters.specs.Slots.{Slot, Absent, Holds}
use Rattle.parameters.specs.SlotWalk.{slots_in, is_given, clipped_text}
use Rattle.parameters.proofs.SlotLaws.{not-given, is-given}
use Rattle.message.specs.declared.request.Fault.{Fault}
use Rattle.message.specs.Request.{held, field_of, unused_number, receipt_field, number_field, kind_field, amount_field, date_field, reason_field, fault_in, first_fault}

-- ---- decoding shortens a text at most to a third
decoded-least : (s : List ℕ) → length s ≤ 3 * length (decoded s)
unfolding decoded
decoded-least [] = omega arith
decoded-least (b ∷ []) = omega arith
decoded-least (b ∷ (h ∷ [])) = omega arith
decoded-least (b ∷ (h ∷ (l ∷ s))) =
    cond-elim (λ (x : List ℕ). suc (suc (suc (length s))) ≤ 3 * length x) (eqb b 37) ((hex_value h * 16 + hex_value l) ∷ decoded s) (b ∷ decoded (h ∷ (l ∷ s)))
    (λ _. omega (arith, decoded-least s))
    (λ _. omega (arith, decoded-least (h ∷ (l ∷ s))))

-- ---- a field by a reader that takes no long text and no empty one
module _ {A : Type 0} (absent : A) (read : List ℕ → A) (none : (w : List ℕ) → 32 < length w → read w ≡ read []) (empty : read [] ≡ absent) where
  clipped-same : (v : List ℕ) → read (decoded_within 96 v) ≡ read (decoded v)
  unfolding decoded_within
  clipped-same v = go (leb (length v) 96) refl
    where
      go : (t : Bool) → leb (length v) 96 ≡ t → read (cond t (decoded v) []) ≡ read (decoded v)
      go true t = refl
      go false t =
          let l : 96 < length v = leb-false (length v) 96 t in
          sym (none (decoded v) (omega (arith, decoded-least v)))

  text-read : (z : Slot) → read (clipped_text z) ≡ held absent read z
  unfolding held
  text-read Absent = empty
  text-read (Holds v) = clipped-same v

  pub held-read : (z : Slot) (b : List ℕ) → b ≡ clipped_text z → (r : A) → r ≡ read b → r ≡ held absent read z
  held-read z b eb r q = q ∙ rw eb (text-read z)

-- ---- the same for a field that the action may lack
module _ {A : Type 0} (used : Bool) (fixed absent : A) (read : List ℕ → A) (u : Bool) (is : u ≡ used) where
  pub field-lacks : (k : Slot) (r : A) → r ≡ fixed → not u ≡ true → r ≡ field_of used fixed absent read k
  unfolding field_of
  field-lacks k r q h = rw (← is, not-true u h) q

  pub field-read : ((w : List ℕ) → 32 < length w → read w ≡ read []) → read [] ≡ absent → not u ≡ false
      → (z : Slot) (b : List ℕ) → b ≡ clipped_text z → (r : A) → r ≡ read b → r ≡ field_of used fixed absent read z
  unfolding field_of
  field-read none empty h z b eb r q = rw (← is, not-false u h) (held-read absent read none empty z b eb r q)

-- ---- no reader takes more than 32 bytes
digits_long : (most : ℕ) → most ≤ 32 → (w : List ℕ) → 32 < length w → digits_read most w ≡ None
digits_long most m w h = sym (read-long most w (omega arith))

range-long : (most low high : ℕ) → most ≤ 32 → (w : List ℕ) → 32 < length w → range_read most low high w ≡ range_read most low high []
unfolding range_read digits_read
range-long most low high m w h = rw (digits_long most m w h)

receipt-long : (w : List ℕ) → 32 < length w → receipt_read w ≡ receipt_read []
receipt-long = range-long 15 1 999999999999999 (omega arith)

pub kind-long : (w : List ℕ) → 32 < length w → kind_read w ≡ kind_read []
kind-long = range-long 3 0 999 (omega arith)

reason-long : (w : List ℕ) → 32 < length w → reason_read w ≡ reason_read []
reason-long = range-long 1 1 5 (omega arith)

number-empty : number_read [] ≡ None
number-empty = sym (number-bad [] false (text-empty [] refl) refl)

number-none : (w : List ℕ) → 32 < length w → number_read w ≡ number_read []
number-none w h = sym (number-bad w false (text-long w (omega arith)) refl) ∙ sym number-empty

date-empty : date_read [] ≡ None
date-empty = sym (date-size [] (λ e. omega arith))

date-none : (w : List ℕ) → 32 < length w → date_read w ≡ date_read []
date-none w h = sym (date-size w (λ e. omega arith)) ∙ sym date-empty

pub action-none : (w : List ℕ) → 32 < length w → action_of w ≡ action_of []
unfolding action_of action_word eq_list
action-none w h = rw (← differs (action_word Check) (omega arith), ← differs (action_word Payment) (omega arith), ← differs (action_word Status) (omega arith), ← differs (action_word Cancel) (omega arith))
  where
    differs : (x : List ℕ) → length x ≤ 32 → false ≡ eq_list w x
    differs x l = lengths_differ w x (λ e. omega arith)

-- an amount's whole part has at most 7 bytes, and what stands from the point on at most 3
kopecks-long : (t : List ℕ) → 3 < length t → kopecks_from t ≡ None
unfolding kopecks_after
kopecks-long [] h = absurd (omega arith)
kopecks-long (p ∷ f) h = rw (← read-long 2 f (omega arith))

amount-part-bad : (w : Option ℕ) → amount_of w None ≡ None
amount-part-bad None = refl
amount-part-bad (Some x) = refl

amount-none : (w : List ℕ) → 32 < length w → amount_read w ≡ amount_read []
unfolding amount_read digits_read find
amount-none w h = go (leb (find 46 w) 7) refl
  where
    size : length (take (find 46 w) w) ≡ find 46 w
    size = length-take-le (find 46 w) w (find-le 46 w)

    go : (t : Bool) → leb (find 46 w) 7 ≡ t → amount_read w ≡ None
    go true t =
        let l : find 46 w ≤ 7 = leb-true (find 46 w) 7 t in
        let k : 3 < length (drop (find 46 w) w) = rw length-drop (omega arith) in
        rw (kopecks-long (drop (find 46 w) w) k) (amount-part-bad (digits_read 7 (take (find 46 w) w)))
    go false t =
        let l : 7 < length (take (find 46 w) w) = rw size (leb-false (find 46 w) 7 t) in
        rw (← read-long 7 (take (find 46 w) w) l)

-- ---- what the digit readers make of nothing
receipt-empty : receipt_read [] ≡ None
unfolding range_read digits_read
receipt-empty = refl

amount-empty : amount_read [] ≡ None
unfolding amount_read digits_read find
amount-empty = refl

reason-empty : reason_read [] ≡ None
unfolding range_read digits_read
reason-empty = refl

pub action-empty : action_of [] ≡ None
unfolding action_of action_word eq_list
action-empty = refl

-- ---- the digit fields
module _ (a : Action) (t : List Slot) (u : Bool) where
  pub receipt-lacks : u ≡ has_receipt a → not u ≡ true → Some 0 ≡ receipt_field a t
  receipt-lacks is h = field-lacks (has_receipt a) (Some 0) None receipt_read u is (get_or t 4 Absent) (Some 0) refl h

  pub receipt-is : u ≡ has_receipt a → not u ≡ false → (b : List ℕ) → b ≡ clipped_text (get_or t 4 Absent) → (r : Option ℕ) → r ≡ receipt_read b → r ≡ receipt_field a t
  receipt-is is h = field-read (has_receipt a) (Some 0) None receipt_read u is receipt-long receipt-empty h (get_or t 4 Absent)

  pub amount-lacks : u ≡ has_account a → not u ≡ true → Some 0 ≡ amount_field a t
  amount-lacks is h = field-lacks (has_account a) (Some 0) None amount_read u is (get_or t 3 Absent) (Some 0) refl h

  pub amount-is : u ≡ has_account a → not u ≡ false → (b : List ℕ) → b ≡ clipped_text (get_or t 3 Absent) → (r : Option ℕ) → r ≡ amount_read b → r ≡ amount_field a t
  amount-is is h = field-read (has_account a) (Some 0) None amount_read u is amount-none amount-empty h (get_or t 3 Absent)

  pub reason-lacks : u ≡ has_reason a → not u ≡ true → Some 0 ≡ reason_field a t
  reason-lacks is h = field-lacks (has_reason a) (Some 0) None reason_read u is (get_or t 6 Absent) (Some 0) refl h

  pub reason-is : u ≡ has_reason a → not u ≡ false → (b : List ℕ) → b ≡ clipped_text (get_or t 6 Absent) → (r : Option ℕ) → r ≡ reason_read b → r ≡ reason_field a t
  reason-is is h = field-read (has_reason a) (Some 0) None reason_read u is reason-long reason-empty h (get_or t 6 Absent)

  pub kind-lacks : u ≡ has_account a → not u ≡ true → Some 0 ≡ kind_field a t
  kind-lacks is h = field-lacks (has_account a) (Some 0) (Some 1) kind_read u is (get_or t 2 Absent) (Some 0) refl h

-- the type: an absent one is 1
module _ (a : Action) (s : List ℕ) (t : List (List ℕ)) (sizes : 7 ≡ length t) (u : Bool) (has : u ≡ has_account a) (used : not u ≡ false) (g : Bool) (given : g ≡ is_given t 2) where
  pub kind-absent : not g ≡ true → Some 1 ≡ kind_field a (slots_in s t)
  unfolding field_of held
  kind-absent h = rw (not-given s t 2 (omega arith) sizes (sym given ∙ not-true g h), ← has, not-false u used)

  pub kind-given : not g ≡ false → (b : List ℕ) → b ≡ clipped_text (get_or (slots_in s t) 2 Absent) → (r : Option ℕ) → r ≡ kind_read b → r ≡ kind_field a (slots_in s t)
  unfolding field_of held
  kind-given h b eb r q =
      q ∙ rw (eb, ← has, not-false u used) (go (get_or (slots_in s t) 2 Absent) (is-given s t 2 (omega arith) sizes (sym given ∙ not-false g h)))
    where
      go : (z : Slot) → (z ≡ Absent → ⊥) → kind_read (clipped_text z) ≡ held (Some 1) kind_read z
      go Absent n = absurd (n refl)
      go (Holds v) n = clipped-same (kind_read []) kind_read kind-long refl v

-- ---- number and date, judged and then kept
number_ok : (b : List ℕ) → is_number_text b ≡ is_some (number_read b)
unfolding number_read
number_ok b = go (is_number_text b)
  where
    go : (c : Bool) → c ≡ is_some (cond c (Some (number_of b)) None)
    go true = refl
    go false = refl

date-ok : (b : List ℕ) → is_written b ≡ is_some (date_read b)
unfolding date_read
date-ok b = go (is_written b)
  where
    go : (c : Bool) → c ≡ is_some (cond c (Some b) None)
    go true = refl
    go false = refl

module _ (a : Action) (t : List Slot) (u : Bool) (is : u ≡ has_account a) where
  lacked : not u ≡ true → number_field a t ≡ Some unused_number
  lacked h = sym (field-lacks (has_account a) (Some unused_number) None number_read u is (get_or t 1 Absent) (Some unused_number) refl h)

  pub number-lacked : not u ≡ true → true ≡ is_some (number_field a t)
  number-lacked h = rw (lacked h)

  pub number-unused : not u ≡ true → (r : Number) → r ≡ unused_number → number_field a t ≡ Some r
  number-unused h r q = lacked h ∙ rw q

  module _ (has : not u ≡ false) (b : List ℕ) (eb : b ≡ clipped_text (get_or t 1 Absent)) where
    number-is : number_read b ≡ number_field a t
    number-is = field-read (has_account a) (Some unused_number) None number_read u is number-none number-empty has (get_or t 1 Absent) b eb (number_read b) refl

    number-judge : is_number_text b ≡ is_some (number_field a t)
    number-judge = number_ok b ∙ ap is_some number-is

    pub number-judged : (r : Bool) → r ≡ is_number_text b → r ≡ is_some (number_field a t)
    number-judged r q = q ∙ number-judge

    module _ (good : is_some (number_field a t) ≡ true) where
      pub number_fits : length b ≤ 30
      number_fits = number_short b (is_number_text b) refl (number-judge ∙ good)

      pub number-kept : (r : Number) → r ≡ number_of b → number_field a t ≡ Some r
      number-kept r q = sym number-is ∙ sym (number-good b (is_number_text b) refl (number-judge ∙ good) r q)

module _ (a : Action) (t : List Slot) (u : Bool) (is : u ≡ has_date a) where
  undated : not u ≡ true → date_field a t ≡ Some empty_date
  undated h = sym (field-lacks (has_date a) (Some empty_date) None date_read u is (get_or t 5 Absent) (Some empty_date) refl h)

  pub date-lacked : not u ≡ true → true ≡ is_some (date_field a t)
  date-lacked h = rw (undated h)

  pub date-unused : not u ≡ true → (r : List ℕ) → r ≡ empty_date → date_field a t ≡ Some r
  date-unused h r q = undated h ∙ rw q

  module _ (has : not u ≡ false) (b : List ℕ) (eb : b ≡ clipped_text (get_or t 5 Absent)) where
    date-is : date_read b ≡ date_field a t
    date-is = field-read (has_date a) (Some empty_date) None date_read u is date-none date-empty has (get_or t 5 Absent) b eb (date_read b) refl

    date-judge : is_written b ≡ is_some (date_field a t)
    date-judge = date-ok b ∙ ap is_some date-is

    pub date-judged : (r : Bool) → r ≡ is_written b → r ≡ is_some (date_field a t)
    date-judged r q = q ∙ date-judge

    module _ (good : is_some (date_field a t) ≡ true) where
      pub date-fits : length b ≡ 19
      date-fits = (written-parts b (date-judge ∙ good)).size

      pub date-kept : (r : List ℕ) → r ≡ b → date_field a t ≡ Some r
      date-kept r q = sym date-is ∙ date-again b (date-judge ∙ good) ∙ rw q

pub ruleset receipt_laws = (receipt-lacks, receipt-is)

pub ruleset kind_laws = (kind-lacks, kind-absent, kind-given)

pub ruleset amount_laws = (amount-lacks, amount-is)

pub ruleset reason_laws = (reason-lacks, reason-is)

pub ruleset number_laws = (number-lacked, number-judged, number-unused, number_fits, number-kept)

pub ruleset date_laws = (date-lacked, date-judged, date-unused, date-fits, date-kept)

-- ---- no fault in a list of faults
pub fault-none : (f : Option Fault) (fs : List (Option Fault)) → first_fault (f ∷ fs) ≡ None → (f ≡ None) × (first_fault fs ≡ None)
unfolding first_fault
fault-none None fs h = (refl, h)
fault-none (Some f) fs h = let z : ◌≡◌ {A = ℕ} 0 1 = cc in absurd (omega arith)

module _ {A : Type 0} where
  -- a field without a fault is read
  pub field-some : (fault : Fault) (x : Option A) → fault_in fault x ≡ None → is_some x ≡ true
  field-some fault (Some v) h = refl
  field-some fault None h = let z : ◌≡◌ {A = ℕ} 0 1 = cc in absurd (omega arith)

  module _ (x : Option A) (fault : Fault) (y : Result A Fault) (is : y ≡ ok_or x fault) where
    pub was-some : (v : A) → y ≡ Ok v → x ≡ Some v
    was-some v q = go x (sym is ∙ q)
      where
        go : (z : Option A) → ok_or z fault ≡ Ok v → z ≡ Some v
        go (Some w) e = cc
        go None e = cc

    pub was-none : (e : Fault) → y ≡ Err e → (x ≡ None) × (fault ≡ e)
    was-none e q = go x (sym is ∙ q)
      where
        go : (z : Option A) → ok_or z fault ≡ Err e → (z ≡ None) × (fault ≡ e)
        go (Some w) h = let z : ◌≡◌ {A = ℕ} 0 1 = cc in absurd (omega arith)
        go None h = (refl, cc)
