-- Laws of a request, at each way out of its reader.
use Rattle.std.specs.Prelude.{Option, Some, None, is_some, Result, Ok, Err}
use Rattle.std.specs.Option.{ok_or}
use Prim.Native.Nat.{ℕ, ◌≤◌, ◌<◌}
use native.Mathlib.Omega.{arith}
use mathlib.Core.Path.{◌≡◌, refl, sym, ◌∙◌}
use mathlib.Core.List.{List, [], ◌∷◌}
use mathlib.Core.Bool.{Bool, true, false, not}
use lib.ListN.{length, get_or, replicate}
use borrow.Author.Tests.{not-true, not-false, le-leb, lt-leb}
use Rattle.fields.specs.declared.number.Number.{Number}
use Rattle.fields.specs.Amount.{amount_fault}
use Rattle.fields.specs.Codes.{receipt_fault, kind_fault, reason_fault}
use Rattle.fields.specs.Number.{number_fault}
use Rattle.dates.specs.Date.{date_fault}
use Rattle.payments.specs.declared.Action.{Action}
use Rattle.payments.specs.declared.Action.TheVariants.{Check}
use Rattle.message.specs.declared.request.Asked.{Asked}
use Rattle.message.specs.declared.request.Refusal.{Refusal}
use Rattle.message.specs.declared.request.Figures.{Figures}
use Rattle.message.specs.declared.request.Fault.{Fault}
use Rattle.message.specs.declared.request.Fault.TheVariants.{NoAction, Account, Amount, Receipt, Date, Malformed, Reason}
use Rattle.coding.specs.Params.{pieces}
use Rattle.parameters.specs.Names.{action_of}
use Rattle.parameters.specs.Slots.{Slot, Absent, gather_from, gathered}
use Rattle.parameters.specs.SlotWalk.{slot_at, slots_in, scanned}
use Rattle.message.specs.RequestWalk.{figured, figures_of}
use Rattle.message.specs.Request.{held, value_in, receipt_field, number_field, kind_field, amount_field, date_field, reason_field, refused, fault_in, first_fault, field_fault, fault_code, fault_number, asked_of, fields_asked, fields_read, request_read}
use Rattle.message.proofs.FieldLaws.{fault-none, field-some, was-some, was-none}

-- ---- a request that was read, and one that was not
pub code-some : (f : Fault) → fault_code f ≡ 0 → ⊥
code-some NoAction e = omega arith
code-some Account e = omega arith
code-some Amount e = omega arith
code-some Receipt e = omega arith
code-some Date e = omega arith
code-some Malformed e = omega arith
code-some Reason e = omega arith

module _ (r : Result Asked Refusal) where
  pub read-ok : fault_number r ≡ 0 → r ≡ Ok (asked_of r)
  read-ok = go r
    where
      go : (x : Result Asked Refusal) → fault_number x ≡ 0 → x ≡ Ok (asked_of x)
      go (Ok q) e = refl
      go (Err x) e = absurd (code-some x.fault e)

  module _ (q : Asked) (is : r ≡ Ok q) where
    pub ok-number : fault_number r ≡ 0
    ok-number = rw is

    pub ok-asked : asked_of r ≡ q
    ok-asked = rw is

-- what holds of 0 and of each fault's number holds of the number of any request
pub number-by : (P : ℕ → Type 0) → P 0 → P 1 → P 2 → P 3 → P 4 → P 5 → P 31 → P 32 → (r : Result Asked Refusal) → P (fault_number r)
number-by P none action account amount receipt date text reason (Ok q) = none
number-by P none action account amount receipt date text reason (Err x) = go x.fault
  where
    go : (f : Fault) → P (fault_code f)
    go NoAction = action
    go Account = account
    go Amount = amount
    go Receipt = receipt
    go Date = date
    go Malformed = text
    go Reason = reason

-- ---- the number of a field's fault is the one that the field has by its own definition
abbrev pub code_in : Option Fault → ℕ
code_in None = 0
code_in (Some f) = fault_code f

pub number-code : (x : Option Number) → code_in (fault_in Account x) ≡ number_fault x
number-code None = refl
number-code (Some v) = refl

pub date-code : (x : Option (List ℕ)) → code_in (fault_in Date x) ≡ date_fault x
date-code None = refl
date-code (Some v) = refl

pub digit-codes : (x : Option ℕ)
    → (code_in (fault_in Receipt x) ≡ receipt_fault x) × (code_in (fault_in Account x) ≡ kind_fault x) × (code_in (fault_in Amount x) ≡ amount_fault x) × (code_in (fault_in Reason x) ≡ reason_fault x)
digit-codes None = (refl, refl, refl, refl)
digit-codes (Some v) = (refl, refl, refl, refl)

-- ---- the figures in their order: the first field that is malformed decides
missing : {A : Type 0} (x : Option A) (g : Bool) → g ≡ is_some x → g ≡ false → x ≡ None
missing (Some v) g e h = let z : ◌≡◌ {A = ℕ} 0 1 = cc in absurd (omega arith)
missing None g e h = refl

sound : {A : Type 0} (x : Option A) (f : Fault) (g : Bool) → g ≡ is_some x → g ≡ true → fault_in f x ≡ None
sound (Some v) f g e h = refl
sound None f g e h = let z : ◌≡◌ {A = ℕ} 0 1 = cc in absurd (omega arith)

module _ (a : Action) (t : List Slot) where
  fails : (f : Fault) → field_fault a t ≡ Some f → Err f ≡ figures_of a t
  unfolding figures_of
  fails f e = rw e

  module _ (x : Option ℕ) (ex : x ≡ receipt_field a t) (y : Result ℕ Fault) (ey : y ≡ ok_or x Receipt) where
    pub no-receipt : (e : Fault) → y ≡ Err e → Err e ≡ figures_of a t
    unfolding field_fault first_fault
    no-receipt e q = let n = was-none x Receipt y ey e q in fails e (rw (← ex, n.0, n.1))

    module _ (receipt : ℕ) (vr : y ≡ Ok receipt) (ng : Bool) (en : ng ≡ is_some (number_field a t)) where
      pub no-number : ng ≡ false → Err Account ≡ figures_of a t
      unfolding field_fault first_fault
      no-number h = fails Account (rw (← ex, was-some x Receipt y ey receipt vr, missing (number_field a t) ng en h))

      module _ (on : ng ≡ true) (k : Option ℕ) (ek : k ≡ kind_field a t) (z : Result ℕ Fault) (ez : z ≡ ok_or k Account) where
        pub no_kind : (e : Fault) → z ≡ Err e → Err e ≡ figures_of a t
        unfolding field_fault first_fault
        no_kind e q =
            let n = was-none k Account z ez e q in
            fails e (rw (← ex, was-some x Receipt y ey receipt vr, sound (number_field a t) Account ng en on, ← ek, n.0, n.1))

        module _ (kind : ℕ) (vk : z ≡ Ok kind) (m : Option ℕ) (em : m ≡ amount_field a t) (w : Result ℕ Fault) (ew : w ≡ ok_or m Amount) where
          pub no-amount : (e : Fault) → w ≡ Err e → Err e ≡ figures_of a t
          unfolding field_fault first_fault
          no-amount e q =
              let n = was-none m Amount w ew e q in
              fails e (rw (← ex, was-some x Receipt y ey receipt vr, sound (number_field a t) Account ng en on, ← ek, was-some k Account z ez kind vk, ← em, n.0, n.1))

          module _ (amount : ℕ) (va : w ≡ Ok amount) (dg : Bool) (ed : dg ≡ is_some (date_field a t)) where
            pub no-date : dg ≡ false → Err Date ≡ figures_of a t
            unfolding field_fault first_fault
            no-date h =
                fails Date
                (rw (← ex, was-some x Receipt y ey receipt vr, sound (number_field a t) Account ng en on, ← ek, was-some k Account z ez kind vk, ← em, was-some m Amount w ew amount va, missing (date_field a t) dg ed h))

            module _ (od : dg ≡ true) (n : Option ℕ) (er : n ≡ reason_field a t) (v : Result ℕ Fault) (ev : v ≡ ok_or n Reason) where
              pub no-reason : (e : Fault) → v ≡ Err e → Err e ≡ figures_of a t
              unfolding field_fault first_fault
              no-reason e q =
                  let o = was-none n Reason v ev e q in
                  fails e
                  (rw (← ex, was-some x Receipt y ey receipt vr, sound (number_field a t) Account ng en on, ← ek, was-some k Account z ez kind vk, ← em, was-some m Amount w ew amount va, sound (date_field a t) Date dg ed od, ← er, o.0, o.1))

              pub all-figures : (reason : ℕ) → v ≡ Ok reason → Ok (record { receipt = receipt; kind = kind; amount = amount; reason = reason }) ≡ figures_of a t
              unfolding field_fault first_fault figures_of
              all-figures reason q =
                  rw (← ex, was-some x Receipt y ey receipt vr, sound (number_field a t) Account ng en on, ← ek, was-some k Account z ez kind vk, ← em, was-some m Amount w ew amount va, sound (date_field a t) Date dg ed od, ← er, was-some n Reason v ev reason q)

pub ruleset figures_laws = (no-receipt, no-number, no_kind, no-amount, no-date, no-reason, all-figures)

-- ---- the fields, once the figures are read
figured-ok : (o : Option Fault) (x f : Figures) → Ok f ≡ figured o x → (o ≡ None) × (f ≡ x)
figured-ok None x f e = (refl, cc)
figured-ok (Some fault) x f e = let z : ◌≡◌ {A = ℕ} 0 1 = cc in absurd (omega arith)

figured-err : (o : Option Fault) (x : Figures) (e : Fault) → Err e ≡ figured o x → o ≡ Some e
figured-err (Some fault) x e q = cc
figured-err None x e q = let z : ◌≡◌ {A = ℕ} 0 1 = cc in absurd (omega arith)

module _ (a : Action) (t : List Slot) (r : Result Figures Fault) (er : r ≡ figures_of a t) where
  pub is-faulty : (fault : Fault) → r ≡ Err fault → refused fault a ≡ fields_read a t
  unfolding fields_read figures_of
  is-faulty fault q = rw (figured-err (field_fault a t) _ fault (sym q ∙ er))

  module _ (f : Figures) (ok : r ≡ Ok f) where
    figures-are : (field_fault a t ≡ None) × (f ≡ record {
      receipt = value_in 0 (receipt_field a t);
      kind = value_in 0 (kind_field a t);
      amount = value_in 0 (amount_field a t);
      reason = value_in 0 (reason_field a t);
    })
    unfolding figures_of
    figures-are = figured-ok (field_fault a t) _ f (sym ok ∙ er)

    pub number-readable : is_some (number_field a t) ≡ true
    unfolding field_fault
    number-readable = field-some Account (number_field a t) (fault-none _ _ (fault-none _ _ figures-are.0).1).0

    pub date-readable : is_some (date_field a t) ≡ true
    unfolding field_fault
    date-readable =
        let kind = fault-none _ _ (fault-none _ _ (fault-none _ _ figures-are.0).1).1 in
        let amount = fault-none _ _ kind.1 in
        field-some Date (date_field a t) (fault-none _ _ amount.1).0

    pub all_read : (n : Number) → number_field a t ≡ Some n → (d : List ℕ) → date_field a t ≡ Some d
        → Ok (record { number = n; kind = f.kind; amount = f.amount; receipt = f.receipt; reason = f.reason; date = d; action = a }) ≡ fields_read a t
    unfolding fields_read fields_asked
    all_read n en d ed = rw (figures-are.1, figures-are.0, en, ed)

pub ruleset fields_laws = (is-faulty, number-readable, date-readable, all_read)

-- ---- the whole text
module _ (s : List ℕ) (r : Result Asked Refusal) where
  pub too_long : 2048 < length s → r ≡ refused Malformed Check → r ≡ request_read s
  unfolding request_read
  too_long h q = q ∙ rw (lt-leb _ _ h)

  module _ (short : length s ≤ 2048) (t₀ : List (List ℕ)) (empty : t₀ ≡ replicate 7 (0 ∷ (0 ∷ []))) (g : Bool) (t : List (List ℕ))
      (eg : scanned s g t ≡ gather_from (slots_in s t₀) (pieces s)) where
    whole : scanned s g t ≡ gathered s
    unfolding gathered slots_in slot_at
    whole = eg ∙ rw empty

    pub is-broken : not g ≡ true → r ≡ refused Malformed Check → r ≡ request_read s
    unfolding request_read scanned
    is-broken b q = q ∙ rw (le-leb _ _ short, ← whole, not-true g b)

    module _ (good : not g ≡ false) (x : Option Action) (ex : x ≡ held None action_of (get_or (slots_in s t) 0 Absent)) where
      pub no-action : x ≡ None → r ≡ refused NoAction Check → r ≡ request_read s
      unfolding request_read scanned
      no-action b q = q ∙ rw (le-leb _ _ short, ← whole, not-false g good, ← ex, b)

      pub by-action : (a : Action) → x ≡ Some a → r ≡ fields_read a (slots_in s t) → r ≡ request_read s
      unfolding request_read scanned
      by-action a b q = q ∙ rw (le-leb _ _ short, ← whole, not-false g good, ← ex, b)

pub ruleset request_laws = (too_long, is-broken, no-action, by-action)
