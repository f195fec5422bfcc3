-- Texts written one after the other, and the texts of a request.
use Prim.Native.Nat.{ℕ, ◌+◌, ◌/◌, ◌%◌, ◌≤◌}
use native.Mathlib.Nat.{add-zero}
use native.Mathlib.Omega.{arith}
use mathlib.Core.Path.{◌≡◌, refl, sym, ap, ◌∙◌}
use mathlib.Core.List.{List, [], ◌∷◌, ◌++◌, append_assoc, append-nil}
use mathlib.Core.Bool.{Bool, true, false, not}
use lib.ListN.{length, take, length-append, length-drop}
use borrow.Author.Tests.{not-true, not-false}
use Rattle.texts.specs.Lists.{written, cursor_after}
use Rattle.texts.proofs.OutLaws.{text-back, over_none, cursor-moves, written_over, written-length, cursor-then, written_then}
use Rattle.coding.specs.Url.{coded}
use Rattle.request_writer.specs.Writes.{buffer_all, cursor_all, joined}
use Rattle.texts.specs.Digits.{decimal}
use Rattle.fields.specs.Amount.{amount_bytes}
use Rattle.fields.specs.Number.{number_text}
use Rattle.texts.proofs.DecimalLaws.{fixed-length}
use Rattle.message.specs.declared.request.Asked.{Asked}
use Rattle.parameters.specs.Names.{action_name, number_name, kind_name, amount_name, receipt_name, date_name, reason_name, action_word, has_account, has_receipt, has_date, has_reason}
use Rattle.message.specs.RequestText.{pair, pair_if, request_bytes}
use Rattle.request_writer.specs.WriteWalk.{prefix, pair_texts, account_texts, payment_texts, request_texts}

-- ---- the writings of two lists of texts, one after the other
buffer-append : (xss yss : List (List ℕ)) (d : List ℕ) (at : ℕ) → buffer_all (xss ++ yss) d at ≡ buffer_all yss (buffer_all xss d at) (cursor_all xss d at)
unfolding buffer_all cursor_all
buffer-append [] yss d at = refl
buffer-append (xs ∷ xss) yss d at = buffer-append xss yss (written d at xs) (cursor_after d at xs)

cursor-append : (xss yss : List (List ℕ)) (d : List ℕ) (at : ℕ) → cursor_all (xss ++ yss) d at ≡ cursor_all yss (buffer_all xss d at) (cursor_all xss d at)
unfolding buffer_all cursor_all
cursor-append [] yss d at = refl
cursor-append (xs ∷ xss) yss d at = cursor-append xss yss (written d at xs) (cursor_after d at xs)

-- a call that wrote the texts xss, and after it one that wrote yss
module _ (xss yss : List (List ℕ)) (d : List ℕ) (at : ℕ) (e : List ℕ) (p : ℕ) (eb : e ≡ buffer_all xss d at) (ep : p ≡ cursor_all xss d at) where
  pub then-buffer : (f : List ℕ) → f ≡ buffer_all yss e p → f ≡ buffer_all (xss ++ yss) d at
  then-buffer f q = q ∙ rw (eb, ep) (sym (buffer-append xss yss d at))

  pub then-cursor : (r : ℕ) → r ≡ cursor_all yss e p → r ≡ cursor_all (xss ++ yss) d at
  then-cursor r q = q ∙ rw (eb, ep) (sym (cursor-append xss yss d at))

-- where all have room they are one text
all-written : (xss : List (List ℕ)) (d : List ℕ) (at : ℕ) → at + length (joined xss) ≤ length d
    → (buffer_all xss d at ≡ written d at (joined xss)) × (cursor_all xss d at ≡ cursor_after d at (joined xss))
unfolding buffer_all cursor_all joined
all-written [] d at fit =
    let z : at + 0 ≤ length d = omega arith in
    (sym (over_none d at) ∙ written_over d at [] z, sym (add-zero at) ∙ cursor-moves d at [] z)
all-written (xs ∷ xss) d at fit =
    let l : at + (length xs + length (joined xss)) ≤ length d = rw (← length-append xs (joined xss)) fit in
    let c : at + length xs ≡ cursor_after d at xs = cursor-moves d at xs (omega arith) in
    let n : length (written d at xs) ≡ length d = written-length d at xs in
    let i = all-written xss (written d at xs) (cursor_after d at xs) (rw (← c) (omega arith)) in
    (i.0 ∙ written_then d at xs (joined xss) l, i.1 ∙ cursor-then d at xs (joined xss) l)

-- ---- a text that a fresh buffer holds
pub texts-there : (z : List ℕ) (xss : List (List ℕ)) → length (joined xss) ≤ length z → take (cursor_all xss z 0) (buffer_all xss z 0) ≡ joined xss
texts-there z xss h =
    let f : 0 + length (joined xss) ≤ length z = omega arith in
    let i = all-written xss z 0 f in
    rw (i.0, i.1) (text-back z (joined xss) h)

-- ---- a name and its value, where the action has the field
module _ (used : Bool) (before value d : List ℕ) (at : ℕ) where
  pub pair-lacks-cursor : not used ≡ true → at ≡ cursor_all (pair_texts used before value) d at
  unfolding cursor_all
  pair-lacks-cursor h = rw (not-true used h)

  pub pair-lacks-buffer : not used ≡ true → (e : List ℕ) → e ≡ d → e ≡ buffer_all (pair_texts used before value) d at
  unfolding buffer_all
  pair-lacks-buffer h e q = rw (not-true used h) q

  module _ (h : not used ≡ false) (p : ℕ) (e₁ : List ℕ) (ep : p ≡ cursor_after d at before) (eb : e₁ ≡ written d at before) where
    pub pair-cursor : (r : ℕ) → r ≡ cursor_after e₁ p (coded value) → r ≡ cursor_all (pair_texts used before value) d at
    unfolding cursor_all
    pair-cursor r q = rw (not-false used h) (q ∙ rw (ep, eb))

    pub pair-buffer : (e : List ℕ) → e ≡ written e₁ p (coded value) → e ≡ buffer_all (pair_texts used before value) d at
    unfolding buffer_all
    pair-buffer e q = rw (not-false used h) (q ∙ rw (ep, eb))

-- the same, of a value that was written into a buffer of its own
module _ (used : Bool) (before value xs d : List ℕ) (at : ℕ) (z : List ℕ) (small : length xs ≤ length z) (n : ℕ) (t : List ℕ)
    (en : n ≡ cursor_after z 0 xs) (et : t ≡ written z 0 xs) (ev : value ≡ take n t) where
  value-is : value ≡ xs
  value-is = ev ∙ rw (en, et) (text-back z xs small)

  held-cursor : (r : ℕ) → r ≡ cursor_all (pair_texts used before value) d at → r ≡ cursor_all (pair_texts used before xs) d at
  held-cursor r q = q ∙ rw value-is

  held-buffer : (e : List ℕ) → e ≡ buffer_all (pair_texts used before value) d at → e ≡ buffer_all (pair_texts used before xs) d at
  held-buffer e q = q ∙ rw value-is

-- numbers and amounts have at most 23 bytes, whatever their value
pub decimal-twenty : (n : ℕ) → length (decimal n) ≤ 20
unfolding decimal
decimal-twenty n = rw (length-drop, fixed-length 20 n) (omega arith)

amount-short : (k : ℕ) → length (amount_bytes k) ≤ 23
unfolding amount_bytes
amount-short k = rw length-append (omega (arith, decimal-twenty (k / 100), fixed-length 2 (k % 100)))

module _ (used : Bool) (before value d : List ℕ) (at : ℕ) (z : List ℕ) (size : length z ≡ 32) (e : ℕ) (t : List ℕ) (ev : value ≡ take e t) where
  pub digits-cursor : (n : ℕ) → e ≡ cursor_after z 0 (decimal n) → t ≡ written z 0 (decimal n)
      → (r : ℕ) → r ≡ cursor_all (pair_texts used before value) d at → r ≡ cursor_all (pair_texts used before (decimal n)) d at
  digits-cursor n en et = held-cursor used before value (decimal n) d at z (omega (arith, decimal-twenty n)) e t en et ev

  pub digits-buffer : (n : ℕ) → e ≡ cursor_after z 0 (decimal n) → t ≡ written z 0 (decimal n)
      → (f : List ℕ) → f ≡ buffer_all (pair_texts used before value) d at → f ≡ buffer_all (pair_texts used before (decimal n)) d at
  digits-buffer n en et = held-buffer used before value (decimal n) d at z (omega (arith, decimal-twenty n)) e t en et ev

  pub amount-cursor : (k : ℕ) → e ≡ cursor_after z 0 (amount_bytes k) → t ≡ written z 0 (amount_bytes k)
      → (r : ℕ) → r ≡ cursor_all (pair_texts used before value) d at → r ≡ cursor_all (pair_texts used before (amount_bytes k)) d at
  amount-cursor k en et = held-cursor used before value (amount_bytes k) d at z (omega (arith, amount-short k)) e t en et ev

  pub amount-buffer : (k : ℕ) → e ≡ cursor_after z 0 (amount_bytes k) → t ≡ written z 0 (amount_bytes k)
      → (f : List ℕ) → f ≡ buffer_all (pair_texts used before value) d at → f ≡ buffer_all (pair_texts used before (amount_bytes k)) d at
  amount-buffer k en et = held-buffer used before value (amount_bytes k) d at z (omega (arith, amount-short k)) e t en et ev

-- ---- the halves of a request's text
module _ (xss yss zss : List (List ℕ)) (d : List ℕ) (at : ℕ) (e₁ : List ℕ) (p₁ : ℕ) (b₁ : e₁ ≡ buffer_all xss d at) (c₁ : p₁ ≡ cursor_all xss d at)
    (e₂ : List ℕ) (p₂ : ℕ) (b₂ : e₂ ≡ buffer_all yss e₁ p₁) (c₂ : p₂ ≡ cursor_all yss e₁ p₁) where
  pub three-buffer : (f : List ℕ) → f ≡ buffer_all zss e₂ p₂ → f ≡ buffer_all (xss ++ (yss ++ zss)) d at
  three-buffer f q = then-buffer xss (yss ++ zss) d at e₁ p₁ b₁ c₁ f (then-buffer yss zss e₁ p₁ e₂ p₂ b₂ c₂ f q)

  pub three-cursor : (r : ℕ) → r ≡ cursor_all zss e₂ p₂ → r ≡ cursor_all (xss ++ (yss ++ zss)) d at
  three-cursor r q = then-cursor xss (yss ++ zss) d at e₁ p₁ b₁ c₁ r (then-cursor yss zss e₁ p₁ e₂ p₂ b₂ c₂ r q)

module _ (q : Asked) (d : List ℕ) (at : ℕ) (e₁ : List ℕ) (p₁ : ℕ) (e₂ : List ℕ) (p₂ : ℕ) where
  module _ (u : Bool) (eu : u ≡ has_account q.action) (v : List ℕ) (ev : v ≡ number_text q.number)
      (b₁ : e₁ ≡ buffer_all (pair_texts u (prefix number_name) v) d at) (c₁ : p₁ ≡ cursor_all (pair_texts u (prefix number_name) v) d at)
      (b₂ : e₂ ≡ buffer_all (pair_texts u (prefix kind_name) (decimal q.kind)) e₁ p₁) (c₂ : p₂ ≡ cursor_all (pair_texts u (prefix kind_name) (decimal q.kind)) e₁ p₁) where
    abbrev number-pair : List (List ℕ)
    number-pair = pair_texts u (prefix number_name) v

    abbrev kind-pair : List (List ℕ)
    kind-pair = pair_texts u (prefix kind_name) (decimal q.kind)

    abbrev amount-pair : List (List ℕ)
    amount-pair = pair_texts u (prefix amount_name) (amount_bytes q.amount)

    pub account-buffer : (f : List ℕ) → f ≡ buffer_all (pair_texts u (prefix amount_name) (amount_bytes q.amount)) e₂ p₂ → f ≡ buffer_all (account_texts q) d at
    account-buffer f g = rw (← eu, ← ev) (three-buffer number-pair kind-pair amount-pair d at e₁ p₁ b₁ c₁ e₂ p₂ b₂ c₂ f g)

    pub account-cursor : (r : ℕ) → r ≡ cursor_all (pair_texts u (prefix amount_name) (amount_bytes q.amount)) e₂ p₂ → r ≡ cursor_all (account_texts q) d at
    account-cursor r g = rw (← eu, ← ev) (three-cursor number-pair kind-pair amount-pair d at e₁ p₁ b₁ c₁ e₂ p₂ b₂ c₂ r g)

  module _ (ur ud um : Bool) (er : ur ≡ has_receipt q.action) (ed : ud ≡ has_date q.action) (em : um ≡ has_reason q.action)
      (b₁ : e₁ ≡ buffer_all (pair_texts ur (prefix receipt_name) (decimal q.receipt)) d at) (c₁ : p₁ ≡ cursor_all (pair_texts ur (prefix receipt_name) (decimal q.receipt)) d at)
      (b₂ : e₂ ≡ buffer_all (pair_texts ud (prefix date_name) q.date) e₁ p₁) (c₂ : p₂ ≡ cursor_all (pair_texts ud (prefix date_name) q.date) e₁ p₁) where
    abbrev receipt-pair : List (List ℕ)
    receipt-pair = pair_texts ur (prefix receipt_name) (decimal q.receipt)

    abbrev date-pair : List (List ℕ)
    date-pair = pair_texts ud (prefix date_name) q.date

    abbrev reason-pair : List (List ℕ)
    reason-pair = pair_texts um (prefix reason_name) (decimal q.reason)

    pub payment-buffer : (f : List ℕ) → f ≡ buffer_all (pair_texts um (prefix reason_name) (decimal q.reason)) e₂ p₂ → f ≡ buffer_all (payment_texts q) d at
    payment-buffer f g = rw (← er, ← ed, ← em) (three-buffer receipt-pair date-pair reason-pair d at e₁ p₁ b₁ c₁ e₂ p₂ b₂ c₂ f g)

    pub payment-cursor : (r : ℕ) → r ≡ cursor_all (pair_texts um (prefix reason_name) (decimal q.reason)) e₂ p₂ → r ≡ cursor_all (payment_texts q) d at
    payment-cursor r g = rw (← er, ← ed, ← em) (three-cursor receipt-pair date-pair reason-pair d at e₁ p₁ b₁ c₁ e₂ p₂ b₂ c₂ r g)

-- ---- the whole text
module _ (q : Asked) (d : List ℕ) (at : ℕ) (e₀ : List ℕ) (p₀ : ℕ) (b₀ : e₀ ≡ written d at (action_name ++ (61 ∷ []))) (c₀ : p₀ ≡ cursor_after d at (action_name ++ (61 ∷ [])))
    (e₁ : List ℕ) (p₁ : ℕ) (b₁ : e₁ ≡ written e₀ p₀ (action_word q.action)) (c₁ : p₁ ≡ cursor_after e₀ p₀ (action_word q.action))
    (e₂ : List ℕ) (p₂ : ℕ) (b₂ : e₂ ≡ buffer_all (account_texts q) e₁ p₁) (c₂ : p₂ ≡ cursor_all (account_texts q) e₁ p₁) where
  abbrev opening-texts : List (List ℕ)
  opening-texts = (action_name ++ (61 ∷ [])) ∷ (action_word q.action ∷ [])

  head-buffer : e₁ ≡ buffer_all opening-texts d at
  unfolding buffer_all
  head-buffer = b₁ ∙ rw (b₀, c₀)

  head-cursor : p₁ ≡ cursor_all opening-texts d at
  unfolding cursor_all
  head-cursor = c₁ ∙ rw (b₀, c₀)

  pub request-buffer : (f : List ℕ) → f ≡ buffer_all (payment_texts q) e₂ p₂ → f ≡ buffer_all (request_texts q) d at
  unfolding request_texts
  request-buffer f g = three-buffer opening-texts (account_texts q) (payment_texts q) d at e₁ p₁ head-buffer head-cursor e₂ p₂ b₂ c₂ f g

  pub request-cursor : (r : ℕ) → r ≡ cursor_all (payment_texts q) e₂ p₂ → r ≡ cursor_all (request_texts q) d at
  unfolding request_texts
  request-cursor r g = three-cursor opening-texts (account_texts q) (payment_texts q) d at e₁ p₁ head-buffer head-cursor e₂ p₂ b₂ c₂ r g

-- ---- the pieces joined are the text of the definition
joined-append : (xss yss : List (List ℕ)) → joined (xss ++ yss) ≡ joined xss ++ joined yss
unfolding joined
joined-append [] yss = refl
joined-append (xs ∷ xss) yss = rw (joined-append xss yss) (sym (append_assoc xs (joined xss) (joined yss)))

joined-pair : (used : Bool) (name value : List ℕ) → joined (pair_texts used (prefix name) value) ≡ pair_if used name value
unfolding joined pair
joined-pair true name value = ap (λ (x : List ℕ). 38 ∷ x) (ap (λ (x : List ℕ). (name ++ (61 ∷ [])) ++ x) (append-nil (coded value)) ∙ append_assoc name (61 ∷ []) (coded value))
joined-pair false name value = refl

regrouped : (a w n k m r d s : List ℕ)
    → joined ((a ++ (61 ∷ [])) ∷ (w ∷ [])) ++ ((n ++ (k ++ m)) ++ (r ++ (d ++ s))) ≡ a ++ ((61 ∷ w) ++ (n ++ (k ++ (m ++ (r ++ (d ++ s))))))
unfolding joined
regrouped a w n k m r d s = simp (append-nil, append_assoc)

pub texts-joined : (q : Asked) → joined (request_texts q) ≡ request_bytes q
unfolding request_texts request_bytes
texts-joined q =
    let a = q.action in
    simp (joined-append, joined-pair)
    (regrouped action_name (action_word a)
    (pair_if (has_account a) number_name (number_text q.number))
    (pair_if (has_account a) kind_name (decimal q.kind))
    (pair_if (has_account a) amount_name (amount_bytes q.amount))
    (pair_if (has_receipt a) receipt_name (decimal q.receipt))
    (pair_if (has_date a) date_name q.date)
    (pair_if (has_reason a) reason_name (decimal q.reason)))

pub ruleset pair_laws = (pair-lacks-cursor, pair-lacks-buffer, pair-cursor, pair-buffer)

pub ruleset account_laws = (account-cursor, account-buffer)

pub ruleset payment_laws = (payment-cursor, payment-buffer)

pub ruleset request_laws = (request-cursor, request-buffer)
