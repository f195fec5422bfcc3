-- A good load's steps: their accounts are named, and their requests well formed and read back.
use Rattle.std.specs.Prelude.{Ok}
use Prim.Native.Nat.{ℕ, ◌+◌, ◌%◌, ◌≤◌, ◌<◌}
use native.Mathlib.Nat.{mod-lt}
use native.Mathlib.Omega.{arith}
use mathlib.Core.Path.{◌≡◌}
use mathlib.Core.List.{◌∷◌, ◌++◌}
use mathlib.Core.Bool.{Bool, true, not, ◌||◌, or-true}
use lib.Dec.{leb}
use lib.ListN.{length}
use borrow.Author.Tests.{le-leb}
use Rattle.texts.specs.Lists.{every}
use Rattle.texts.specs.Digits.{within, decimal}
use Rattle.texts.proofs.Tests.{both, and_both}
use Rattle.fields.specs.Number.{number_text, is_number}
use Rattle.fields.specs.Codes.{is_kind}
use Rattle.fields.specs.Amount.{is_amount}
use Rattle.dates.specs.Date.{is_written}
use Rattle.dates.proofs.DateLaws.{written-parts}
use Rattle.payments.specs.declared.Action.{Action}
use Rattle.parameters.specs.Names.{has_account, has_receipt, has_date, has_reason}
use Rattle.message.specs.declared.request.Asked.{Asked}
use Rattle.message.specs.Request.{request_read}
use Rattle.message.specs.RequestText.{is_asked, request_bytes, request_text, asked_again}
use Rattle.message.proofs.RequestAgain.{request-again}
use Rattle.generator.specs.declared.Rolls.{Rolls}
use Rattle.workload.specs.declared.line.Step.TheVariants.{Asks, Draws}
use Rattle.workload.specs.Given.{Load, is_load, is_account_name, GoodLoad}
use Rattle.workload.specs.Lines.{step_of, kopecks_of, asked_of, account_for, step_text, text_for}
use Rattle.workload.proofs.GivenLaws.{good-load, has-names, named-at}
use Rattle.workload_theorems.proofs.ShownLaws.{is_shown, request-shown}

-- a remainder by n, and one more, lies from 1 to n, and so to every higher end
one_more : (v n high : ℕ) → 0 < n → n ≤ high → within 1 high (1 + v % n) ≡ true
one_more v n high some h =
    let low : 1 ≤ 1 + v % n = omega arith in
    let fits : 1 + v % n ≤ high = omega (arith, mod-lt v some) in
    and_both (leb 1 (1 + v % n)) (leb (1 + v % n) high) (le-leb _ _ low) (le-leb _ _ fits)

-- a field that is well formed is so where it is used
used-good : (used t : Bool) → t ≡ true → not used || t ≡ true
used-good used t h = rw h (or-true (not used))

pub load-dated : (l : Load) → is_load l ≡ true → is_written l.date ≡ true
load-dated l h = (good-load l h).dated

module _ (l : Load) (h : is_load l ≡ true) (r : Rolls) where
  facts : GoodLoad l
  facts = good-load l h

  named : (is_number (account_for l r).number ≡ true) × (is_kind (account_for l r).kind ≡ true)
  unfolding is_account_name
  named = both (is_number (account_for l r).number) (is_kind (account_for l r).kind) (named-at l facts (r.account % length l.names) (mod-lt r.account (has-names l facts)))

  pub number-good : is_number (account_for l r).number ≡ true
  number-good = named.0

  pub kind-good : is_kind (account_for l r).kind ≡ true
  kind-good = named.1

  pub kopecks-good : is_amount (kopecks_of r) ≡ true
  kopecks-good = one_more r.kopecks 100000 999999999 (omega arith) (omega arith)

  module _ (action : Action) where
    abbrev request : Asked
    request = asked_of l.date l.reason (account_for l r) r action

    asked-good : is_asked request ≡ true
    unfolding is_asked asked_of
    asked-good =
        and_both _ _ (used-good (has_receipt action) _ (one_more r.receipt 1000 999999999999999 (omega arith) (omega arith)))
        (and_both _ _
        (used-good (has_account action) _ (and_both _ _ number-good (and_both _ _ kind-good kopecks-good)))
        (and_both _ _ (used-good (has_date action) _ facts.dated) (used-good (has_reason action) _ facts.reasoned)))

    request-written : request_text request ≡ request_bytes request
    unfolding request_text
    request-written = rw asked-good

    pub asked-shown : every is_shown (request_text request) ≡ true
    asked-shown = rw request-written (request-shown request (unfold asked_of in number-good) (unfold asked_of in facts.dated))

    pub asked-read : request_read (request_text request) ≡ Ok (asked_again request)
    asked-read =
        let size : length request.date ≡ 19 = unfold asked_of in (written-parts l.date facts.dated).size in
        rw request-written (request-again request size asked-good)

    -- the line of a request, and of a drawing
    pub asks-line : step_of r.step ≡ Asks action → text_for l r ≡ 82 ∷ (32 ∷ (l.date ++ (32 ∷ request_text request)))
    unfolding step_text
    asks-line e = rw e

  pub draws-line : step_of r.step ≡ Draws
      → text_for l r ≡ 68 ∷ (32 ∷ (number_text (account_for l r).number ++ (32 ∷ (decimal (account_for l r).kind ++ (32 ∷ decimal (kopecks_of r))))))
  unfolding step_text
  draws-line e = rw e
