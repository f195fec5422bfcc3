-- Laws of the digest.
use mathlib.Core.Path.{◌≡◌, sym, ap, ◌∙◌}
use mathlib.Core.Bool.{true, ◌&&◌}
use mathlib.Core.List.{List}
use Prim.Native.Nat.{ℕ, suc, ◌+◌, ◌*◌, ◌%◌, ◌<◌, ◌≤◌}
use native.Mathlib.Numerals.{add-one}
use lib.Dec.{eqb}
use lib.ListN.{length, drop, get_or, drop_of_length-le}
use lib.Seq.{drop-cons}
use borrow.Author.Tests.{eqb-true}
use Rattle.texts.specs.Lists.{eq_list}
use Rattle.texts.proofs.Tests.{and_left, and_right}
use Rattle.texts.proofs.ScanLaws.{eq_list-true}
use Rattle.fields.specs.declared.number.Number.{Number}
use Rattle.fields.specs.Number.{number_text, same_number}
use Rattle.table.specs.declared.Account.{Account}
use Rattle.table.specs.Accounts.{is_account}
use Rattle.directory.specs.Directory.{mixed, digest_of}

-- ---- a loop that has mixed i bytes
module _ (h x i : ℕ) (s : List ℕ) (e : mixed h s ≡ mixed x (drop i s)) where
  pub mix-turn : i < length s → (b : ℕ) → b ≡ get_or s i 0 → mixed h s ≡ mixed ((x * 33 + b) % 4294967296) (drop (i + 1) s)
  unfolding mixed
  mix-turn l b w =
      e
      ∙ ap (mixed x) (drop-cons s i 0 l)
      ∙ ap (λ (n : ℕ). mixed ((x * 33 + n) % 4294967296) (drop (suc i) s)) (sym w)
      ∙ ap (λ (n : ℕ). mixed ((x * 33 + b) % 4294967296) (drop n s)) (sym (add-one i))

  pub mix-end : length s ≤ i → x ≡ mixed h s
  unfolding mixed
  mix-end l = sym (e ∙ ap (mixed x) (drop_of_length-le s l))

pub digest-is : (n : Number) (k r : ℕ) (s : List ℕ) → r ≡ mixed (k % 4294967296) s → s ≡ number_text n → r ≡ digest_of n k
unfolding digest_of
digest-is n k r s e w = e ∙ ap (mixed (k % 4294967296)) w

-- an account that fits has the digest that is looked for
pub digest-agrees : (n : Number) (k : ℕ) (a : Account) → is_account n k a ≡ true → digest_of a.number a.kind ≡ digest_of n k
unfolding is_account same_number digest_of
digest-agrees n k a e =
    let s = eq_list (number_text a.number) (number_text n) in
    let l = eqb a.number.len n.len in
    let p = eqb-true _ _ (and_left (eqb a.kind k) (l && s) e) in
    let q = eq_list-true _ _ (and_right l s (and_right (eqb a.kind k) (l && s) e)) in
    ap (λ (j : ℕ). mixed (j % 4294967296) (number_text a.number)) p ∙ ap (mixed (k % 4294967296)) q
