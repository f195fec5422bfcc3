-- A text is a word where its length and each of its bytes are the word's.
use Rattle.std.specs.Prelude.{Some, None}
use Prim.Native.Nat.{ℕ, suc, ◌≤◌, ◌<◌}
use mathlib.Core.Path.{◌≡◌, refl, sym, ◌∙◌}
use mathlib.Core.List.{List, [], ◌∷◌}
use mathlib.Core.Bool.{Bool, true, false, cond, ◌&&◌}
use native.Mathlib.Omega.{arith}
use borrow.Author.Tests.{eq-eqb, ne_eqb}
use Rattle.texts.proofs.ScanLaws.{lengths_differ}
use lib.Dec.{eqb, eqb-suc-suc}
use lib.ListN.{length, get_or}
use Rattle.texts.specs.Lists.{eq_list}
use Rattle.payments.specs.declared.Action.TheVariants.{Check, Payment, Status, Cancel}
use Rattle.parameters.specs.Names.{action_name, number_name, kind_name, amount_name, receipt_name, date_name, reason_name, name_index, action_word, action_of}

-- whether the bytes of a word stand in a text from a place on
abbrev pub bytes_at : List ℕ → ℕ → List ℕ → Bool
bytes_at s i [] = true
bytes_at s i (c ∷ p) = eqb (get_or s i 0) c && bytes_at s (suc i) p

abbrev pub is_word : List ℕ → List ℕ → Bool
is_word s p = eqb (length s) (length p) && bytes_at s 0 p

swapped : (a b c : Bool) → a && (b && c) ≡ b && (a && c)
swapped true true c = refl
swapped true false c = refl
swapped false true c = refl
swapped false false c = refl

later : (x : ℕ) (s : List ℕ) (i : ℕ) (p : List ℕ) → bytes_at s i p ≡ bytes_at (x ∷ s) (suc i) p
later x s i [] = refl
later x s i (c ∷ p) = rw (later x s (suc i) p)

pub word-reads : (s p : List ℕ) → eq_list s p ≡ is_word s p
unfolding eq_list
word-reads [] [] = refl
word-reads [] (y ∷ p) = simp (ne_eqb 0 (suc (length p)) (λ e. omega arith))
word-reads (x ∷ s) [] = simp (ne_eqb (suc (length s)) 0 (λ e. omega arith))
word-reads (x ∷ s) (y ∷ p) =
    rw (word-reads s p, later x s 0 p, eqb-suc-suc (length s) (length p)) (swapped (eqb x y) (eqb (length s) (length p)) (bytes_at (x ∷ s) 1 p))

-- ---- what a word of each length may name
module _ (w : List ℕ) where
  sized : (p : List ℕ) → length w ≡ length p → eq_list w p ≡ bytes_at w 0 p
  sized p e = word-reads w p ∙ rw (eq-eqb _ _ e)

  unsized : (p : List ℕ) → (length w ≡ length p → ⊥) → eq_list w p ≡ false
  unsized p n = sym (lengths_differ w p n)

  pub action-5 : 5 ≤ length w → length w < 6 → action_of w ≡ cond (bytes_at w 0 (99 ∷ 104 ∷ 101 ∷ 99 ∷ 107 ∷ [])) (Some Check) None
  unfolding action_of action_word
  action-5 l h =
      rw (sized (action_word Check) (omega arith), unsized (action_word Payment) (λ e. omega arith), unsized (action_word Status) (λ e. omega arith), unsized (action_word Cancel) (λ e. omega arith))

  pub action-6 : 6 ≤ length w → length w < 7 → action_of w ≡ cond (bytes_at w 0 (115 ∷ 116 ∷ 97 ∷ 116 ∷ 117 ∷ 115 ∷ [])) (Some Status) (cond (bytes_at w 0 (99 ∷ 97 ∷ 110 ∷ 99 ∷ 101 ∷ 108 ∷ [])) (Some Cancel) None)
  unfolding action_of action_word
  action-6 l h =
      rw (unsized (action_word Check) (λ e. omega arith), unsized (action_word Payment) (λ e. omega arith), sized (action_word Status) (omega arith), sized (action_word Cancel) (omega arith))

  pub action-7 : 7 ≤ length w → length w < 8 → action_of w ≡ cond (bytes_at w 0 (112 ∷ 97 ∷ 121 ∷ 109 ∷ 101 ∷ 110 ∷ 116 ∷ [])) (Some Payment) None
  unfolding action_of action_word
  action-7 l h =
      rw (unsized (action_word Check) (λ e. omega arith), sized (action_word Payment) (omega arith), unsized (action_word Status) (λ e. omega arith), unsized (action_word Cancel) (λ e. omega arith))

  none-of : (length w ≡ 5 → ⊥) → (length w ≡ 6 → ⊥) → (length w ≡ 7 → ⊥) → action_of w ≡ None
  unfolding action_of action_word
  none-of a b c = rw (unsized (action_word Check) a, unsized (action_word Payment) c, unsized (action_word Status) b, unsized (action_word Cancel) b)

  pub action-short : length w < 5 → action_of w ≡ None
  action-short h = none-of (λ e. omega arith) (λ e. omega arith) (λ e. omega arith)

  pub action-long : 8 ≤ length w → action_of w ≡ None
  action-long h = none-of (λ e. omega arith) (λ e. omega arith) (λ e. omega arith)

  -- ---- the same of the seven names
  pub name-3 : 3 ≤ length w → length w < 4 → name_index w ≡ cond (bytes_at w 0 (109 ∷ 101 ∷ 115 ∷ [])) (Some 6) None
  unfolding name_index
  name-3 l h =
      rw (
        unsized action_name (λ e. omega arith),
        unsized number_name (λ e. omega arith),
        unsized kind_name (λ e. omega arith),
        unsized amount_name (λ e. omega arith),
        unsized receipt_name (λ e. omega arith),
        unsized date_name (λ e. omega arith),
        sized reason_name (omega arith),
      )

  pub name-4 : 4 ≤ length w → length w < 5 → name_index w ≡ cond (bytes_at w 0 (116 ∷ 121 ∷ 112 ∷ 101 ∷ [])) (Some 2) (cond (bytes_at w 0 (100 ∷ 97 ∷ 116 ∷ 101 ∷ [])) (Some 5) None)
  unfolding name_index
  name-4 l h =
      rw (
        unsized action_name (λ e. omega arith),
        unsized number_name (λ e. omega arith),
        sized kind_name (omega arith),
        unsized amount_name (λ e. omega arith),
        unsized receipt_name (λ e. omega arith),
        sized date_name (omega arith),
        unsized reason_name (λ e. omega arith),
      )

  pub name-6 : 6 ≤ length w → length w < 7 → name_index w ≡ cond (bytes_at w 0 (97 ∷ 99 ∷ 116 ∷ 105 ∷ 111 ∷ 110 ∷ [])) (Some 0)
      (cond (bytes_at w 0 (110 ∷ 117 ∷ 109 ∷ 98 ∷ 101 ∷ 114 ∷ [])) (Some 1) (cond (bytes_at w 0 (97 ∷ 109 ∷ 111 ∷ 117 ∷ 110 ∷ 116 ∷ [])) (Some 3) None))
  unfolding name_index
  name-6 l h =
      rw (
        sized action_name (omega arith),
        sized number_name (omega arith),
        unsized kind_name (λ e. omega arith),
        sized amount_name (omega arith),
        unsized receipt_name (λ e. omega arith),
        unsized date_name (λ e. omega arith),
        unsized reason_name (λ e. omega arith),
      )

  -- behind an a, where two of them part
  pub name-6-a : 6 ≤ length w → length w < 7 → get_or w 0 0 ≡ 97 → name_index w ≡ cond (bytes_at w 1 (99 ∷ 116 ∷ 105 ∷ 111 ∷ 110 ∷ [])) (Some 0)
      (cond (bytes_at w 1 (109 ∷ 111 ∷ 117 ∷ 110 ∷ 116 ∷ [])) (Some 3) None)
  name-6-a l h a = name-6 l h ∙ rw a

  pub name-7 : 7 ≤ length w → length w < 8 → name_index w ≡ cond (bytes_at w 0 (114 ∷ 101 ∷ 99 ∷ 101 ∷ 105 ∷ 112 ∷ 116 ∷ [])) (Some 4) None
  unfolding name_index
  name-7 l h =
      rw (
        unsized action_name (λ e. omega arith),
        unsized number_name (λ e. omega arith),
        unsized kind_name (λ e. omega arith),
        unsized amount_name (λ e. omega arith),
        sized receipt_name (omega arith),
        unsized date_name (λ e. omega arith),
        unsized reason_name (λ e. omega arith),
      )

  no-name : (length w ≡ 3 → ⊥) → (length w ≡ 4 → ⊥) → (length w ≡ 6 → ⊥) → (length w ≡ 7 → ⊥) → name_index w ≡ None
  unfolding name_index
  no-name a b c d =
      rw (unsized action_name c, unsized number_name c, unsized kind_name b, unsized amount_name c, unsized receipt_name d, unsized date_name b, unsized reason_name a)

  pub name-short : length w < 3 → name_index w ≡ None
  name-short h = no-name (λ e. omega arith) (λ e. omega arith) (λ e. omega arith) (λ e. omega arith)

  pub name-5 : 5 ≤ length w → length w < 6 → name_index w ≡ None
  name-5 l h = no-name (λ e. omega arith) (λ e. omega arith) (λ e. omega arith) (λ e. omega arith)

  pub name-long : 8 ≤ length w → name_index w ≡ None
  name-long h = no-name (λ e. omega arith) (λ e. omega arith) (λ e. omega arith) (λ e. omega arith)

pub ruleset action_laws = (action-5, action-6, action-7, action-short, action-long)

pub ruleset name_laws = (name-3, name-4, name-5, name-6, name-7, name-short, name-long)
