-- Laws of the accounts that are lent in columns.
use Rattle.std.specs.Prelude.{Some, None}
use mathlib.Core.Path.{◌≡◌, refl, sym, ap, ◌∙◌}
use mathlib.Core.Logic.{◌≢◌}
use mathlib.Core.Bool.{Bool, true, false}
use mathlib.Core.List.{List, [], ◌∷◌, ◌++◌}
use Prim.Native.Nat.{ℕ, zero, suc, ◌+◌, ◌<◌, ◌≤◌}
use native.Mathlib.Omega.{arith}
use native.Mathlib.Decide.{ℕ_discrete}
use lib.IntN.{ℤ, pos}
use lib.ListN.{length, drop, get_or, set, replicate, get_or-replicate}
use lib.Seq.{take_all, ext_get_or, get_or-set_same, get_or-set_other}
use Rattle.fields.specs.declared.number.Number.{Number}
use Rattle.lists.specs.Lists.{tab, first_from}
use Rattle.lists.proofs.ListLaws.{length-tab, get_d-tab, tab-same, tab-set, tab-take}
use Rattle.table.specs.declared.Account.{Account}
use Rattle.table.specs.declared.Gate.{Gate}
use Rattle.table.specs.declared.Head.{Head}
use Rattle.table.specs.declared.accounts.Holding.{Holding}
use Rattle.table.specs.Accounts.{is_account, accounts_of, find_account, no_account, holding_of, with_balance, with_accounts, with_count, gate_balance, opened}
use Rattle.table.specs.Columns.{Columns, account_in, accounts_in, gate_of, head_of, counted_head, columns_of}
use Rattle.table.proofs.AccountLaws.{account-other, held-here, held_none}

pub size_in : (a : Columns) → length (accounts_in a) ≡ 256
unfolding accounts_in
size_in a = length-tab 256 (account_in a)

pub account-in : (a : Columns) (i : ℕ) → i < 256 → (x : Account) → x ≡ account_in a i → x ≡ get_or (accounts_in a) i no_account
unfolding accounts_in
account-in a i h x e = e ∙ sym (get_d-tab 256 (account_in a) i no_account h)

-- ---- columns in which nothing stands
tab-const : {A : Type 0} (n : ℕ) (x : A) → tab n (λ i. x) ≡ replicate n x
unfolding tab
tab-const zero x = refl
tab-const (suc n) x = ap (λ (l : List _). l ++ (x ∷ [])) (tab-const n x) ∙ last n
  where
    last : (k : ℕ) → replicate k x ++ (x ∷ []) ≡ x ∷ replicate k x
    last zero = refl
    last (suc k) = ap (λ (l : List _). x ∷ l) (last k)

pub empty-in : (names keys : List (List ℕ)) (balances : List ℤ) → names ≡ replicate 256 (replicate 30 0) → keys ≡ replicate 256 (replicate 2 0) → balances ≡ replicate 256 (pos 0)
    → accounts_in (columns_of names keys balances) ≡ replicate 256 (record { number = record { bytes = replicate 30 0; len = 0 }; kind = 0; balance = pos 0 })
unfolding accounts_in
empty-in names keys balances en ek eb = tab-same 256 (account_in (columns_of names keys balances)) (λ i. none) one ∙ tab-const 256 none
  where
    none : Account
    none = record { number = record { bytes = replicate 30 0; len = 0 }; kind = 0; balance = pos 0 }

    one : (i : ℕ) → i < 256 → account_in (columns_of names keys balances) i ≡ none
    one i h = rw (en, ek, eb, get_or-replicate 256 i (replicate {A = ℕ} 30 0) [] h, get_or-replicate 256 i (replicate {A = ℕ} 2 0) [] h, get_or-replicate 256 i (pos 0) (pos 0) h)

-- ---- the first that fits: a loop that has passed i accounts
module _ (a : Columns) (h : Head) (n : Number) (k i : ℕ) (few : h.count ≤ 256)
    (passed : find_account n k (accounts_of (gate_of h a)) ≡ first_from (is_account n k) i (drop i (accounts_of (gate_of h a)))) where
  module _ (x : Account) (ex : x ≡ get_or (accounts_in a) i no_account) (t : Bool) (et : t ≡ is_account n k x) (l : i < h.count) where
    pub column-other : t ≡ false → find_account n k (accounts_of (gate_of h a)) ≡ first_from (is_account n k) (i + 1) (drop (i + 1) (accounts_of (gate_of h a)))
    column-other y = account-other (gate_of h a) n k i (size_in a) few passed t (et ∙ ap (is_account n k) ex) y l

    pub column-here : t ≡ true → (z : ℤ) → z ≡ x.balance
        → ◌≡◌ {A = Holding} (record { at = Some i; balance = z }) (holding_of (gate_of h a) (find_account n k (accounts_of (gate_of h a))))
    column-here y z ez = held-here (gate_of h a) n k i (size_in a) few passed t (et ∙ ap (is_account n k) ex) y l z (ez ∙ ap (λ (w : Account). w.balance) ex)

  pub column-none : h.count ≤ i → ◌≡◌ {A = Holding} (record { at = None; balance = pos 0 }) (holding_of (gate_of h a) (find_account n k (accounts_of (gate_of h a))))
  column-none l = held_none (gate_of h a) n k i (size_in a) few passed l

-- ---- columns made a gate: the first i accounts are there
pub record Packed (l : List Account) (a : Columns) (i : ℕ) : Type 0 where
  pub each : (j : ℕ) → j < i → get_or l j no_account ≡ get_or (accounts_in a) j no_account

pub packed-one : (a : Columns) (x : Account) (l : List Account) → x ≡ get_or (accounts_in a) 0 no_account → get_or l 0 no_account ≡ x → Packed l a 1
packed-one a x l e f = record { each = λ j h. let z : j ≡ 0 = omega arith in rw z (f ∙ e) }

pub packed_more : (l : List Account) (a : Columns) (i : ℕ) → Packed l a i → i < length l → (x : Account) → x ≡ get_or (accounts_in a) i no_account → Packed (set l i x) a (i + 1)
packed_more l a i packed h x e = record { each = λ j b. one j b (ℕ_discrete j i) }
  where
    one : (j : ℕ) → j < i + 1 → Dec (j ≡ i) → get_or (set l i x) j no_account ≡ get_or (accounts_in a) j no_account
    one j b (yes q) = rw (q, get_or-set_same l i x no_account h) e
    one j b (no d) = get_or-set_other l i j x no_account d ∙ packed.each j (omega arith)

pub packed_all : (l : List Account) (a : Columns) (h : Head) (i : ℕ) → Packed l a i → 256 ≤ i → length l ≡ 256
    → ◌≡◌ {A = Gate} (record { accounts = l; count = h.count; closed = h.closed; used = h.used }) (gate_of h a)
packed_all l a h i packed b size =
    ap (λ (m : List Account). record { accounts = m; count = h.count; closed = h.closed; used = h.used })
    (ext_get_or no_account l (accounts_in a) (size ∙ sym (size_in a)) (λ j k. packed.each j (omega arith)))

-- ---- and a gate put into columns
pub record Unpacked (a : Columns) (g : Gate) (i : ℕ) : Type 0 where
  pub each : (j : ℕ) → j < i → account_in a j ≡ get_or g.accounts j no_account

pub unpacked-none : (a : Columns) (g : Gate) → Unpacked a g 0
unpacked-none a g = record { each = λ j h. absurd (omega arith) }

pub unpacked-more : (names keys : List (List ℕ)) (balances : List ℤ) (g : Gate) (i : ℕ) → Unpacked (record { names = names; keys = keys; balances = balances }) g i
    → i < length names → i < length keys → i < length balances → (b w : List ℕ) (z : ℤ) → b ≡ (get_or g.accounts i no_account).number.bytes
    → w ≡ (get_or g.accounts i no_account).number.len ∷ (get_or g.accounts i no_account).kind ∷ [] → z ≡ (get_or g.accounts i no_account).balance
    → Unpacked (record { names = set names i b; keys = set keys i w; balances = set balances i z }) g (i + 1)
unpacked-more names keys balances g i unpacked hn hk hb b w z eb ew ez = record { each = λ j l. one j l (ℕ_discrete j i) }
  where
    one : (j : ℕ) → j < i + 1 → Dec (j ≡ i) → account_in (record { names = set names i b; keys = set keys i w; balances = set balances i z }) j ≡ get_or g.accounts j no_account
    one j l (yes q) = rw (q, get_or-set_same names i b [] hn, get_or-set_same keys i w [] hk, get_or-set_same balances i z (pos 0) hb, ew, eb, ez)
    one j l (no d) = rw (get_or-set_other names i j b [] d, get_or-set_other keys i j w [] d, get_or-set_other balances i j z (pos 0) d) (unpacked.each j (omega arith))

pub unpacked-all : (a : Columns) (g : Gate) (i : ℕ) → Unpacked a g i → 256 ≤ i → length g.accounts ≡ 256 → gate_of (head_of g) a ≡ g
unfolding accounts_in
unpacked-all a g i unpacked h size =
    ap (λ (m : List Account). record { accounts = m; count = g.count; closed = g.closed; used = g.used })
    (tab-same 256 (account_in a) (λ j. get_or g.accounts j no_account) (λ j l. unpacked.each j (omega arith))
    ∙ tab-take 256 g.accounts no_account (omega arith) ∙ take_all 256 g.accounts (omega arith))

-- ---- one place anew
pub balance-put : (l m : List ℤ) (i : ℕ) (z y : ℤ) → m ≡ set l i y → y ≡ z → 256 ≡ length l → i < 256 → (h : Head) (names keys : List (List ℕ))
    → gate_of h (columns_of names keys m) ≡ gate_balance (gate_of h (columns_of names keys l)) i z
unfolding accounts_in
balance-put l m i z y em ey size b h names keys =
    ap (with_accounts (gate_of h (columns_of names keys l)))
    (tab-set 256 (account_in (columns_of names keys l)) (account_in (columns_of names keys m)) i b
    (λ j d. ap (λ (x : ℤ). with_balance (account_in (columns_of names keys l) j) x) (rw em (get_or-set_other l i j y (pos 0) d)))
    ∙ ap (set (tab 256 (account_in (columns_of names keys l))) i) (here ∙ ap (λ (x : Account). with_balance x z) (sym (get_d-tab 256 (account_in (columns_of names keys l)) i no_account b))))
  where
    here : account_in (columns_of names keys m) i ≡ with_balance (account_in (columns_of names keys l) i) z
    here = ap (λ (x : ℤ). with_balance (account_in (columns_of names keys l) i) x) (rw em (get_or-set_same l i y (pos 0) (omega arith)) ∙ ey)

pub account-put : (names keys : List (List ℕ)) (balances : List ℤ) (i : ℕ) (n : Number) (k : ℕ) → 256 ≡ length names → 256 ≡ length keys → 256 ≡ length balances → i < 256
    → (names' keys' : List (List ℕ)) (balances' : List ℤ) → names' ≡ set names i n.bytes → keys' ≡ set keys i (n.len ∷ k ∷ []) → balances' ≡ set balances i (pos 0)
    → (h : Head) → h.count ≡ i → gate_of (counted_head h (i + 1)) (columns_of names' keys' balances') ≡ opened (gate_of h (columns_of names keys balances)) n k
unfolding opened accounts_in
account-put names keys balances i n k sn sk sb b names' keys' balances' en ek eb h ec =
    ap (λ (l : List Account). with_count (with_accounts (gate_of h a) l) (i + 1))
    (tab-set 256 (account_in a) (account_in a') i b other ∙ ap (set (tab 256 (account_in a)) i) here)
    ∙ ap (λ (j : ℕ). with_count (with_accounts (gate_of h a) (set (tab 256 (account_in a)) j (record { number = n; kind = k; balance = pos 0 }))) (j + 1)) (sym ec)
  where
    a : Columns
    a = columns_of names keys balances

    a' : Columns
    a' = columns_of names' keys' balances'

    here : account_in a' i ≡ record { number = n; kind = k; balance = pos 0 }
    here = rw (en, ek, eb, get_or-set_same names i n.bytes [] (omega arith), get_or-set_same keys i (n.len ∷ k ∷ []) [] (omega arith), get_or-set_same balances i (pos 0) (pos 0) (omega arith))

    other : (j : ℕ) → j ≢ i → account_in a' j ≡ account_in a j
    other j d = rw (en, ek, eb, get_or-set_other names i j n.bytes [] d, get_or-set_other keys i j (n.len ∷ k ∷ []) [] d, get_or-set_other balances i j (pos 0) (pos 0) d)

-- ---- a gate that was put into columns
pub in-columns : (g : Gate) (h : Head) (a : Columns) → gate_of (head_of g) a ≡ g → h ≡ head_of g → gate_of h a ≡ g
in-columns g h a unpacked eh = ap (λ (x : Head). gate_of x a) eh ∙ unpacked

-- what is said of it there, and of the gate that is made of the outcome, is said of the gate itself
pub by-columns : {A : Type 0} (answer call : Gate → A) (g left : Gate) (h h' : Head) (a a' : Columns) → gate_of (head_of g) a ≡ g → h ≡ head_of g → left ≡ gate_of h' a'
    → answer (gate_of h' a') ≡ call (gate_of h a) → answer left ≡ call g
by-columns answer call g left h h' a a' unpacked eh packed done = ap answer packed ∙ done ∙ ap call (in-columns g h a unpacked eh)
