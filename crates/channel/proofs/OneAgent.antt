-- With one agent no request is answered 4, as specs/OneAgent.antt states it: by the model where a table and a book are lent; else nothing is recorded, or nothing sent.
use Rattle.std.specs.Prelude.{Some, None}
use Prim.Native.Nat.{ℕ}
use native.Mathlib.Omega.{arith}
use mathlib.Core.Path.{◌≡◌, refl, sym, ap, ◌∙◌, subst}
use mathlib.Core.Bool.{Bool, true, false}
use mathlib.Core.List.{List, []}
use mathlib.Core.Option.{Option, some, none-ne-some}
use lib.ListN.{get_elem?}
use Rattle.texts.proofs.Tests.{no-claim}
use Rattle.payments.specs.declared.Action.{Action}
use Rattle.payments.specs.declared.Action.TheVariants.{Payment}
use Rattle.message.specs.declared.request.Asked.{Asked}
use Rattle.message.specs.Request.{request_read, asked_of}
use Rattle.message.proofs.RequestRange.{AskedGood, read-good}
use Rattle.lists.specs.Lists.{tab, first_from}
use Rattle.lists.proofs.EachLaws.{each-elem, elem-map}
use Rattle.table.specs.Table.{Rows, record_at, records_of, find_record}
use Rattle.table.proofs.TableLaws.{receipt-fits}
use Rattle.dates.proofs.KeyLaws.{valid-number}
use Rattle.validity.specs.Valid.{table_good}
use Rattle.planning.specs.Plan.{agrees}
use Rattle.gate.specs.Deliver.{instruction_in, deliver}
use Rattle.admission.specs.Delivery.{Delivery}
use Rattle.gate_theorems.proofs.KeepsLaws.{refused-table}
use Rattle.gate_theorems.proofs.KeptLaws.{record-parts, record-valid}
use Rattle.book_validity.specs.BookValid.{book_good}
use Rattle.model.specs.Model as M
use Rattle.model.proofs.Channel.{Ok, elem_in}
use Rattle.model.proofs.Tests.{eq_line-eq}
use Rattle.model.proofs.OneAgent.{own-record, never-four}
use Rattle.channel.specs.World.{World, Sent, sent_request, delivers, is_answered, request_arrives, delivered, code_of, run}
use Rattle.channel.specs.OneAgent.{Undisputed, OneAgent}
use Rattle.channel.proofs.bridge.Shape.{line_with, line_of, row_of, ask_with, ask_of, gate_of}
use Rattle.channel.proofs.bridge.GateOf.{record-in, record-at}
use Rattle.channel.proofs.bridge.MatchOf.{payment-is}
use Rattle.channel.proofs.bridge.WorldOf.{world_of, msg_of, Fair}
use Rattle.channel.proofs.steps.AskSims.{ask-cases, ask-code}
use Rattle.channel.proofs.kept.Reach.{Reached, reached-inv, run-reached, start-reached}
use Rattle.channel.proofs.words.Refused.{BadTable, BadBook, table-bad, book-bad, good-lent-both}

-- the code that a request gets when it arrives
arrives-code : (w : World) (n : ℕ) (a : Action) (receipt : ℕ) (text : List ℕ) → get_elem? w.sent n ≡ some (sent_request a receipt text)
    → (clock out : List ℕ) → code_of (delivers n clock out) w ≡ (deliver w.gate w.table clock text out).code
unfolding request_arrives
arrives-code w n a receipt text e clock out = ap (λ (o : Option Sent). (delivered w o clock out).code) e

-- ---- a table and a book are lent
module _ (w₀ w : World) (r : Reached w₀ w) (n : ℕ) (a : Action) (receipt : ℕ) (text : List ℕ) (e : get_elem? w.sent n ≡ some (sent_request a receipt text)) where
  fair : Fair (sent_request a receipt text)
  fair = each-elem Fair w.sent n (sent_request a receipt text) r.rep.fair e

  abbrev q : Asked
  q = asked_of (request_read text)

  -- what the model promises of the request
  promised : Ok (world_of w) (M.request (ask_of q))
  promised =
      let s : get_elem? (world_of w).sent n ≡ some (M.request (ask_of q)) = unfold world_of in elem-map msg_of w.sent n (sent_request a receipt text) e in
      (reached-inv w₀ w r).msgs (M.request (ask_of q)) (elem_in (world_of w).sent n (M.request (ask_of q)) s)

  not-four : (clock out : List ℕ) → (deliver w.gate w.table clock text out).code ≡ 4 → ⊥
  not-four clock out =
      ask-cases w r.rep n a receipt text clock out e fair (λ (d : Delivery). d.code ≡ 4 → ⊥)
      (λ c z h. no-claim (sym z ∙ ap is_answered h))
      (λ room dated h.
      let g : (world_of w).gate ≡ gate_of w.gate w.table = unfold world_of in refl in
      never-four (world_of w) (reached-inv w₀ w r) (ask_of q) promised
      (ap (λ (x : M.Gate). (M.decide (ask_of q) x).code) g ∙ sym (ask-code w r.rep n a receipt text clock out e fair room dated) ∙ h))

  module _ (pays : a ≡ Payment) (i : ℕ) (there : find_record receipt (records_of w.table w.gate.used) ≡ Some i) where
    own : q.action ≡ Payment
    own = fair.action ∙ pays

    found : find_record q.receipt (records_of w.table w.gate.used) ≡ Some i
    found = ap (λ (x : ℕ). find_record x (records_of w.table w.gate.used)) fair.note ∙ there

    abbrev line : M.Line
    line = line_with q.receipt q.number q.kind q.amount q.date

    same_line : line_of (record_at w.table i) ≡ line
    unfolding line_with
    same_line =
        let k : ask_of q ≡ M.ask_payment line = unfold ask_with in rw own refl in
        let f : M.find q.receipt (world_of w).gate.table ≡ some (row_of (record_at w.table i)) = unfold world_of in record-at w.gate w.table r.rep.gate q.receipt i found in
        own-record (world_of w) (reached-inv w₀ w r) line (subst (λ (x : M.Ask). Ok (world_of w) (M.request x)) k promised) (row_of (record_at w.table i)) f

    pub agrees-there : agrees Payment (instruction_in text).details (record_at w.table i) ≡ true
    agrees-there =
        let good : AskedGood q = read-good text fair.fault in
        let l = record-in w.gate w.table r.rep.gate q.receipt i found in
        payment-is q.receipt q.number q.kind q.amount q.date (record_at w.table i) (valid-number q.number q.kind (good.number (rw own refl)) (good.kind (rw own refl)))
        (good.date (rw own refl)) (record-valid w.gate w.table r.rep.gate i l) (record-parts w.gate w.table r.rep.gate i l).date
        (receipt-fits w.table w.gate.used q.receipt i (find_record q.receipt (records_of w.table w.gate.used)) refl found)
        ∙ eq_line-eq _ _ same_line

reached-undisputed : (w₀ w : World) → Reached w₀ w → Undisputed w
reached-undisputed w₀ w r =
    record {
      agreed = λ n receipt text e i there. agrees-there w₀ w r n Payment receipt text e refl i there;
      answers = λ n a receipt text e clock out h. not-four w₀ w r n a receipt text e clock out (sym (arrives-code w n a receipt text e clock out) ∙ h);
    }

-- ---- a table that is refused has no records, and the gate gives 68
no-record : (t : Rows) (n receipt i : ℕ) → n ≡ 0 → find_record receipt (records_of t n) ≡ Some i → ⊥
unfolding find_record records_of tab first_from
no-record t n receipt i e h =
    let y : None ≡ Some i = sym (ap (λ (m : ℕ). find_record receipt (records_of t m)) e) ∙ h in
    let z : ◌≡◌ {A = ℕ} 0 1 = cc in
    omega arith

table-undisputed : (w : World) → BadTable w → Undisputed w
table-undisputed w b =
    record {
      agreed = λ n receipt text e i there. absurd (no-record w.table w.gate.used receipt i b.records there);
      answers = λ n a receipt text e clock out h.
          let c : ◌≡◌ {A = ℕ} 68 4 = sym (ap (λ (d : Delivery). d.code) (refused-table w.gate w.table clock text out b.refused)) ∙ sym (arrives-code w n a receipt text e clock out) ∙ h in
          omega arith;
    }

-- ---- with a book that is refused nothing was sent
none-sent : {A : Type 0} (s : List Sent) (n : ℕ) (m : Sent) → s ≡ [] → get_elem? s n ≡ some m → A
none-sent s n m e h = absurd (none-ne-some m (sym (ap (λ (l : List Sent). get_elem? l n) e) ∙ h))

book-undisputed : (w : World) → BadBook w → Undisputed w
book-undisputed w b =
    record {
      agreed = λ n receipt text e i there. none-sent w.sent n _ b.sent e;
      answers = λ n a receipt text e clock out h. none-sent w.sent n _ b.sent e;
    }

pub one-agent : OneAgent
one-agent w st ss = go (table_good w.gate w.table) (book_good w.book w.book_rows) refl refl
  where
    go : (g b : Bool) → table_good w.gate w.table ≡ g → book_good w.book w.book_rows ≡ b → Undisputed (run ss w)
    go true true eg eb = reached-undisputed w (run ss w) (run-reached w ss w (start-reached w st (good-lent-both w st eg eb)))
    go false b eg eb = table-undisputed (run ss w) (table-bad w st eg ss)
    go true false eg eb = book-undisputed (run ss w) (book-bad w st eb ss)
