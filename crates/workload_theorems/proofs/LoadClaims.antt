-- What holds of every load.
use Prim.Native.Nat.{ℕ}
use mathlib.Core.Path.{sym, ap, ◌∙◌}
use Rattle.message.specs.RequestText.{request_text}
use Rattle.generator.specs.Generator.{rolls_from}
use Rattle.workload.specs.Lines.{kopecks_of, account_for}
use Rattle.workload.specs.Load.{lines_from}
use Rattle.workload_theorems.specs.LoadClaims.{request_after, LoadClaims}
use Rattle.workload_theorems.proofs.AskedLaws.{load-dated, number-good, kind-good, kopecks-good, asked-shown, asked-read, asks-line, draws-line}
use Rattle.workload_theorems.proofs.TurnLaws.{line-params, ask-turn, draw-turn}
use Rattle.workload_theorems.proofs.TextLaws.{lines-found}
use Rattle.workload_theorems.proofs.CallLaws.{call-text, call-steps, call-few, call-full, load_full, load-begins, alike-answer, alike-text, goes-onward}

pub load-claims : LoadClaims
load-claims =
    record {
      read = λ l h v action e.
          rw (asks-line l h (rolls_from v) action e, line-params l.date (request_text (request_after l v action)) (load-dated l h))
          (asked-read l h (rolls_from v) action);
      asks = λ l h v action e x t.
          rw (asks-line l h (rolls_from v) action e)
          (ask-turn l.date (request_text (request_after l v action)) (load-dated l h) (asked-shown l h (rolls_from v) action) x t);
      draws = λ l h v e x t.
          let r = rolls_from v in
          rw (draws-line l h r e)
          (draw-turn (account_for l r).number (account_for l r).kind (kopecks_of r) (number-good l h r) (kind-good l h r) (kopecks-good l h r) x t);
      lines = lines-found;
      wrote = λ l h v most d. (
        call-text l h most v d ∙ ap (λ (n : ℕ). lines_from l n v) (sym (call-steps l h most v d)),
        call-few l h most v d,
        call-full l h most v d,
      );
      full = load_full;
      begins = load-begins;
      alike = λ l v d e same.
          let a = alike-answer l v d e same in
          (a.0, a.1, a.2, a.3, alike-text l v d e same);
      onward = goes-onward;
    }
