use native.Mathlib.Omega.{arith}
use borrow.Author.Rules.{rules}
use Rattle.admission.proofs.AdmissionLaws.{admit-table, admit-room, admit-clock, admit-all, admit-ready}
use Rattle.admission.proofs.admit.Statement.{statement}
use Rattle.admission.proofs.admit.Tie as tie

ruleset laws = (admit-table, admit-room, admit-clock, admit-all, admit-ready, rules)

pub admit_spec : {M : Type 1} → statement M
admit_spec =
    tie.close
    (tie.spec
    (λ c κs. search laws)
    (λ c. (search laws, λ z. absurd (omega (arith, z))))
    (λ c. (search laws, λ z. absurd (omega (arith, z))))
    (λ c κs. search laws)
    (λ c. (search laws, λ z. absurd (omega (arith, z))))
    (λ c. (search laws, λ _. search laws)))
