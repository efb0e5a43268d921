use Rattle.std.proofs.Common.{◌≡◌, ℕ, ◌-◌, ◌++◌, length, drop, refl, ap, ◌∙◌, arith}
use Rattle.sap_read.proofs.SpelledBodies.{last_of}
use Rattle.sap_read.proofs.laws.item_ends.Goals as goal

pub returns-clause-all : goal.returns-clause-all
returns-clause-all c = λ front words rest.
    let none : length words - length words ≡ 0 = omega (arith) in
    last_of (front ++ (words ++ rest)) front words rest (length words) refl (omega (arith)) ∙ ap (λ (n : ℕ). drop n words) none
