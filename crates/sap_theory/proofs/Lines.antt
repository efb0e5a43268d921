-- The texts of restrictions and lemmas, piece by piece.
use Rattle.std.proofs.Common.{◌≡◌, ◌++◌, List, ℕ, ap, append_assoc}
use Rattle.std.specs.Prelude.{codes}
use Rattle.sap_formula.specs.Form.{RestrictionForm}
use Rattle.sap_theory.specs.StatementText.{quoted, restriction_text}

-- the pieces of a restriction behind a text, where r is seen as z
pub restriction-behind : (text : List ℕ) (r z : RestrictionForm) → r ≡ z
    → (((text ++ codes "\nrestriction ") ++ r.name) ++ codes ":\n") ++ quoted r.formula ≡ text ++ restriction_text z
restriction-behind text r z e =
    simp append_assoc (ap (λ (s : RestrictionForm). text ++ restriction_text s) e)
