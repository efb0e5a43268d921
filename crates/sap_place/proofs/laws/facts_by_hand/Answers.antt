use Rattle.std.proofs.Common.{◌≡◌, List, [], ◌∷◌, Bool, true, false, ap, refl}
use Rattle.sap_terms.specs.Tree.{Tree}
use Rattle.sap_terms.specs.declared.fact.Fact.{Fact}
use Rattle.sap_place.proofs.laws.facts_by_hand.Goals as goal

pub returns-clause-state : goal.returns-clause-state
returns-clause-state c f = refl

pub returns-clause-root : goal.returns-clause-root
returns-clause-root c f = refl

pub returns-clause-copies : goal.returns-clause-copies
returns-clause-copies c = refl

pub returns-clause-waits : goal.returns-clause-waits
returns-clause-waits c = refl

pub returns-clause-copies_stay : goal.returns-clause-copies_stay
returns-clause-copies_stay c e = let z : true ≡ false = ap (λ (f : Fact). f.persistent) e in cc

-- there are two
abbrev are_two : List Tree → Bool
are_two (t ∷ u ∷ []) = true
are_two _ = false

pub returns-clause-waits_with_tag : goal.returns-clause-waits_with_tag
returns-clause-waits_with_tag c e = let z : true ≡ false = ap (λ (f : Fact). are_two f.args) e in cc
