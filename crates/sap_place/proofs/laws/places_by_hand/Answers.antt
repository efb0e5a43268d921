use Rattle.std.proofs.Common.{◌≡◌, ℕ, List, [], ◌∷◌, Bool, true, false, ap, refl}
use Rattle.std.specs.Prelude.{nat_eq}
use Rattle.sap_place.specs.declared.place.Place.{Place}
use Rattle.sap_place.proofs.laws.places_by_hand.Goals as goal

pub returns-clause-two_locks : goal.returns-clause-two_locks
returns-clause-two_locks c = refl

-- at the third place the first lock is listed first
abbrev first_one : List ℕ → Bool
first_one [] = false
first_one (n ∷ ns) = nat_eq n 1

abbrev third_opens : List Place → Bool
third_opens (s ∷ t ∷ u ∷ ps) = first_one u.open_locks
third_opens _ = false

pub returns-clause-not_innermost_first : goal.returns-clause-not_innermost_first
returns-clause-not_innermost_first c e = let z : true ≡ false = ap third_opens e in cc

pub returns-clause-nothing : goal.returns-clause-nothing
returns-clause-nothing c = refl
