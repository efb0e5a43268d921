-- What is told of a file with too many places, by hand.
use Rattle.std.proofs.Common.{ℕ, List, [], ◌∷◌, map, refl}
use Rattle.sap_beyond.specs.Numbered.{IsNumbered}
use Rattle.sap_macro.specs.Located.{nil_at, without_numbers}
use Rattle.sap_origin.specs.Definitions.{plain_definition}
use Rattle.sap_origin.specs.Reached.{Reaches, Standing, reaches_copy, reaches_here, reaches_right, reaches_use}
use Rattle.sap_read_places.specs.LimitExamples.{beside, doublings, thirty_three}

-- the path of the last place
abbrev pub to_last : List ℕ
to_last = 2 ∷ 2 ∷ 2 ∷ 2 ∷ 2 ∷ 1 ∷ 1 ∷ 2 ∷ 2 ∷ 2 ∷ 2 ∷ []

pub last_place : IsNumbered (map plain_definition (doublings 23)) (without_numbers (beside 7 thirty_three).process) 4000 to_last
last_place identifiers = refl

abbrev pub at_last : Standing
at_last = record { behind = 78; uses = 73 ∷ 67 ∷ 61 ∷ 6 ∷ [] }

pub last_reached : Reaches (doublings 23) (record { behind = 1; uses = [] }) (beside 7 thirty_three).process to_last at_last (nil_at 1)
last_reached =
    reaches_right
    (reaches_right
    (reaches_right
    (reaches_right
    (reaches_right
    (reaches_copy
    (reaches_copy (reaches_use refl tt (reaches_right (reaches_use refl tt (reaches_right (reaches_use refl tt (reaches_right (reaches_use refl tt (reaches_right (reaches_here tt)))))))))))))))
