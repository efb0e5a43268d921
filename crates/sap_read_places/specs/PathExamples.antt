-- Small files, and which of their stretches are told where paths lead.
use Rattle.std.specs.Prelude.{List, [], ◌∷◌}
use Rattle.sap_text.specs.declared.token.Token.{Token}
use Rattle.sap_stretches.specs.StretchExamples.{word}
use Rattle.sap_read_places.specs.declared.told.Told.{Told}
use Rattle.sap_read_places.specs.Placed.{stretch_before}

-- the tokens of three words, `let P x`
abbrev pub two_names_tokens : List Token
two_names_tokens = word 0 3 ∷ word 4 5 ∷ word 6 7 ∷ []

-- what is told of two places of the small file of `sap_origin`, which has these tokens: of one through two uses, and of one beside it
abbrev pub through_uses : List Token → Told
through_uses ts = record { word = stretch_before ts 20; uses = stretch_before ts 13 ∷ stretch_before ts 7 ∷ [] }

abbrev pub beside_it : List Token → Told
beside_it ts = record { word = stretch_before ts 5; uses = [] }
