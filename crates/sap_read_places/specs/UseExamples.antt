-- What is told of uses in small files.
use Rattle.std.specs.Prelude.{ℕ, List, map}
use Rattle.sap_text.specs.declared.token.Token.{Token}
use Rattle.sap_read_places.specs.declared.told.Told.{Told}
use Rattle.sap_read_places.specs.Placed.{stretch_before}

-- the word from which so many words of the file are left, and those of the uses from which so many are left
abbrev pub told_before : List Token → ℕ → List ℕ → Told
told_before ts n ns = record { word = stretch_before ts n; uses = map (stretch_before ts) ns }
