-- A written node by hand, and what is told of it.
use Rattle.std.specs.Prelude.{List, [], ◌∷◌}
use Rattle.sap_text.specs.declared.token.Token.{Token}
use Rattle.sap_nodes.specs.HeadNodes.{fresh}
use Rattle.sap_stems.specs.Stems.{Stem}
use Rattle.sap_head_words.specs.Examples.{out_head}
use Rattle.sap_read_places.specs.declared.told.Told.{Told}
use Rattle.sap_read_places.specs.Placed.{stretch_before}

-- the second node of a head with three, in an item behind which two words of the file are, below the use from whose name 20 are left
abbrev pub second_node : Stem
second_node = record { node = fresh 0; standing = record { behind = 2; uses = 20 ∷ [] }; place = out_head; index = 1 }

-- its word, the sixth from the end of the item, and that use
abbrev pub second_told : List Token → Told
second_told ts = record { word = stretch_before ts 8; uses = stretch_before ts 20 ∷ [] }
