-- What is written in a file, whose places are told by its words, as the program has it.
use Rattle.std.specs.Prelude.{◌≡◌, ℕ, List, [], length, Option}
use Rattle.sap_text.specs.Spans.{AreTokens}
use Rattle.sap_macro.specs.Indexed.{AreIndexed, defined}
use Rattle.sap_macro.specs.Order.{AreInOrder, UsesOnly}
use Rattle.sap_macro.specs.Sources.{definitions, located, written}
use Rattle.sap_origin.specs.Definitions.{located_definitions}
use Rattle.sap_file_lines.specs.FileLines.{AreLinesByPath}
use Rattle.sap_file_lines.specs.declared.places.FilePlaces.{FilePlaces}

-- no two definitions have one name, each uses earlier ones alone and the process these, the index is that of their names, of each one is
-- counted how many words are behind it, and the tokens are those of some bytes
pub record ArePlaces (f : FilePlaces) : Type 0 where
  pub order : AreInOrder [] (definitions f.definitions.now)
  pub indexed : AreIndexed (definitions f.definitions.now) f.index.now
  pub uses : UsesOnly (defined (definitions f.definitions.now)) (written f.main.now)
  pub count : length f.behind.now ≡ length f.definitions.now
  pub bytes : List ℕ
  pub tokens : AreTokens bytes f.tokens.now

-- in the file of these bytes these are the lines of all places by their paths
pub record AreTheirLines (f : FilePlaces) (bytes : List ℕ) (lines : List ℕ → Option ℕ) : Type 0 where
  pub tokens : AreTokens bytes f.tokens.now
  pub are : AreLinesByPath bytes f.tokens.now (located_definitions f.definitions.now f.behind.now) (located f.main.now)
      f.behind_main lines
