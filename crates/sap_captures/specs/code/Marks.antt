-- What lies before one who looks for words, and the words from which nodes stem.
use Rattle.std.specs.Prelude.{◌≡◌, ◌-◌, ℕ, List, [], length, Contains}
use Rattle.sap_terms.specs.Signature.{Sig}
use Rattle.sap_grammar.specs.Words.{Word, words_of}
use Rattle.sap_macro.specs.Indexed.{AreIndexed, defined}
use Rattle.sap_macro.specs.Located.{Located}
use Rattle.sap_macro.specs.Order.{AreInOrder, UsesOnly}
use Rattle.sap_macro.specs.Sources.{definitions, located, written}
use Rattle.sap_origin.specs.Definitions.{LocatedDefinition, located_definitions}
use Rattle.sap_origin.specs.Reached.{number_of}
use Rattle.sap_stems.specs.Stems.{Stem}
use Rattle.sap_stems.specs.WrittenNodes.{written_nodes}
use Rattle.sap_stems.specs.WrittenPlaces.{IsPlaceOf}
use Rattle.sap_head_words.specs.HeadWords.{HeadWords}
use Rattle.sap_read.specs.LocatedItems.{LocatedMain}
use Rattle.sap_read.specs.SpelledBodies.{item_end}
use Rattle.sap_captures.specs.Captures.{IsStemWord, IsWordAt}
use Rattle.sap_captures.specs.declared.desk.Desk.{Desk}
use Rattle.sap_captures.specs.declared.kind.Kind.{Kind}

-- the head of what is written there begins at a word of its item, and its nodes have a number each
abbrev pub HasNumbers : Sig → List Word → Located → ℕ → Type 0
HasNumbers g ws q behind =
    (ns : List ℕ) × HeadWords g q (item_end ws (number_of q) behind) ns × (length ns ≡ length (written_nodes q))

-- the definitions, the process as it is written, and the signature
abbrev pub definitions_on : Desk → List LocatedDefinition
definitions_on d = located_definitions d.file.now.processes.definitions d.file.now.processes.behind

abbrev pub main_on : Desk → LocatedMain
main_on d = record { process = located d.file.now.processes.main.value; behind = d.file.now.processes.behind_main }

abbrev pub signature_on : Desk → Sig
signature_on d = d.file.now.declared.signature

-- what lies there is of one file, in which each place has the words of its head
pub record IsDesk (d : Desk) : Type 0 where
  pub order : AreInOrder [] (definitions d.file.now.processes.definitions)
  pub index : AreIndexed (definitions d.file.now.processes.definitions) d.index.now
  pub count : length d.file.now.processes.behind ≡ length d.file.now.processes.definitions
  pub uses : UsesOnly (defined (definitions d.file.now.processes.definitions)) (written d.file.now.processes.main.value)
  pub numbers : (n : ℕ) (q : Located) → IsPlaceOf (definitions_on d) (main_on d).process (main_on d).behind n q
      → HasNumbers (signature_on d) (words_of d.bytes.now d.tokens.now) q n

-- the number of the token of a written node
abbrev pub IsStemIndex : Desk → Stem → ℕ → Type 0
IsStemIndex d s i =
    (n : ℕ) × IsStemWord (signature_on d) d.bytes.now d.tokens.now s n × (i ≡ length d.tokens.now - n)

-- that of the written node from which node k of a place stems, where it is told
abbrev pub IsIndexAt : Desk → Kind → List ℕ → ℕ → ℕ → Type 0
IsIndexAt d kind path k i =
    (n : ℕ) × IsWordAt kind (signature_on d) d.bytes.now d.tokens.now (definitions_on d) (main_on d) path k n
    × (i ≡ length d.tokens.now - n)

-- that of one of these
abbrev pub HasIndexIn : Desk → Kind → List ℕ → List ℕ → ℕ → Type 0
HasIndexIn d kind path ks i = (k : ℕ) × Contains ks k × IsIndexAt d kind path k i
