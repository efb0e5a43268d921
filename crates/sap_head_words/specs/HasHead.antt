-- The head of a place among the words that spell a process.
use Rattle.std.specs.Prelude.{◌≡◌, ◌≤◌, ℕ, List, length}
use Rattle.sap_terms.specs.Signature.{Sig}
use Rattle.sap_grammar.specs.Words.{Word}
use Rattle.sap_node_words.specs.NodeWords.{last_words}
use Rattle.sap_macro.specs.Located.{Located}
use Rattle.sap_origin.specs.Reached.{number_of}
use Rattle.sap_stems.specs.WrittenNodes.{written_nodes}
use Rattle.sap_head_words.specs.HeadWords.{HeadWords}

-- one of some words tells the place, its head begins there, and its nodes have a number each
pub record HasHead (g : Sig) (a : List Word) (q : Located) : Type 0 where
  pub numbers : List ℕ
  pub within : number_of q ≤ length a
  pub words : HeadWords g q (last_words (number_of q) a) numbers
  pub each : length numbers ≡ length (written_nodes q)
