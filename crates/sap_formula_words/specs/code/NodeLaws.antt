-- What the laws of lower crates say, as the proofs of this one need it.
use Rattle.std.specs.Prelude.{◌≡◌, ◌<◌, ◌≤◌, List, All, length}
use Rattle.std.specs.List.{AllZip}
use Rattle.sap_terms.specs.Signature.{Sig}
use Rattle.sap_terms.specs.Tree.{Tree, node_count}
use Rattle.sap_grammar.specs.Words.{Word}
use Rattle.sap_grammar.specs.TermGrammar.{IsTerm}
use Rattle.sap_node_words.specs.NodeWords.{term_words, nodes, StandsAt, last_words}

-- the words of the nodes of a term
pub record NodeLaws : Type 0 where
  pub counts : (g : Sig) (t : Tree) (a b : List Word) (r : IsTerm g t a b) → length (term_words r) ≡ node_count t
  pub within : (g : Sig) (t : Tree) (a b : List Word) (r : IsTerm g t a b) → All (λ n. (length b < n) × (n ≤ length a)) (term_words r)
  pub words : (g : Sig) (t : Tree) (a b : List Word) (r : IsTerm g t a b) → AllZip (λ u n. StandsAt g u (last_words n a)) (nodes t) (term_words r)
  pub same : (g h : Sig) (t : Tree) (a b c : List Word) (r : IsTerm g t a b) (s : IsTerm h t a c) → term_words r ≡ term_words s
