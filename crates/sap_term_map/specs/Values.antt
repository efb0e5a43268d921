-- What a map from terms has, as a function of trees.
use Rattle.std.specs.Prelude.{Option, option_map, if◌then◌else◌}
use Rattle.indexmap.specs.IndexMap.{get_by}
use Rattle.sap_term_map.specs.declared.term_map.TermMap.{TermMap}
use Rattle.sap_terms.specs.Same.{same_tree}
use Rattle.sap_terms.specs.Tree.{Tree}
use Rattle.sap_terms.specs.View.{tree}

-- what the map has at x
abbrev pub value_at : TermMap → Tree → Option Tree
value_at m x = option_map tree (get_by (λ k. same_tree x (tree k)) m.terms)

-- the same, but that x has o
abbrev pub with_at : (Tree → Option Tree) → Tree → Option Tree → Tree → Option Tree
with_at st x o = λ y. if same_tree x y then o else st y
