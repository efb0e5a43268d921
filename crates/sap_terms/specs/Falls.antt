-- No term of a list is deeper than the list has nodes.
use Rattle.std.specs.Prelude.{◌≤◌, List, [], ◌∷◌, map}
use Rattle.std.proofs.Common.{arith}
use denote.Param.Weighed.{most}
use Rattle.sap_terms.specs.Tree.{trees_of, trees_count, node_count}
use Rattle.sap_terms.specs.View.{tree}
use Rattle.sap_terms.specs.code.Held.{held}
use Rattle.std.specs.Prelude.{Option, None, Some, Vec}
use Rattle.std.specs.declared.alloc.Global.{Global}
use Rattle.std.specs.declared.rc.Rc.{Rc}
use Rattle.sap_terms.specs.declared.term.Term.{Term}
use Rattle.sap_terms.specs.declared.term.Term.TheVariants.{Var, Public, Fresh, App}
use Rattle.sap_terms.specs.declared.term.TermList.TheDeep.{deep-Term, deep-TermList}

pub deep_le-node_count : (t : Term) → deep-Term t ≤ node_count (tree t)
deep_le-node_count (Var v) = omega arith
deep_le-node_count (Public n) = omega arith
deep_le-node_count (Fresh k) = omega arith
deep_le-node_count (App f ts) = omega arith

pub most_le-trees_count : (ts : List Term) → most deep-Term ts ≤ trees_count (trees_of (map tree ts))
most_le-trees_count [] = omega arith
most_le-trees_count (t ∷ ts) = omega (arith, most_le-trees_count ts, deep_le-node_count t)

pub falls : (m : Global) (s : Option (Rc (Vec Term Global) Global)) → deep-TermList (record { alloc = m; shared = s }) ≤ trees_count (trees_of (map tree (held s)))
falls m None = omega arith
falls m (Some r) = omega (arith, most_le-trees_count r.value.items)
