-- The tests of a node, as the code makes them.
use Rattle.std.specs.Prelude.{Bool, true, false, not, ◌&&◌}
use Rattle.sap_terms.specs.Signature.{Sig, arity_of, is_destructor_of}
use Rattle.sap_terms.specs.TermTests.{has_arity}
use Rattle.sap_process.specs.code.Tests.{is_constant, is_reserved_var, is_reserved_fact}
use Rattle.sap_process.specs.declared.flaw.Flaw.{Flaw}
use Rattle.sap_process.specs.declared.flaw.Flaw.TheVariants.{BadFunction, ReservedVar, ReservedFact, PatternDestructor}
use Rattle.sap_nodes.specs.HeadNodes.{Node, binder, variable, symbol, fact}
use Rattle.sap_nodes.specs.declared.part.Part.{Part}
use Rattle.sap_nodes.specs.declared.part.Part.TheVariants.{Pattern}

abbrev pub is_pattern : Part → Bool
is_pattern Pattern = true
is_pattern _ = false

abbrev pub is_bad_node : Sig → Node → Bool
is_bad_node g (symbol a f n) = not (has_arity (arity_of g f) n)
is_bad_node g (binder v) = is_constant g v
is_bad_node g _ = false

abbrev pub is_reserved_var_node : Node → Bool
is_reserved_var_node (variable v) = is_reserved_var v
is_reserved_var_node (binder v) = is_reserved_var v
is_reserved_var_node _ = false

abbrev pub is_reserved_fact_node : Node → Bool
is_reserved_fact_node (fact a f) = is_reserved_fact f
is_reserved_fact_node _ = false

abbrev pub is_destructor_node : Sig → Node → Bool
is_destructor_node g (symbol a f n) = is_pattern a && is_destructor_of g f
is_destructor_node g _ = false

-- the node has the flaw, if it is one that the signature and names alone decide
abbrev pub is_such : Sig → Flaw → Node → Bool
is_such g BadFunction = is_bad_node g
is_such g ReservedVar = is_reserved_var_node
is_such g ReservedFact = is_reserved_fact_node
is_such g PatternDestructor = is_destructor_node g
is_such g _ = λ (n : Node). false
