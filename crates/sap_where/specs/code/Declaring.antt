-- What is added to a signature by what a word declares, if it does.
use Rattle.std.specs.Prelude.{ℕ, List, Option, Some, None}
use Rattle.sap_terms.specs.Signature.{Sig}
use Rattle.sap_grammar.specs.Declarations.{Declaration}
use Rattle.sap_grammar.specs.Signatures.{clash_with, with_declaration}

-- the signature with it, where it doesn't clash
abbrev pub with_given : Sig → Option Declaration → Sig
with_given g None = g
with_given g (Some d) = with_declaration g d

-- the name at which it clashes
abbrev pub clash_of : Sig → Option Declaration → Option (List ℕ)
clash_of g None = None
clash_of g (Some d) = clash_with g d
