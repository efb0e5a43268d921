-- Two formulas joined by a connective, and how far the first settles the answer.
use Rattle.std.specs.Prelude.{Bool, true, false, not, ◌&&◌, ◌||◌, Option, Some, None}
use Rattle.sap_search.specs.declared.testing.Connective.{Connective}
use Rattle.sap_search.specs.declared.testing.Connective.TheVariants.{And, Or, Imp, Iff}
use Rattle.sap_terms.specs.Signature.{same_bool}

-- the two joined
abbrev pub joined : Connective → Bool → Bool → Bool
joined And a b = a && b
joined Or a b = a || b
joined Imp a b = not a || b
joined Iff a b = same_bool a b

-- the answer that the first settles
abbrev pub settled : Connective → Bool → Option Bool
settled And true = None
settled And false = Some false
settled Or true = Some true
settled Or false = None
settled Imp true = None
settled Imp false = Some true
settled Iff a = None

-- the answer where it settles none
abbrev pub last_of : Connective → Bool → Bool → Bool
last_of And a b = b
last_of Or a b = b
last_of Imp a b = b
last_of Iff a b = same_bool a b
