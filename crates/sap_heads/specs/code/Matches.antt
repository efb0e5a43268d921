-- A pattern that is matched with a term by numbers.
use Rattle.std.specs.Prelude.{List, Option, Some, None, length}
use Rattle.sap_terms.specs.Tree.{Tree}
use Rattle.sap_rewrite.specs.Match.{IsOnlyMatch, HasNoMatch}
use Rattle.sap_share.specs.Env.{bindings_of, AreBound}
use Rattle.sap_share.specs.declared.env.Bound.{Bound}

-- what is bound then is the match of the pattern with the term, if there is one
abbrev pub IsMatched : List Tree → List Bound → Tree → Tree → Option (List Bound) → Type 0
IsMatched ts env p x None = HasNoMatch p x (bindings_of ts env)
IsMatched ts env p x (Some new) = IsOnlyMatch p x (bindings_of ts env) (bindings_of ts new) × AreBound (length ts) new
