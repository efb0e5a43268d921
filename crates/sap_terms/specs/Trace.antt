-- What runs show.
use Rattle.std.specs.Prelude.{List, [], ◌∷◌}
use Rattle.sap_terms.specs.declared.fact.Fact.{Fact}

-- the facts shown, time by time
abbrev pub Trace : Type 0
Trace = List (List Fact)

-- a time, unless nothing is shown at it
abbrev pub shown : List Fact → Trace
shown [] = []
shown (f ∷ fs) = (f ∷ fs) ∷ []
