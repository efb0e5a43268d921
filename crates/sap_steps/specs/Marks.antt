-- The marks of runs of rules, read off their full traces.
use Rattle.std.specs.Prelude.{List, [], ◌∷◌, codes}
use Rattle.std.specs.List.{filter_map, flat_map}
use Rattle.sap_terms.specs.Trace.{Trace}
use Rattle.sap_terms.specs.AdversaryFacts.{linear}
use Rattle.sap_formula.specs.Hide.{visible}
use Rattle.sap_runs.specs.Inner.{equal, different, found, missing, inserted, deleted, locked, unlocked}
use Rattle.sap_runs.specs.Marks.{Mark, inside, showing, marks_of}
use Rattle.sap_steps.specs.Inner.{inner_of, k, v}

-- the inner actions and the visible facts that aren't K, in one list in the order of the run
abbrev pub marks : Trace → List Mark
marks full = flat_map (λ acts. marks_of (filter_map inner_of acts) (visible acts)) full

-- the marks of the full trace of the example
abbrev pub marks_by_hand : List Mark
marks_by_hand =
    inside (inserted k v) ∷ inside (found k v) ∷ inside (equal k k) ∷ inside (different k v)
    ∷ showing (linear (codes "A") (k ∷ []) ∷ []) ∷ inside (locked k) ∷ inside (unlocked v)
    ∷ inside (deleted k) ∷ inside (missing v) ∷ []
