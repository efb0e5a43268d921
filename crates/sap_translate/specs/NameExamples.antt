-- A small process that makes a name, and states of its rules where the adversary took one, to see by hand whose a name is.
use Rattle.std.specs.Prelude.{[], ◌∷◌, Some, None}
use Rattle.sap_restrict.specs.ReservedFacts.{init_fact}
use Rattle.sap_terms.specs.AdversaryFacts.{fr_fact}
use Rattle.sap_terms.specs.Trace.{Trace}
use Rattle.sap_terms.specs.Tree.{fresh, variable}
use Rattle.sap_place.specs.StateFacts.{state_fact}
use Rattle.sap_process.specs.Action.{new, event}
use Rattle.sap_process.specs.Proc.{Proc, nil, act}
use Rattle.sap_rule.specs.RuleSteps.{RuleState}
use Rattle.sap_translate.specs.Examples.{a_fact, c}

-- new ~c; event A(~c)
abbrev pub name_told : Proc
name_told = act (new c) (act (event (a_fact (variable c))) nil)

-- the rules have started, Fr(~2) was drawn, and the adversary took it
abbrev pub name_owned : RuleState
name_owned = record { facts = Some (state_fact [] []) ∷ None ∷ []; known = fresh 2 ∷ []; made = 2 ∷ [] }

-- what is shown on the way there
abbrev pub name_owned_trace : Trace
name_owned_trace = (init_fact ∷ []) ∷ [] ∷ [] ∷ []

-- the same, where Fr(~1) was drawn too, and stands
abbrev pub other_drawn : RuleState
other_drawn = record { facts = Some (state_fact [] []) ∷ None ∷ Some (fr_fact 1) ∷ []; known = fresh 2 ∷ []; made = 2 ∷ 1 ∷ [] }

-- and once the process made its name of that
abbrev pub other_made : RuleState
other_made = record { facts = None ∷ None ∷ None ∷ Some (state_fact (1 ∷ []) (fresh 1 ∷ [])) ∷ []; known = fresh 2 ∷ []; made = 2 ∷ 1 ∷ [] }
