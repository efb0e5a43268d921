-- Which variables the rules of a place leave open: what is taken doesn't determine them, so that a line has to name them.
use Rattle.std.specs.Prelude.{List, [], ◌∷◌, ◌++◌}
use Rattle.sap_terms.specs.Variables.{facts_vars, new_vars}
use Rattle.sap_terms.specs.declared.fact.Fact.{Fact}
use Rattle.sap_terms.specs.declared.var.Var.{Var}
use Rattle.sap_process.specs.Action as action
use Rattle.sap_process.specs.Action.{Action}
use Rattle.sap_process.specs.Proc as whole
use Rattle.sap_process.specs.Proc.{Proc, act}
use Rattle.sap_process.specs.Sites.{message_var, var_names}

-- the first occurrences in an embedded rule of what is neither in scope nor on its left side
abbrev pub left_open : List Var → List Fact → List Fact → List Fact → List Var
left_open v l a r = new_vars (var_names (v ++ facts_vars l)) (facts_vars (a ++ r))

-- what each of the rules of an action leaves open, where these variables are in scope
abbrev pub opened_by : List Var → Action → List (List Var)
opened_by v (action.new x) = [] ∷ []
opened_by v (action.out t) = [] ∷ []
opened_by v (action.send t u) = [] ∷ [] ∷ [] ∷ []
opened_by v (action.input t) = [] ∷ []
opened_by v (action.receive t u) = [] ∷ [] ∷ []
opened_by v (action.event f) = [] ∷ []
opened_by v (action.insert t u) = [] ∷ []
opened_by v (action.delete t) = [] ∷ []
opened_by v (action.lock t n) = [] ∷ []
opened_by v (action.unlock t n) = [] ∷ []
opened_by v (action.embedded l a r) = left_open v l a r ∷ []

-- what each of the rules of a place does: a look-up that finds leaves open what it finds
abbrev pub opened : List Var → Proc → List (List Var)
opened v whole.nil = [] ∷ []
opened v (whole.parallel p q) = [] ∷ []
opened v (whole.replicated p) = [] ∷ [] ∷ []
opened v (act a p) = opened_by v a
opened v (whole.test t u p q) = [] ∷ [] ∷ []
opened v (whole.lookup t x p q) = (message_var x ∷ []) ∷ [] ∷ []
