-- What stands at the head of a process: its terms, facts and variables, without those of what follows.
use Rattle.std.specs.Prelude.{ℕ, List, [], ◌∷◌, ◌++◌, Option, Some, None}
use Rattle.std.specs.List.{flat_map}
use Rattle.sap_terms.specs.Tree.{Tree}
use Rattle.sap_terms.specs.Variables.{tree_vars}
use Rattle.sap_terms.specs.declared.fact.Fact.{Fact}
use Rattle.sap_terms.specs.declared.var.Sort.TheVariants.{Msg}
use Rattle.sap_terms.specs.declared.var.Var.{Var}
use Rattle.sap_process.specs.Action.{Action, new, out, send, input, receive, event, insert, delete, lock, unlock, embedded}
use Rattle.sap_process.specs.Proc.{Proc, nil, parallel, replicated, act, test, lookup}

-- the arguments of facts, from left to right
abbrev pub facts_terms : List Fact → List Tree
facts_terms fs = flat_map (λ (f : Fact). f.args) fs

-- each occurrence of a variable in terms, from left to right
abbrev pub terms_vars : List Tree → List Var
terms_vars ts = flat_map tree_vars ts

-- the terms of an action, from left to right
abbrev pub action_terms : Action → List Tree
action_terms (new x) = []
action_terms (out t) = t ∷ []
action_terms (send t u) = t ∷ u ∷ []
action_terms (input t) = t ∷ []
action_terms (receive t u) = t ∷ u ∷ []
action_terms (event f) = f.args
action_terms (insert t u) = t ∷ u ∷ []
action_terms (delete t) = t ∷ []
action_terms (lock t n) = t ∷ []
action_terms (unlock t n) = t ∷ []
action_terms (embedded l e r) = facts_terms (l ++ (e ++ r))

-- the terms at the head of a process
abbrev pub head_terms : Proc → List Tree
head_terms nil = []
head_terms (parallel p q) = []
head_terms (replicated p) = []
head_terms (act a p) = action_terms a
head_terms (test t u p q) = t ∷ u ∷ []
head_terms (lookup t x p q) = t ∷ []

-- the variable that `new` binds
abbrev pub action_binder : Action → Option Var
action_binder (new x) = Some x
action_binder _ = None

-- the variable that `new` or `lookup` binds
abbrev pub binder : Proc → Option Var
binder nil = None
binder (parallel p q) = None
binder (replicated p) = None
binder (act a p) = action_binder a
binder (test t u p q) = None
binder (lookup t x p q) = Some x

-- what it binds, where `lookup` binds a plain identifier whatever its sign
abbrev pub bound_as : Proc → Option Var
bound_as nil = None
bound_as (parallel p q) = None
bound_as (replicated p) = None
bound_as (act a p) = action_binder a
bound_as (test t u p q) = None
bound_as (lookup t x p q) = Some (record { name = x.name; sort = Msg })

-- it, or nothing
abbrev pub listed : Option Var → List Var
listed None = []
listed (Some x) = x ∷ []

-- each variable at the head
abbrev pub head_vars : Proc → List Var
head_vars p = listed (binder p) ++ terms_vars (head_terms p)

-- the patterns of an action: what an input has to fit, and what an embedded rule takes
abbrev pub action_patterns : Action → List Tree
action_patterns (input t) = t ∷ []
action_patterns (receive t u) = u ∷ []
action_patterns (embedded l e r) = facts_terms l
action_patterns _ = []

-- those at the head of a process
abbrev pub patterns : Proc → List Tree
patterns (act a p) = action_patterns a
patterns _ = []

-- the facts that an embedded rule takes and adds
abbrev pub action_stored : Action → List Fact
action_stored (embedded l e r) = l ++ r
action_stored _ = []

-- those at the head of a process
abbrev pub stored_facts : Proc → List Fact
stored_facts (act a p) = action_stored a
stored_facts _ = []

-- the fact of an event, and those that an embedded rule shows
abbrev pub action_shown : Action → List Fact
action_shown (event f) = f ∷ []
action_shown (embedded l e r) = e
action_shown _ = []

-- those at the head of a process
abbrev pub shown_facts : Proc → List Fact
shown_facts (act a p) = action_shown a
shown_facts _ = []

-- the terms that are evaluated before anything is bound here
abbrev pub action_used : Action → List Tree
action_used (new x) = []
action_used (out t) = t ∷ []
action_used (send t u) = t ∷ u ∷ []
action_used (input t) = []
action_used (receive t u) = t ∷ []
action_used (event f) = f.args
action_used (insert t u) = t ∷ u ∷ []
action_used (delete t) = t ∷ []
action_used (lock t n) = t ∷ []
action_used (unlock t n) = t ∷ []
action_used (embedded l e r) = []

-- how many locks an action sets
abbrev pub locks_set : Action → ℕ
locks_set (lock t n) = 1
locks_set _ = 0
