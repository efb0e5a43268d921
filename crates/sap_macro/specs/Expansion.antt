-- Uses of definitions, replaced by what they mean.
use Rattle.std.specs.Prelude.{ℕ, List, [], ◌∷◌, ◌++◌, map, if◌then◌else◌}
use Rattle.std.specs.Str.{bytes_eq}
use Rattle.sap_terms.specs.Choice.{Choice, instance}
use Rattle.sap_terms.specs.Tree.{Tree, variable, public}
use Rattle.sap_terms.specs.Variables.{is_known, tree_vars, facts_vars}
use Rattle.sap_terms.specs.declared.var.Var.{Var}
use Rattle.sap_process.specs.Action.{Action, new, out, send, input, receive, event, insert, delete, lock, unlock, embedded}
use Rattle.sap_process.specs.Instance.{action_instance}
use Rattle.sap_process.specs.Proc as whole
use Rattle.sap_process.specs.Proc.{Proc}
use Rattle.sap_macro.specs.NewNames.{renamed, taken_after, once}
use Rattle.sap_macro.specs.UpToNames.{named}
use Rattle.sap_macro.specs.Written.{Written, nil, call, parallel, replicated, act, test, lookup, Definition}

-- the names in scope behind a pattern with these variables: those that aren't in it come to it, the last one first
abbrev pub scope_behind : List (List ℕ) → List Var → List (List ℕ)
scope_behind scope [] = scope
scope_behind scope (v ∷ vs) =
    scope_behind (if is_known scope v.name then scope else (v.name ∷ scope)) vs

-- the names that it binds
abbrev pub bound_in : List (List ℕ) → List Var → List (List ℕ)
bound_in scope [] = []
bound_in scope (v ∷ vs) =
    (if is_known scope v.name then [] else (v.name ∷ []))
    ++ bound_in (if is_known scope v.name then scope else (v.name ∷ scope)) vs

-- the variables that an action binds, but for those whose names are in scope
abbrev pub binding_vars : Action → List Var
binding_vars (new x) = x ∷ []
binding_vars (out t) = []
binding_vars (send t u) = []
binding_vars (input t) = tree_vars t
binding_vars (receive t u) = tree_vars u
binding_vars (event f) = []
binding_vars (insert t u) = []
binding_vars (delete t) = []
binding_vars (lock t n) = []
binding_vars (unlock t n) = []
binding_vars (embedded l e r) = facts_vars (l ++ (e ++ r))

-- the names in scope behind an action
abbrev pub behind : List (List ℕ) → Action → List (List ℕ)
behind scope a = scope_behind scope (binding_vars a)

-- the names that it binds
abbrev pub bound_by : List (List ℕ) → Action → List (List ℕ)
bound_by scope a = bound_in scope (binding_vars a)

-- the names that a process binds, where these are in scope, binder by binder
abbrev pub binders : List (List ℕ) → Written → List (List ℕ)
binders scope nil = []
binders scope (call f ts) = []
binders scope (parallel p q) = binders scope p ++ binders scope q
binders scope (replicated p) = binders scope p
binders scope (act a p) = bound_by scope a ++ binders (behind scope a) p
binders scope (test t u p q) = binders scope p ++ binders scope q
binders scope (lookup t x p q) = x.name ∷ (binders (x.name ∷ scope) p ++ binders scope q)

-- the names that a definition's body binds, each once, in the order of their first binders
abbrev pub own_names : Definition → List (List ℕ)
own_names d = once [] (binders d.params d.body)

-- a process, and the names that are taken then: those of the file, and those that were chosen
pub record Expanded : Type 0 where
  pub process : Proc
  pub taken : List (List ℕ)

abbrev pub expanded_as : Proc → List (List ℕ) → Expanded
expanded_as p taken = record { process = p; taken = taken }

-- what a use means, by its name, its arguments, and what is taken before
abbrev pub Meaning : Type 0
Meaning = List ℕ → List Tree → List (List ℕ) → Expanded

-- names stay, and so do variables
abbrev pub same_name : List ℕ → List ℕ
same_name x = x

abbrev pub by_names : (List ℕ → List ℕ) → Choice
by_names b v = variable (named (b v.name) v.sort)

abbrev pub unchanged : Choice
unchanged v = variable v

-- the argument of a parameter, '' where it has none; for other variables what the choice says
abbrev pub put : List (List ℕ) → List Tree → Choice → Choice
put [] ts other v = other v
put (y ∷ ys) [] other v = if bytes_eq y v.name then public [] else put ys [] other v
put (y ∷ ys) (t ∷ ts) other v = if bytes_eq y v.name then t else put ys ts other v

-- the action with the name that `new` binds replaced
abbrev pub binding : (List ℕ → List ℕ) → Action → Action
binding b (new x) = new (named (b x.name) x.sort)
binding b a = a

-- the process, its variables replaced by the choice, its binders by the names, and each use by what it means, in preorder
abbrev pub expanded : Meaning → Choice → (List ℕ → List ℕ) → Written → List (List ℕ) → Expanded
expanded m r b nil taken = expanded_as whole.nil taken
expanded m r b (call f ts) taken = m f (map (instance r) ts) taken
expanded m r b (parallel p q) taken =
    expanded_as
    (whole.parallel (expanded m r b p taken).process
    (expanded m r b q (expanded m r b p taken).taken).process)
    (expanded m r b q (expanded m r b p taken).taken).taken
expanded m r b (replicated p) taken =
    expanded_as (whole.replicated (expanded m r b p taken).process) (expanded m r b p taken).taken
expanded m r b (act a p) taken =
    expanded_as (whole.act (binding b (action_instance r a)) (expanded m r b p taken).process)
    (expanded m r b p taken).taken
expanded m r b (test t u p q) taken =
    expanded_as
    (whole.test (instance r t) (instance r u) (expanded m r b p taken).process
    (expanded m r b q (expanded m r b p taken).taken).process)
    (expanded m r b q (expanded m r b p taken).taken).taken
expanded m r b (lookup t x p q) taken =
    expanded_as
    (whole.lookup (instance r t) (named (b x.name) x.sort) (expanded m r b p taken).process
    (expanded m r b q (expanded m r b p taken).taken).process)
    (expanded m r b q (expanded m r b p taken).taken).taken

-- a use: the body, parameters replaced by the arguments, all at once, and what it binds by new names, which are chosen first
abbrev pub entered : Meaning → Definition → List Tree → List (List ℕ) → Expanded
entered m d ts taken =
    expanded m (put d.params ts (by_names (renamed taken (own_names d))))
    (renamed taken (own_names d)) d.body (taken_after taken (own_names d))

-- what names of processes mean, this definition too; one that nothing defines means `0`
abbrev pub with_definition : Meaning → Definition → Meaning
with_definition m d f ts taken = if bytes_eq d.name f then entered m d ts taken else m f ts taken

abbrev pub no_meaning : Meaning
no_meaning f ts taken = expanded_as whole.nil taken

-- what they mean behind these definitions, where they mean this before; each body knows those before it
abbrev pub meaning_after : Meaning → List Definition → Meaning
meaning_after m [] = m
meaning_after m (d ∷ ds) = meaning_after (with_definition m d) ds

abbrev pub meaning_of : List Definition → Meaning
meaning_of ds = meaning_after no_meaning ds

-- what names stand for that are replaced before anything else
abbrev pub Plain : Type 0
Plain = List ℕ → List Tree → Written

-- the process with each use replaced by what it stands for
abbrev pub with_uses : Plain → Written → Written
with_uses m nil = nil
with_uses m (call f ts) = m f ts
with_uses m (parallel p q) = parallel (with_uses m p) (with_uses m q)
with_uses m (replicated p) = replicated (with_uses m p)
with_uses m (act a p) = act a (with_uses m p)
with_uses m (test t u p q) = test t u (with_uses m p) (with_uses m q)
with_uses m (lookup t x p q) = lookup t x (with_uses m p) (with_uses m q)

-- the first where there are no parameters, else the second
abbrev pub where_none : List (List ℕ) → Written → Written → Written
where_none [] p q = p
where_none (x ∷ xs) p q = q

-- a name without parameters stands for its body, others stay
abbrev pub with_plain : Plain → Definition → Plain
with_plain m d f ts =
    if bytes_eq d.name f then where_none d.params (with_uses m d.body) (call f ts) else m f ts

abbrev pub plain_after : Plain → List Definition → Plain
plain_after m [] = m
plain_after m (d ∷ ds) = plain_after (with_plain m d) ds

-- the definitions with plain bodies
abbrev pub plain_bodies : Plain → List Definition → List Definition
plain_bodies m [] = []
plain_bodies m (d ∷ ds) =
    record d { body = with_uses m d.body } ∷ plain_bodies (with_plain m d) ds

-- the process with names without parameters replaced
abbrev pub plain : List Definition → Written → Written
plain ds p = with_uses (plain_after call ds) p

-- the definition with such a body
abbrev pub with_plain_body : List Definition → Definition → Definition
with_plain_body ds d = record d { body = plain ds d.body }

-- the expansion of a process, behind these definitions, where these are the names of the file
abbrev pub expansion : List Definition → List (List ℕ) → Written → Expanded
expansion ds identifiers p =
    expanded (meaning_of (plain_bodies call ds)) unchanged same_name (plain ds p) identifiers
