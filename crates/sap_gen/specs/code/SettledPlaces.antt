-- What the state fact of a place settles to, by the process that stands there, and the short rules of a process, by a walk.
use Rattle.std.specs.Prelude.{ℕ, ◌-◌, Bool, true, false, List, [], ◌∷◌, ◌++◌, Option, Some, None, drop, map}
use Rattle.std.specs.Str.{bytes_eq}
use Rattle.sap_terms.specs.AdversaryFacts.{out_fact}
use Rattle.sap_terms.specs.Tree.{variable}
use Rattle.sap_terms.specs.declared.fact.Fact.{Fact}
use Rattle.sap_terms.specs.declared.var.Var.{Var}
use Rattle.sap_place.specs.StateFacts.{copies_fact}
use Rattle.sap_process.specs.Action.{out}
use Rattle.sap_process.specs.Proc.{Proc, nil, parallel, replicated, act}
use Rattle.sap_rule.specs.declared.rule.Rule.{Rule}
use Rattle.sap_templates.specs.Places.{ScopedPlace, root, scoped_place_at}
use Rattle.sap_templates.specs.Templates.{first_of, rules_of, second_of, state}
use Rattle.sap_translate.specs.relation.Names.{state_name}
use Rattle.sap_gen.specs.Silent.{silent_rule}

-- at a silent place what its children's settle to, behind the term that is put out; at every other place the state fact itself
abbrev pub settled : List ℕ → List Var → Proc → List Fact
settled path v nil = []
settled path v (parallel p q) = settled (first_of path) v p ++ settled (second_of path) v q
settled path v (act (out t) p) = out_fact t ∷ settled (first_of path) v p
settled path v (replicated p) = copies_fact path (map variable v) ∷ []
settled path v _ = state path v ∷ []

-- the path that these digits tell
abbrev pub undo : List ℕ → List ℕ
undo cs = map (λ c. c - 48) cs

-- the path that the name of a state fact tells
abbrev pub path_of : List ℕ → List ℕ
path_of n = undo (drop 6 n)

-- what a silent place's state fact settles to
abbrev pub settled_by : ScopedPlace → Option Rule → Option (List Fact)
settled_by a None = None
settled_by a (Some q) = Some (settled a.path a.above a.body)

-- so where the fact has the name of the place's
abbrev pub settled_if : ScopedPlace → Bool → Option (List Fact)
settled_if a false = None
settled_if a true = settled_by a (silent_rule a.path a.above a.body)

-- of a place that a name tells
abbrev pub settled_at : List ℕ → Option ScopedPlace → Option (List Fact)
settled_at n None = None
settled_at n (Some a) = settled_if a (bytes_eq (state_name a.path) n)

-- of the place whose state fact has this name, if it is silent
abbrev pub settled_named : Proc → List ℕ → Option (List Fact)
settled_named p n = settled_at n (scoped_place_at (root p) (path_of n))

-- the fact, or what it settles to
abbrev pub settled_or : Option (List Fact) → Fact → List Fact
settled_or None f = f ∷ []
settled_or (Some hs) f = hs

-- each of these
abbrev pub settled_facts : Proc → List Fact → List Fact
settled_facts p [] = []
settled_facts p (f ∷ fs) = settled_or (settled_named p f.name) f ++ settled_facts p fs

-- the rule with its right side settled, unless what it takes first is the state fact of a silent place
abbrev pub kept_rule : Proc → Rule → Option (List Fact) → List Rule
kept_rule p r None = record r { right = settled_facts p r.right } ∷ []
kept_rule p r (Some hs) = []

abbrev pub kept_by : Proc → Rule → List Fact → List Rule
kept_by p r [] = kept_rule p r None
kept_by p r (f ∷ fs) = kept_rule p r (settled_named p f.name)

-- of each of these
abbrev pub kept_rules : Proc → List Rule → List Rule
kept_rules p [] = []
kept_rules p (r ∷ rs) = kept_by p r r.left ++ kept_rules p rs

-- the short rules of a process
abbrev pub short_rules : Proc → List Rule
short_rules p = kept_rules p (rules_of p)
