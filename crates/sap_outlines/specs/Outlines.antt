-- What outlines of rules say.
use Rattle.std.specs.List.{flat_map}
use Rattle.std.specs.Option.{option_to_list}
use Rattle.std.specs.Prelude.{ℕ, List, [], ◌∷◌, ◌++◌, map, slice_get}
use Rattle.sap_terms.specs.AdversaryFacts.{linear}
use Rattle.sap_terms.specs.Equations.{app2, pair_name}
use Rattle.sap_terms.specs.Tree.{Tree, variable}
use Rattle.sap_terms.specs.declared.fact.Fact.{Fact}
use Rattle.sap_terms.specs.declared.var.Var.{Var}
use Rattle.sap_process.specs.Action as action
use Rattle.sap_process.specs.Proc.{Proc, act, test, lookup}
use Rattle.sap_process.specs.Sites.{fresh_var, message_var}
use Rattle.sap_process.specs.Scopes.{lock_var}
use Rattle.sap_place.specs.StateFacts.{copies_fact, waits_fact, tag}
use Rattle.sap_rule.specs.declared.rule.Rule.{Rule}
use Rattle.sap_outlines.specs.Templates.{first_of, second_of, state, rule, embedded_acts}
use Rattle.sap_outlines.specs.declared.outline.Control.{Control}
use Rattle.sap_outlines.specs.declared.outline.Control.TheVariants.{Here, First, Second, Inside, Copies, Waits}
use Rattle.sap_outlines.specs.declared.outline.Part.{Part}
use Rattle.sap_outlines.specs.declared.outline.Part.TheVariants.{Of, Over, Taken, Shown, Added}
use Rattle.sap_outlines.specs.declared.outline.Outline.{Outline}

-- the terms that rules of a place speak of, in the order of their numbers
abbrev pub terms_at : Proc → List Tree
terms_at (act (action.new x) p) = variable (fresh_var x) ∷ []
terms_at (act (action.out t) p) = t ∷ []
terms_at (act (action.send t u) p) = t ∷ u ∷ variable tag ∷ []
terms_at (act (action.input t) p) = t ∷ []
terms_at (act (action.receive t u) p) = t ∷ u ∷ variable tag ∷ app2 pair_name t u ∷ []
terms_at (act (action.insert t u) p) = t ∷ u ∷ []
terms_at (act (action.delete t) p) = t ∷ []
terms_at (act (action.lock t l) p) = t ∷ variable (lock_var l) ∷ []
terms_at (act (action.unlock t l) p) = t ∷ variable (lock_var l) ∷ []
terms_at (test t u p q) = t ∷ u ∷ []
terms_at (lookup t x p q) = t ∷ variable (message_var x) ∷ []
terms_at _ = []

-- the facts that an embedded rule takes
abbrev pub taken_at : Proc → List Fact
taken_at (act (action.embedded left acts right) p) = left
taken_at _ = []

-- what an event or an embedded rule shows
abbrev pub shown_at : Proc → List Fact
shown_at (act (action.event f) p) = embedded_acts (f ∷ [])
shown_at (act (action.embedded left acts right) p) = embedded_acts acts
shown_at _ = []

-- the facts that an embedded rule adds
abbrev pub added_at : Proc → List Fact
added_at (act (action.embedded left acts right) p) = right
added_at _ = []

-- the term of this number, where there is one
abbrev pub numbered : List Tree → ℕ → List Tree
numbered ts k = option_to_list (slice_get ts k)

-- the terms of these numbers
abbrev pub all_numbered : List Tree → List ℕ → List Tree
all_numbered ts ks = flat_map (numbered ts) ks

-- the fact of control, where the one scope is that at the place and the inner one that at its first child
abbrev pub control : List ℕ → List Var → List Var → Control → Fact
control path v inner Here = state path v
control path v inner First = state (first_of path) v
control path v inner Second = state (second_of path) v
control path v inner Inside = state (first_of path) inner
control path v inner Copies = copies_fact path (map variable v)
control path v inner Waits = waits_fact path (map variable v ++ variable tag ∷ [])

-- the facts of a part, over these terms
abbrev pub part : List Tree → Proc → List ℕ → List Var → List Var → Part → List Fact
part ts p path v inner (Of c) = control path v inner c ∷ []
part ts p path v inner (Over word ks) = linear word.now (all_numbered ts ks.now) ∷ []
part ts p path v inner Taken = taken_at p
part ts p path v inner Shown = shown_at p
part ts p path v inner Added = added_at p

-- those of one part after another
abbrev pub side : List Tree → Proc → List ℕ → List Var → List Var → List Part → List Fact
side ts p path v inner parts = flat_map (part ts p path v inner) parts

-- the rule of an outline
abbrev pub outlined : List Tree → Proc → List ℕ → List Var → List Var → Outline → Rule
outlined ts p path v inner o =
    rule o.word.now path (side ts p path v inner o.left.now) (side ts p path v inner o.acts.now)
    (side ts p path v inner o.right.now)
