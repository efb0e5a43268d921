-- A search for a fact that differs from one of its name before it, as the code makes it.
use Rattle.std.specs.Prelude.{ℕ, Bool, true, false, not, ◌&&◌, ◌||◌, List, [], ◌∷◌, ◌++◌, length, nat_eq, Option, Some, None, is_some, if◌then◌else◌}
use Rattle.sap_terms.specs.Named.{first_named}
use Rattle.sap_terms.specs.Signature.{same_bool}
use Rattle.sap_terms.specs.declared.fact.Fact.{Fact}
use Rattle.sap_process.specs.Action.{Action, event, embedded}
use Rattle.sap_process.specs.Heads.{stored_facts, shown_facts}
use Rattle.sap_process.specs.Proc.{Proc, nil, parallel, replicated, act, test, lookup}
use Rattle.sap_nodes.specs.HeadNodes as node
use Rattle.sap_nodes.specs.HeadNodes.{Node, action_nodes}
use Rattle.sap_nodes.specs.code.Searches.{visited, at_first}
use Rattle.sap_nodes.specs.declared.clash.Facts.{Facts}
use Rattle.sap_nodes.specs.declared.clash.Met.{Met}
use Rattle.sap_nodes.specs.declared.clash.Noted.{Noted}
use Rattle.sap_nodes.specs.declared.part.Part.{Part}
use Rattle.sap_nodes.specs.declared.part.Part.TheVariants.{Pattern, Shown, Given}

-- what is noted of a fact: of one that is shown no form
abbrev pub noted_of : Bool → Fact → Noted
noted_of both f = record { name = f.name; arity = length f.args; persistent = both && f.persistent }

-- they have as many arguments, and one form
abbrev pub is_same : Noted → Noted → Bool
is_same x y = nat_eq x.arity y.arity && same_bool x.persistent y.persistent

-- the first of this name
abbrev pub first_of : List Noted → List ℕ → Option Noted
first_of xs n = first_named (λ (x : Noted). x.name) xs n

-- whether the first differs from it, or another one of the name does from the first
abbrev pub clash_with : Option Noted → Bool → Noted → Bool
clash_with None other x = false
clash_with (Some first) other x = not (is_same first x) || other

abbrev pub is_clash : Met → Noted → Bool
is_clash m x = clash_with (first_of m.firsts x.name) (is_some (first_of m.others x.name)) x

-- it is noted as the first, not at all, or as one that differs from the first
abbrev pub noted_with : Option Noted → Met → Noted → Met
noted_with None m x = record { firsts = m.firsts ++ x ∷ []; others = m.others }
noted_with (Some first) m x = if is_same first x then m else record { firsts = m.firsts; others = m.others ++ x ∷ [] }

abbrev pub noted : Met → Noted → Met
noted m x = noted_with (first_of m.firsts x.name) m x

-- these facts are, one after another
abbrev pub noted_all : Bool → Met → List Fact → Met
noted_all both m [] = m
noted_all both m (f ∷ fs) = noted_all both (noted m (noted_of both f)) fs

abbrev pub nothing_noted : Facts
nothing_noted = record { stored = record { firsts = []; others = [] }; shown = record { firsts = []; others = [] }; search = at_first }

-- a fact of this part differs from one before it
abbrev pub fact_clashes : Facts → Part → Fact → Bool
fact_clashes a Shown f = is_clash a.shown (noted_of false f)
fact_clashes a Pattern f = is_clash a.stored (noted_of true f)
fact_clashes a Given f = is_clash a.stored (noted_of true f)

-- and is noted
abbrev pub fact_noted : Facts → Part → Fact → Facts
fact_noted a Shown f = record { stored = a.stored; shown = noted a.shown (noted_of false f); search = a.search }
fact_noted a Pattern f = record { stored = noted a.stored (noted_of true f); shown = a.shown; search = a.search }
fact_noted a Given f = record { stored = noted a.stored (noted_of true f); shown = a.shown; search = a.search }

-- those of a head are
abbrev pub head_noted : Facts → Proc → Facts
head_noted a p = record { stored = noted_all true a.stored (stored_facts p); shown = noted_all false a.shown (shown_facts p); search = a.search }

-- those of all places from this one on
abbrev pub places_noted : Facts → Proc → Facts
places_noted a nil = head_noted a nil
places_noted a (parallel p q) = places_noted (places_noted (head_noted a (parallel p q)) p) q
places_noted a (replicated p) = places_noted (head_noted a (replicated p)) p
places_noted a (act x p) = places_noted (head_noted a (act x p)) p
places_noted a (test t u p q) = places_noted (places_noted (head_noted a (test t u p q)) p) q
places_noted a (lookup t x p q) = places_noted (places_noted (head_noted a (lookup t x p q)) p) q

-- a node of a head is met
abbrev pub is_clashing : Facts → Node → Bool
is_clashing a (node.fact part f) = fact_clashes a part f
is_clashing a _ = false

abbrev pub node_noted : Facts → Node → Facts
node_noted a (node.fact part f) = fact_noted a part f
node_noted a _ = a

abbrev pub clash_met : Facts → Node → Facts
clash_met a n = record { stored = (node_noted a n).stored; shown = (node_noted a n).shown; search = visited (is_clashing a n) a.search }

-- and these, one after another
abbrev pub clash_met_all : Facts → List Node → Facts
clash_met_all a [] = a
clash_met_all a (n ∷ ns) = clash_met_all (clash_met a n) ns

-- those of a head that has facts
abbrev pub clash_action : Facts → Action → Facts
clash_action a (event f) = clash_met_all a (action_nodes (event f))
clash_action a (embedded l e r) = clash_met_all a (action_nodes (embedded l e r))
clash_action a _ = a

abbrev pub clash_head : Facts → Proc → Facts
clash_head a (act x p) = clash_action a x
clash_head a _ = a

-- along these digits, those beside the way too
abbrev pub clash_along : Facts → List ℕ → Proc → Facts
clash_along a [] p = clash_head a p
clash_along a (d ∷ v) nil = head_noted a nil
clash_along a (d ∷ v) (parallel p q) =
    if nat_eq d 1 then clash_along (head_noted a (parallel p q)) v p else clash_along (places_noted (head_noted a (parallel p q)) p) v q
clash_along a (d ∷ v) (replicated p) = if nat_eq d 1 then clash_along (head_noted a (replicated p)) v p else head_noted a (replicated p)
clash_along a (d ∷ v) (act x p) = if nat_eq d 1 then clash_along (head_noted a (act x p)) v p else head_noted a (act x p)
clash_along a (d ∷ v) (test t u p q) =
    if nat_eq d 1 then clash_along (head_noted a (test t u p q)) v p else clash_along (places_noted (head_noted a (test t u p q)) p) v q
clash_along a (d ∷ v) (lookup t x p q) =
    if nat_eq d 1 then clash_along (head_noted a (lookup t x p q)) v p else clash_along (places_noted (head_noted a (lookup t x p q)) p) v q
