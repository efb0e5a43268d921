-- Small processes with facts of one name, to try by hand which fact another differs from.
use Rattle.std.specs.Prelude.{true, codes, List, [], ◌∷◌}
use Rattle.sap_terms.specs.AdversaryFacts.{linear}
use Rattle.sap_terms.specs.Equations.{app2, pair_name}
use Rattle.sap_terms.specs.Tree.{Tree, variable}
use Rattle.sap_terms.specs.declared.fact.Fact.{Fact}
use Rattle.sap_terms.specs.declared.var.Sort.TheVariants.{Msg}
use Rattle.sap_process.specs.Action.{event, embedded}
use Rattle.sap_process.specs.Proc.{Proc, nil, parallel, act}

-- x
abbrev pub x : Tree
x = variable (record { name = codes "x"; sort = Msg })

-- event A(..)
abbrev pub shows : List Tree → Proc → Proc
shows ts p = act (event (linear (codes "A") ts)) p

-- event B(x)
abbrev pub shows_other : Proc → Proc
shows_other p = act (event (linear (codes "B") (x ∷ []))) p

-- event !A(x)
abbrev pub shows_lasting : Proc → Proc
shows_lasting p = act (event (record { name = codes "A"; persistent = true; args = x ∷ [] })) p

-- F(..) and !F(x)
abbrev pub stored : List Tree → Fact
stored ts = linear (codes "F") ts

abbrev pub lasting : Fact
lasting = record { name = codes "F"; persistent = true; args = x ∷ [] }

-- [ .. ] --[ .. ]-> [ .. ]
abbrev pub rule : List Fact → List Fact → List Fact → Proc → Proc
rule l e r p = act (embedded l e r) p

-- event A(x); event A(x, x); event A(x)
abbrev pub three_events : Proc
three_events = shows (x ∷ []) (shows (x ∷ x ∷ []) (shows (x ∷ []) nil))

-- event A(x); event !A(x); event B(x)
abbrev pub alike : Proc
alike = shows (x ∷ []) (shows_lasting (shows_other nil))

-- event A(x) | event A(x, x)
abbrev pub side_by_side : Proc
side_by_side = parallel (shows (x ∷ []) nil) (shows (x ∷ x ∷ []) nil)

-- [ F(x) ] --[ ]-> [ !F(x) ]
abbrev pub both_forms : Proc
both_forms = rule (stored (x ∷ []) ∷ []) [] (lasting ∷ []) nil

-- [ G(<x, x>), F(x) ] --[ F(x, x) ]-> [ F(x, x) ]
abbrev pub shown_between : Proc
shown_between =
    rule (linear (codes "G") (app2 pair_name x x ∷ []) ∷ stored (x ∷ []) ∷ []) (stored (x ∷ x ∷ []) ∷ []) (stored (x ∷ x ∷ []) ∷ []) nil

-- [ F(x) ] --[ ]-> [ F(x) ]; [ F(x, x) ] --[ ]-> [ ]; [ F(x) ] --[ ]-> [ ]
abbrev pub three_rules : Proc
three_rules =
    rule (stored (x ∷ []) ∷ []) [] (stored (x ∷ []) ∷ [])
    (rule (stored (x ∷ x ∷ []) ∷ []) [] [] (rule (stored (x ∷ []) ∷ []) [] [] nil))
