-- Small rules and states, to try the steps of rules and the names of rules by hand.
use Rattle.std.specs.Prelude.{ℕ, true, codes, List, [], ◌∷◌}
use Rattle.sap_terms.specs.AdversaryFacts.{linear}
use Rattle.sap_terms.specs.Equations.{app1, app2, fst_name, pair_name}
use Rattle.sap_terms.specs.Piles.{Pile}
use Rattle.sap_terms.specs.Tree.{Tree, variable, public}
use Rattle.sap_terms.specs.declared.fact.Fact.{Fact}
use Rattle.sap_terms.specs.declared.var.Sort.{Sort}
use Rattle.sap_terms.specs.declared.var.Sort.TheVariants.{Msg, Fresh}
use Rattle.sap_terms.specs.declared.var.Var.{Var}
use Rattle.sap_rule.specs.RuleSteps.{RuleState}
use Rattle.sap_rule.specs.declared.rule.Rule.{Rule}

-- 'a' and 'b'
abbrev pub a : Tree
a = public (codes "a")

abbrev pub b : Tree
b = public (codes "b")

-- x with this sort, and the term
abbrev pub x_of : Sort → Var
x_of s = record { name = codes "x"; sort = s }

abbrev pub var_of : Sort → Tree
var_of s = variable (x_of s)

abbrev pub pair : Tree → Tree → Tree
pair t u = app2 pair_name t u

abbrev pub first_of : Tree → Tree
first_of t = app1 fst_name t

-- A(t), L(t), !L(t) and M(t)
abbrev pub shown_fact : Tree → Fact
shown_fact t = linear (codes "A") (t ∷ [])

abbrev pub left_fact : Tree → Fact
left_fact t = linear (codes "L") (t ∷ [])

abbrev pub lasting_fact : Tree → Fact
lasting_fact t = record { name = codes "L"; persistent = true; args = t ∷ [] }

abbrev pub right_fact : Tree → Fact
right_fact t = linear (codes "M") (t ∷ [])

-- these facts stand, these terms are known, of these names Fr was made
abbrev pub state : Pile → List Tree → List ℕ → RuleState
state facts known made = record { facts = facts; known = known; made = made }

-- a rule of this name with these sides
abbrev pub rule : List ℕ → List Fact → List Fact → List Fact → Rule
rule name left acts right = record { name = name; left = left; acts = acts; right = right }

-- L(x) --[ A(fst(<x,'b'>)) ]-> M(fst(<x,'b'>)), where x has this sort
abbrev pub moving : Sort → Rule
moving s =
    rule (codes "Moving") (left_fact (var_of s) ∷ []) (shown_fact (first_of (pair (var_of s) b)) ∷ []) (right_fact (first_of (pair (var_of s) b)) ∷ [])

-- L(fst(<x,'b'>)) --[ A(x), A('b') ]-> M(x), L('b')
abbrev pub opening : Rule
opening =
    rule (codes "Opening") (left_fact (first_of (pair (var_of Msg) b)) ∷ []) (shown_fact (var_of Msg) ∷ shown_fact b ∷ []) (right_fact (var_of Msg) ∷ left_fact b ∷ [])

-- L('a'), L('a') --[ A('a') ]->
abbrev pub taking_twice : Rule
taking_twice = rule (codes "Twice") (left_fact a ∷ left_fact a ∷ []) (shown_fact a ∷ []) []

-- !L('a'), !L('a') --[ A('a') ]->
abbrev pub taking_lasting : Rule
taking_lasting = rule (codes "Lasting") (lasting_fact a ∷ lasting_fact a ∷ []) (shown_fact a ∷ []) []

-- Fr(~x) --[ A(~x) ]-> Out(~x)
abbrev pub telling : Rule
telling =
    rule (codes "Telling") (linear (codes "Fr") (var_of Fresh ∷ []) ∷ []) (shown_fact (var_of Fresh) ∷ []) (linear (codes "Out") (var_of Fresh ∷ []) ∷ [])

-- a rule of this name that adds M(t) alone
abbrev pub named : List ℕ → Tree → Rule
named name t = rule name [] [] (right_fact t ∷ [])
