-- A formula made ready without what is true or false whatever the slots hold.
use Rattle.std.specs.Prelude.{Bool, true, false, not, List, [], ◌∷◌, Option, Some, None, if◌then◌else◌}
use Rattle.std.specs.List.{list_any}
use Rattle.sap_formula.specs.Form.{Form}
use Rattle.sap_search.specs.Plan.{Guard, Plan, alike, always, and_then, at_once, before, equals, if_then, inverse, or_else, search, shows}
use Rattle.sap_match.specs.Atoms.{Sight}
use Rattle.sap_search.specs.Planned.{planned}
use Rattle.sap_judge.specs.code.Ready.{ready}
use Rattle.sap_judge.specs.declared.extent.Extent.TheVariants.{Whole}
use Rattle.sap_terms.specs.Signature.{same_bool}
use Rattle.sap_terms.specs.Trace.{Trace}

-- the truth value that it has for sure
abbrev pub constant : Plan → Option Bool
constant (always b) = Some b
constant _ = None

-- not, and, or, an implication and an equivalence where these are the truth values of the parts
abbrev pub not_by : Option Bool → Plan → Plan
not_by (Some b) p = always (not b)
not_by None p = inverse p

abbrev pub not_of : Plan → Plan
not_of p = not_by (constant p) p

abbrev pub and_by : Option Bool → Option Bool → Plan → Plan → Plan
and_by (Some true) o p q = q
and_by (Some false) o p q = p
and_by None (Some true) p q = p
and_by None (Some false) p q = q
and_by None None p q = and_then p q

abbrev pub or_by : Option Bool → Option Bool → Plan → Plan → Plan
or_by (Some true) o p q = p
or_by (Some false) o p q = q
or_by None (Some true) p q = q
or_by None (Some false) p q = p
or_by None None p q = or_else p q

abbrev pub imp_by : Option Bool → Option Bool → Plan → Plan → Plan
imp_by (Some true) o p q = q
imp_by (Some false) o p q = always true
imp_by None (Some true) p q = q
imp_by None (Some false) p q = not_of p
imp_by None None p q = if_then p q

abbrev pub iff_by : Option Bool → Option Bool → Plan → Plan → Plan
iff_by (Some true) o p q = q
iff_by (Some false) o p q = not_of q
iff_by None (Some true) p q = p
iff_by None (Some false) p q = not_of p
iff_by None None p q = alike p q

-- there is no fact
abbrev pub is_bare : List Sight → Bool
is_bare [] = true
is_bare (s ∷ ss) = false

-- some guard has no fact
abbrev pub are_idle : List Guard → Bool
are_idle gs = list_any (λ g. is_bare g.facts) gs

-- a search that leads to the other answer nowhere is that answer
abbrev pub search_by : Option Bool → Bool → List Guard → Plan → Plan
search_by None d gs p = search d gs p
search_by (Some b) d gs p = if same_bool b d then always d else search d gs p

abbrev pub search_of : Bool → List Guard → Plan → Plan
search_of d gs p = if are_idle gs then always d else search_by (constant p) d gs p

-- without what is true or false for sure
abbrev pub folded : Plan → Plan
folded (always b) = always b
folded (shows n a) = shows n a
folded (equals s t l r) = equals s t l r
folded (at_once i j) = at_once i j
folded (before i j) = before i j
folded (inverse p) = not_of (folded p)
folded (and_then p q) = and_by (constant (folded p)) (constant (folded q)) (folded p) (folded q)
folded (or_else p q) = or_by (constant (folded p)) (constant (folded q)) (folded p) (folded q)
folded (if_then p q) = imp_by (constant (folded p)) (constant (folded q)) (folded p) (folded q)
folded (alike p q) = iff_by (constant (folded p)) (constant (folded q)) (folded p) (folded q)
folded (search d gs p) = search_of d gs (folded p)

-- the judge
abbrev pub judged : Form → Trace → Bool
judged f tr = planned tr (folded (ready tr Whole [] f)) []
