-- Formulas made ready, as plain values without the addresses of their parts.
use Rattle.std.specs.Prelude.{List, Option, Some, None, Vec, map}
use Rattle.std.specs.Global.{Global}
use Rattle.sap_match.specs.View.{atom, held, sight}
use Rattle.sap_search.specs.Claims.{Chosen, Claim, Slotted, choosing, each, first, tested}
use Rattle.sap_search.specs.Plan.{Guard, Plan, alike, always, and_then, at_once, before, equals, if_then, inverse, or_else, search, shows}
use Rattle.sap_search.specs.declared.claim.Chosen.{Chosen as ChosenValue}
use Rattle.sap_search.specs.declared.claim.Claim.{Claim as Claimed}
use Rattle.sap_search.specs.declared.claim.Claim.TheVariants.{Tested, Each', First', Choosing'}
use Rattle.sap_search.specs.declared.claim.Slotted.{Slotted as SlottedBinder}
use Rattle.sap_search.specs.declared.plan.GuardPlan.{GuardPlan}
use Rattle.sap_search.specs.declared.plan.Plan.{Plan as Planned}
use Rattle.sap_search.specs.declared.plan.Plan.TheVariants.{Always, Shows, Equals, AtOnce, Before, Not', And', Or', Imp', Iff', Search'}
use Rattle.sap_terms.specs.View.{tree}

-- a guard
abbrev pub guard : GuardPlan → Guard
guard g = record { atom = atom g.atom; facts = map sight g.facts.now }

-- a formula made ready
abbrev pub plan : Planned → Plan
plan (Always b) = always b
plan (Shows n a) = shows n.now (atom a)
plan (Equals s t l r) = equals (tree s.now) (tree t.now) l r
plan (AtOnce i j) = at_once i j
plan (Before i j) = before i j
plan (Not' a p) = inverse (plan p)
plan (And' a p b q) = and_then (plan p) (plan q)
plan (Or' a p b q) = or_else (plan p) (plan q)
plan (Imp' a p b q) = if_then (plan p) (plan q)
plan (Iff' a p b q) = alike (plan p) (plan q)
plan (Search' d gs a p) = search d (map guard gs) (plan p)

-- a binder and its slot
abbrev pub slotted : SlottedBinder → Slotted
slotted s = record { binder = s.binder.now; slot = s.slot }

-- what is chosen
abbrev pub chosen_value : ChosenValue → Chosen
chosen_value c = record { binder = c.binder.now; value = held c.value }

-- a claim
abbrev pub claim : Claimed → Claim
claim (Tested b p) = tested b (plan p.value)
claim (Each' a c b d) = each (claim c) (claim d)
claim (First' a c b d) = first (claim c) (claim d)
claim (Choosing' gs ts a c) = choosing (map guard gs) (map slotted ts) (claim c)

-- the choices, where there are some
abbrev pub reason_of : Option (Vec ChosenValue Global) → Option (List Chosen)
reason_of None = None
reason_of (Some cs) = Some (map chosen_value cs.items)
