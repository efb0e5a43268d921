-- The choices that show a claim where slots hold what they hold: of each quantifier the first one that leads on.
use Rattle.std.specs.Prelude.{ℕ, Bool, slice_get, List, [], ◌∷◌, ◌++◌, Option, Some, None, if◌then◌else◌}
use Rattle.sap_formula.specs.declared.binder.Binder.{Binder}
use Rattle.sap_match.specs.Atoms.{Held}
use Rattle.sap_match.specs.Matched.{guarded, onward}
use Rattle.sap_search.specs.Claims.{Chosen, Claim, Slotted, choosing, each, first, tested}
use Rattle.sap_search.specs.Plan.{Guard}
use Rattle.sap_search.specs.Planned.{planned}
use Rattle.sap_terms.specs.Signature.{same_bool}
use Rattle.sap_terms.specs.Trace.{Trace}

-- the first of two that is there
abbrev pub or_next : {Y : Type 0} → Option Y → Option Y → Option Y
or_next (Some y) o = Some y
or_next None o = o

-- what f says of the first of which it says something
abbrev pub first_some : {X Y : Type 0} → (X → Option Y) → List X → Option Y
first_some f [] = None
first_some f (x ∷ xs) = or_next (f x) (first_some f xs)

-- what is found under the first choice of a fact for each guard, in turn, that fits and under which something is found
abbrev pub first_led : List Guard → List Held → (List Held → Option (List Chosen)) → Option (List Chosen)
first_led [] held leaf = leaf held
first_led (g ∷ gs) held leaf = first_some (λ s. onward (guarded g.atom s.fact s.time held) (λ h. first_led gs h leaf)) g.facts

-- what the slot holds
abbrev pub got : Option ℕ → List Held → Option Held
got None held = None
got (Some k) held = slice_get held k

-- the binder with its value
abbrev pub with_value : Binder → Option Held → List Chosen
with_value b None = []
with_value b (Some h) = record { binder = b; value = h } ∷ []

-- the binders with what their slots hold, the last one first
abbrev pub told : List Slotted → List Held → List Chosen
told [] held = []
told (t ∷ ts) held = told ts held ++ with_value t.binder (got t.slot held)

-- these, and what is found behind them
abbrev pub in_front : List Chosen → Option (List Chosen) → Option (List Chosen)
in_front cs o = onward o (λ ds. Some (cs ++ ds))

-- the choices that show the claim, none where nothing shows it
abbrev pub explained : Trace → Claim → List Held → Option (List Chosen)
explained tr (tested b p) held = if same_bool (planned tr p held) b then Some [] else None
explained tr (each c d) held = onward (explained tr c held) (λ cs. in_front cs (explained tr d held))
explained tr (first c d) held = or_next (explained tr c held) (explained tr d held)
explained tr (choosing gs ts c) held = first_led gs held (λ h. in_front (told ts h) (explained tr c h))
