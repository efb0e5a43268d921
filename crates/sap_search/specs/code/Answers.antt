-- Answers of the search for the choices that show a claim, and how much is left to do.
use Rattle.std.specs.Prelude.{◌≡◌, ℕ, ◌+◌, ◌*◌, Bool, List, [], ◌∷◌, ◌++◌, Option, Some, None, length, if◌then◌else◌}
use Rattle.sap_match.specs.Matched.{guarded, is_there, onward}
use Rattle.sap_match.specs.Atoms.{Held, Sight}
use Rattle.sap_search.specs.Claims.{Chosen, Claim, choosing, each, first, tested}
use Rattle.sap_search.specs.Explained.{first_led}
use Rattle.sap_search.specs.Plan.{Guard}

-- the list, nothing where there is none
abbrev pub or_nothing : Option (List Chosen) → List Chosen
or_nothing None = []
or_nothing (Some cs) = cs

-- whether there are choices, and these put last
pub record Answers (b : Bool) (old new : List Chosen) (o : Option (List Chosen)) : Type 0 where
  pub is : b ≡ is_there o
  pub put : new ≡ old ++ or_nothing o

-- what is found where the first of the guards picks this fact
abbrev pub led_by : List Guard → Sight → List Held → (List Held → Option (List Chosen)) → Option (List Chosen)
led_by [] s held leaf = None
led_by (g ∷ gs) s held leaf = onward (guarded g.atom s.fact s.time held) (λ h. first_led gs h leaf)

-- whatever comes behind a guard with one fact: what is held where it fits, else nothing
abbrev pub IsOnlyLed : Guard → List Held → List Held → Bool → Type 0
IsOnlyLed g old new b = (gs : List Guard) (leaf : List Held → Option (List Chosen)) → first_led (g ∷ gs) old leaf ≡ (if b then first_led gs new leaf else None)

-- a search weighs its body and the way past its guards
abbrev pub claim_size : Claim → ℕ
claim_size (tested b p) = 1
claim_size (each c d) = claim_size c + claim_size d + 2
claim_size (first c d) = claim_size c + claim_size d + 2
claim_size (choosing gs ts c) = claim_size c + 4 * length gs + 8
