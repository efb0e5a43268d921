-- Choices that agree on variables, and what they make of terms, facts and processes.
use Rattle.std.proofs.Common.{◌≡◌, ℕ, Bool, true, false, List, [], ◌∷◌, Option, Some, None, if◌then◌else◌, refl, ap, subst}
use Rattle.std.specs.Prelude.{Contains}
use Rattle.std.specs.Option.{option_map_or}
use Rattle.std.specs.Str.{bytes_eq}
use Rattle.sap_terms.specs.Choice.{Choice}
use Rattle.sap_terms.specs.Tree.{variable}
use Rattle.sap_terms.specs.declared.var.Var.{Var}
use Rattle.sap_process.specs.Flaws.{binder_of}
use Rattle.sap_process.specs.Instance.{process_instance}
use Rattle.sap_process.specs.Proc.{Proc}
use Rattle.sap_process.specs.ProcessSteps.{chosen, with_choice}
use Rattle.sap_terms.proofs.PlainLaws.Choices.{Agree}
use Rattle.sap_terms.proofs.PlainLaws.Items.{first_item, later_item}

-- the binder of a name is among the variables
pub binder_among : (vs : List Var) (n : List ℕ) (w : Var) → binder_of vs n ≡ Some w → Contains vs w
binder_among [] n w e = cc
binder_among (v ∷ vs) n w e = at (bytes_eq v.name n) e (λ h. binder_among vs n w h) where
  at : (b : Bool) → (if b then Some v else binder_of vs n) ≡ Some w → (binder_of vs n ≡ Some w → Contains vs w) → Contains (v ∷ vs) w
  at true e rest = let is : v ≡ w = cc in subst (Contains (v ∷ vs)) is (first_item v vs)
  at false e rest = later_item v vs w (rest e)

chosen_agree : (σ τ : Choice) (vs : List Var) → Agree σ τ vs → (v : Var) → chosen σ vs v ≡ chosen τ vs v
chosen_agree σ τ vs h v = at (binder_of vs v.name) refl where
  at : (o : Option Var) → binder_of vs v.name ≡ o → option_map_or σ o (variable v) ≡ option_map_or τ o (variable v)
  at None e = refl
  at (Some w) e = h w (binder_among vs v.name w e)

-- where they agree on the variables that are replaced, what they make of a process is one
pub choice_agree : (σ τ : Choice) (vs : List Var) (p : Proc) → Agree σ τ vs → with_choice σ vs p ≡ with_choice τ vs p
choice_agree σ τ vs p h = ap (λ (s : Choice). process_instance s p) (λ i v. chosen_agree σ τ vs h v i)
