-- Binders and the names that are in scope.
use Rattle.std.proofs.Common.{◌≡◌, ℕ, Bool, true, false, ◌||◌, List, [], ◌∷◌, Option, Some, None, is_some, if◌then◌else◌, refl, Bor}
use Rattle.std.specs.Option.{option_copied}
use Rattle.std.specs.Str.{bytes_eq}
use Rattle.sap_terms.specs.Variables.{is_known}
use Rattle.sap_terms.specs.declared.var.Var.{Var}
use Rattle.sap_process.specs.Flaws.{binder_of}
use Rattle.sap_process.specs.Sites.{var_names}

-- a name has a binder where it is known
pub binder-known : (vs : List Var) (n : List ℕ) → is_some (binder_of vs n) ≡ is_known (var_names vs) n
binder-known [] n = refl
binder-known (v ∷ vs) n = by (bytes_eq v.name n) (binder-known vs n) where
  by : (b : Bool) → is_some (binder_of vs n) ≡ is_known (var_names vs) n → is_some (if b then Some v else binder_of vs n) ≡ (b || is_known (var_names vs) n)
  by true later = refl
  by false later = later

-- what is lent is there where its copy is
pub copied-is : {T : Type 0} (o : Option (Bor T)) → is_some o ≡ is_some (option_copied o)
copied-is None = refl
copied-is (Some x) = refl
