-- Roles by number are roles by name.
use Rattle.std.proofs.Common.{ℕ, Bool, true, false, List, Option, Some, None}
use Rattle.std.specs.Prelude.{if◌then◌else◌}
use Rattle.sap_macro.specs.Written.{Definition}
use Rattle.std.specs.Option.{option_or}
use Rattle.sap_roles.specs.code.Going.{AreOne, number_here, number_below}

module _ (es : List Definition) where
  pub here_is_one : (a : Bool) (k o : Option ℕ) (l r : Option (List ℕ)) → AreOne es k l → AreOne es o r → AreOne es (number_here a k o) (option_or r (if a then l else None))
  here_is_one a k None l (Some g) inside role = absurd role
  here_is_one a k (Some o) l None inside role = absurd role
  here_is_one a k (Some o) l (Some g) inside role = role
  here_is_one true k None l None inside role = inside
  here_is_one false k None l None inside role = tt

  pub below_is_one : (b a : Bool) (k o : Option ℕ) (l r : Option (List ℕ)) → AreOne es k l → AreOne es o r
      → AreOne es (number_below b a k o) (if b then None else option_or r (if a then l else None))
  below_is_one true a k o l r inside role = tt
  below_is_one false a k o l r inside role = here_is_one a k o l r inside role
