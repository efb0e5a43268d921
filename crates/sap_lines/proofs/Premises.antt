-- The laws of lower crates that answers rest on.
use Rattle.sap_terms.specs.Laws.{LeavesAreNormal, DestructorsHeadLeftSides}
use Rattle.sap_rewrite.specs.Laws.{EachHasForm, FormIsOne, FormsDecide, EqualityIsKept}
use Rattle.sap_rewrite.specs.Pattern.{MatchingIsModulo}

pub record Laws : Type 0 where
  pub each : EachHasForm
  pub one_form : FormIsOne
  pub decide : FormsDecide
  pub kept : EqualityIsKept
  pub leaves : LeavesAreNormal
  pub heads : DestructorsHeadLeftSides
  pub modulo : MatchingIsModulo
