-- The laws of the layers below on which it rests what a line does.
use Rattle.sap_lines.specs.Answers.{ProcessLinesHaveOneAnswer}
use Rattle.sap_rewrite.specs.Laws.{EachHasForm, FormIsOne, EqualityIsKept}
use Rattle.sap_rewrite.specs.Pattern.{MatchingIsModulo}
use Rattle.sap_terms.specs.Laws.{LeavesAreNormal, DestructorsHeadLeftSides}

-- all of them
pub record Laws : Type 0 where
  pub each : EachHasForm
  pub one : FormIsOne
  pub kept : EqualityIsKept
  pub leaves : LeavesAreNormal
  pub heads : DestructorsHeadLeftSides
  pub modulo : MatchingIsModulo
  pub answer : ProcessLinesHaveOneAnswer
