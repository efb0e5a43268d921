-- What the crates below say of terms and formulas.
use Rattle.sap_formula.specs.Laws.{CheckedArgsLaw, CheckedTermLaw, HiddenBinderLaw, MessageFactsLaw, OtherBinderLaw, OwnBinderLaw, SlimClosedLaw, SlimOnceLaw}
use Rattle.sap_rewrite.specs.Laws.{NormalTermsDecide}
use Rattle.sap_terms.specs.Laws.{LeavesAreNormal}

pub record FormulaLaws : Type 0 where
  pub decide : NormalTermsDecide
  pub leaves : LeavesAreNormal
  pub terms : CheckedTermLaw
  pub args : CheckedArgsLaw
  pub facts : MessageFactsLaw
  pub own : OwnBinderLaw
  pub other : OtherBinderLaw
  pub closed : SlimClosedLaw
  pub once : SlimOnceLaw
  pub binders : HiddenBinderLaw
