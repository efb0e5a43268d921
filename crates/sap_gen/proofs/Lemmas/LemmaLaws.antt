-- What the laws of the crates below say, where the proofs on lemmas use it.
use Rattle.std.proofs.Common.{◌↔◌, [], ◌∷◌}
use Rattle.sap_terms.specs.Laws.{LeavesAreNormal}
use Rattle.sap_terms.specs.Message.{IsMessageTrace}
use Rattle.sap_terms.specs.Signature.{HoldsBuiltins, Sig}
use Rattle.sap_terms.specs.Trace.{Trace}
use Rattle.sap_formula.specs.Laws.{HideLaw}
use Rattle.sap_process.specs.Proc.{Proc}
use Rattle.sap_restrict.specs.Laws.{InlinedForAllLaw, InlinedForSomeLaw}
use Rattle.sap_restrict.specs.ReservedFacts.{init_fact}
use Rattle.sap_restrict.specs.Restrictions.{needed_restrictions}
use Rattle.sap_restrict.specs.Standard.{IsAdmitted}
use Rattle.sap_rule.specs.RuleSteps.{IsFullTrace}
use Rattle.sap_translate.specs.Faithful.{AreRestrictionsTrue, ShowsAll, ShowsOnly}
use Rattle.sap_translate.specs.OpenLocks.{UnlocksAreOpen}
use Rattle.sap_translate.specs.Sound.{IsSound, SoundParts}
use Rattle.sap_templates.specs.Templates.{rules_of}
use Rattle.sap_translate.specs.relation.Spelled.{IsProcessOver}

-- what sound processes show
pub record ShownLaws : Type 0 where
  pub parts : (g : Sig) (p : Proc) → SoundParts g [] p → UnlocksAreOpen [] p → IsSound g p
  pub all : (g : Sig) (p : Proc) → HoldsBuiltins g → IsSound g p → IsProcessOver g p → ShowsAll g p (rules_of p)
  pub only : (g : Sig) (p : Proc) → HoldsBuiltins g → IsSound g p → IsProcessOver g p → ShowsOnly g p (rules_of p)
  pub messages : (g : Sig) (p : Proc) (full : Trace) → HoldsBuiltins g → IsProcessOver g p → IsFullTrace g (rules_of p) full → IsMessageTrace g full
  pub needed : (g : Sig) (p : Proc) (full : Trace) → IsProcessOver g p → IsFullTrace g (rules_of p) full → AreRestrictionsTrue g (needed_restrictions p) full ↔ IsAdmitted g full
  pub starts : (g : Sig) (p : Proc) → IsFullTrace g (rules_of p) ((init_fact ∷ []) ∷ [])

-- the laws
pub record LemmaLaws : Type 0 where
  pub leaves : LeavesAreNormal
  pub shown : ShownLaws
  -- of what hiding keeps
  pub hide : HideLaw
  -- of formulas that carry restrictions
  pub for_all : InlinedForAllLaw
  pub for_some : InlinedForSomeLaw
