-- All seven restrictions are true where those that are needed are.
use Rattle.sap_translate.proofs.Premises.LowerLaws.{Laws}
use Rattle.std.specs.Prelude.{◌↔◌}
use Rattle.sap_terms.specs.Signature.{Sig}
use Rattle.sap_terms.specs.Trace.{Trace}
use Rattle.sap_process.specs.Proc.{Proc}
use Rattle.sap_process.specs.Ready.{IsReady}
use Rattle.sap_locks.specs.Annotation.{IsAnnotation}
use Rattle.sap_restrict.specs.Restrictions.{needed_restrictions}
use Rattle.sap_restrict.specs.Standard.{IsAdmitted}
use Rattle.sap_rule.specs.RuleSteps.{IsFullTrace}
use Rattle.sap_translate.specs.Faithful.{AreRestrictionsTrue}
use Rattle.sap_templates.specs.Templates.{rules_of}
use Rattle.sap_translate.specs.relation.Spelled.{IsProcessOver}
use Rattle.sap_translate.proofs.Restricted.Needed.{needed_to, needed_from}
use Rattle.sap_translate.proofs.Restricted.Seen.{ready_over}

pub needed_over : (laws : Laws) → (g : Sig) (p : Proc) (full : Trace) → IsProcessOver g p → IsFullTrace g (rules_of p) full → AreRestrictionsTrue g (needed_restrictions p) full ↔ IsAdmitted g full
needed_over laws g p full over run = ((needed_to laws) g p run.0 full over run.1, (needed_from laws) g p run.0 full over run.1)

pub needed_as_all : (laws : Laws) → (g : Sig) (p q : Proc) (full : Trace) → IsReady g p → IsAnnotation p q → IsFullTrace g (rules_of q) full → AreRestrictionsTrue g (needed_restrictions q) full ↔ IsAdmitted g full
needed_as_all laws g p q full ready h run = needed_over laws g q full (ready_over g p q ready h) run
