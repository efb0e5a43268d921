-- The two inclusions, where "admitted" says that the seven formulas are true.
use Rattle.sap_translate.proofs.Premises.LowerLaws.{Laws}
use Rattle.std.proofs.Common.{[], ◌<◌, ◌^◌, sym, subst}
use Rattle.sap_rule.specs.RuleSteps.{IsFullTrace}
use Rattle.sap_terms.specs.Message.{IsMessageTrace}
use Rattle.sap_terms.specs.Signature.{Sig, HoldsBuiltins}
use Rattle.sap_terms.specs.Trace.{Trace}
use Rattle.sap_process.specs.Proc.{Proc, node_count}
use Rattle.sap_process.specs.Ready.{IsReady}
use Rattle.sap_process.specs.Sorted.{with_sorts}
use Rattle.sap_locks.specs.Annotation.{IsAnnotation}
use Rattle.sap_translate.specs.Faithful.{ShowsAll, ShowsOnly}
use Rattle.sap_translate.specs.Sound.{IsSound}
use Rattle.sap_templates.specs.Templates.{rules_of}
use Rattle.sap_translate.specs.relation.Spelled.{IsProcessOver}
use Rattle.sap_translate.proofs.RulesToProcess.Back.{shows_only}
use Rattle.sap_translate.proofs.ProcessToRules.Forward.{shows_all}
use Rattle.sap_translate.proofs.Premises.Messages.{tidy_run}
use Rattle.sap_translate.proofs.Premises.Annotations.{annotation_is, annotation_sound}
use Rattle.sap_translate.proofs.Premises.Spelled.{rules_over, well_formed_over}
use Rattle.sap_translate.proofs.Restricted.Truth.{tidy_messages, truth_to, truth_from}

-- an annotation of a process that has its sorts
sorted_annotation : {p q : Proc} {g : Sig} → IsReady g p → IsAnnotation p q → IsAnnotation (with_sorts [] p) q
sorted_annotation {p} {q} ready h = subst (λ r. IsAnnotation r q) (sym ready.sorted) h

pub ready_sound : (g : Sig) (p q : Proc) → IsReady g p → node_count p < 2 ^ 64 → IsAnnotation p q → IsSound g q
ready_sound g p q ready small h = annotation_sound g p q ready.well_formed small (sorted_annotation ready h)

pub ready_over : (g : Sig) (p q : Proc) → IsReady g p → IsAnnotation p q → IsProcessOver g q
ready_over g p q ready h = well_formed_over g p q ready.well_formed (annotation_is (with_sorts [] p) q (sorted_annotation ready h))

-- what the rules show are messages
pub full_messages : (laws : Laws) → (g : Sig) (p : Proc) (full : Trace) → HoldsBuiltins g → IsProcessOver g p → IsFullTrace g (rules_of p) full → IsMessageTrace g full
full_messages laws g p full hold over run = tidy_messages g full ((tidy_run laws) hold (rules_over g p over) run.1)

pub all_seen : (laws : Laws) → (g : Sig) (p q : Proc) → HoldsBuiltins g → IsReady g p → node_count p < 2 ^ 64 → IsAnnotation p q → ShowsAll g q (rules_of q)
all_seen laws g p q hold ready small h tr t =
    let w = (shows_all laws) g q hold (ready_sound g p q ready small h) tr t in
    let tidy = (tidy_run laws) hold (rules_over g q (ready_over g p q ready h)) w.2 in
    (w.1, (w.0, w.2), truth_from laws.admitted g w.1 tidy w.3, w.4)

pub only_seen : (laws : Laws) → (g : Sig) (p q : Proc) → HoldsBuiltins g → IsReady g p → node_count p < 2 ^ 64 → IsAnnotation p q → ShowsOnly g q (rules_of q)
only_seen laws g p q hold ready small h tr w =
    let tidy = (tidy_run laws) hold (rules_over g q (ready_over g p q ready h)) w.1.1 in
    (shows_only laws) g q hold (ready_sound g p q ready small h) tr (w.1.0, w.0, w.1.1, truth_to laws.admitted g w.0 tidy w.2, w.3)
