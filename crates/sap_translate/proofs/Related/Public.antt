-- The laws of the cases, for processes that are ready and annotated.
use Rattle.sap_translate.proofs.Premises.LowerLaws.{Laws}
use Rattle.sap_translate.proofs.Parts.Kept.{related_start}
use Rattle.sap_translate.proofs.Parts.Tidy.{tidy}
use Rattle.sap_translate.proofs.RulesToProcess.Back.{law}
use Rattle.sap_templates.specs.Templates.{rules_of}
use Rattle.sap_translate.specs.relation.Followed.{RuleCase, WhereTogether, Begins, FollowsEvery}
use Rattle.sap_translate.specs.relation.Follows.{Together}
use Rattle.sap_translate.specs.relation.Shown.{MeetsAll}
use Rattle.sap_process.specs.ProcessSteps.{ProcessRun}
use Rattle.sap_restrict.specs.Standard.{IsAdmitted}
use Rattle.sap_rule.specs.RuleSteps.{RuleStep, RuleRun, RuleState}
use Rattle.sap_terms.specs.Equations.{equations}
use Rattle.sap_terms.specs.Tree.{Tree}
use Rattle.sap_terms.specs.declared.fact.Fact.{Fact}
use Rattle.sap_translate.proofs.Premises.Messages.{tidy_run}
use Rattle.sap_translate.proofs.Premises.Spelled.{rules_over}
use Rattle.sap_translate.proofs.Related.Starts.{starts}
use Rattle.sap_translate.proofs.Restricted.Seen.{ready_sound, ready_over}
use Rattle.sap_translate.proofs.Restricted.Truth.{truth_from, truth_to}
use Rattle.sap_translate.proofs.Traces.Visible.{admitted_by_count}
use Rattle.sap_translate.specs.Sound.{SoundPlaces}
use Rattle.sap_translate.specs.relation.Answered.{Case, WhereAtRest, Starts, ShowsTheSame}
use Rattle.sap_translate.specs.relation.Answers.{AtRest}
use Rattle.sap_translate.specs.relation.Agents.{Agent}
use Rattle.sap_locks.specs.Annotation.{IsAnnotation}
use Rattle.sap_process.specs.Configuration.{Config}
use Rattle.sap_process.specs.Proc.{Proc, node_count}
use Rattle.sap_process.specs.Ready.{IsReady}
use Rattle.sap_terms.specs.Signature.{Sig, HoldsBuiltins}
use Rattle.sap_terms.specs.Trace.{Trace}
use Rattle.std.proofs.Common.{◌<◌, ◌^◌, ◌++◌, [], ◌∷◌, List, ◌∙◌, Option, arith, append-nil}

-- a law of sound processes is one of those that are ready and annotated
pub where_ready : (P : Case) → ((g : Sig) (start : Proc) → HoldsBuiltins g → SoundPlaces g start → (agents : List (Option Agent)) (c : Config) (tr : Trace) (s : RuleState) (full : Trace) → AtRest g start agents c tr s full → P g start agents c tr s full) → WhereAtRest P
where_ready P law g p q hold ready small annotated agents c tr s full h = law g q hold (ready_sound g p q ready small annotated).0 agents c tr s full h

pub starts_ready : (laws : Laws) → (g : Sig) (p q : Proc) → IsReady g p → node_count p < 2 ^ 64 → IsAnnotation p q → Starts g q
starts_ready laws g p q ready small annotated = starts laws g q (ready_sound g p q ready small annotated).1

pub shows_the_same : (laws : Laws) → WhereAtRest ShowsTheSame
shows_the_same laws g p q hold ready small annotated agents c tr s full h =
    let tidy = (tidy_run laws) hold (rules_over g q (ready_over g p q ready annotated)) h.ran in
    let once = h.related.init in
    (h.related.traces.shows ∙ append-nil tr, truth_from laws.admitted g full tidy (record { init = admitted_by_count full (omega arith); demands = h.related.traces.demands }))

-- a law of sound processes for rules is one of those that are ready and annotated
pub where_together : (laws : Laws) (P : RuleCase) → ((g : Sig) (start : Proc) → HoldsBuiltins g → SoundPlaces g start → (agents : List (Option Agent)) (pending : Option Tree) (c : Config) (tr : Trace) (s : RuleState) (full : Trace) → Together g start agents pending c tr s full
    → ((acts : List Fact) (z : RuleState) → RuleStep g (rules_of start) s acts z → IsAdmitted g (full ++ acts ∷ []) → MeetsAll (equations g) (full ++ acts ∷ [])) → P g start agents pending c tr s full) → WhereTogether P
where_together laws P law g p q hold ready small annotated agents pending c tr s full h =
    law g q hold (ready_sound g p q ready small annotated).0 agents pending c tr s full h (λ acts z step admitted. truth_to laws.admitted g (full ++ acts ∷ []) ((tidy_run laws) hold (rules_over g q (ready_over g p q ready annotated)) (RuleRun.further h.ran step)) admitted)

pub begins_ready : (g : Sig) (p q : Proc) → IsReady g p → node_count p < 2 ^ 64 → IsAnnotation p q → Begins g q
begins_ready g p q ready small annotated = record { reached = ProcessRun.starts; ran = RuleRun.starts; related = related_start g q (ready_sound g p q ready small annotated).1 }

pub follows_every : (laws : Laws) (g : Sig) (start : Proc) → HoldsBuiltins g → SoundPlaces g start → (agents : List (Option Agent)) (pending : Option Tree) (c : Config) (tr : Trace) (s : RuleState) (full : Trace) → Together g start agents pending c tr s full
    → ((acts : List Fact) (z : RuleState) → RuleStep g (rules_of start) s acts z → IsAdmitted g (full ++ acts ∷ []) → MeetsAll (equations g) (full ++ acts ∷ [])) → FollowsEvery g start agents pending c tr s full
follows_every laws g start hold fine agents pending c tr s full h meets acts z step admitted =
    let w = (law laws) hold fine (record { agents = agents; pending = pending; c = c; tr = tr; reached = h.reached; related = h.related }) ((tidy laws) h.ran) step (meets acts z step admitted) in
    record { agents = w.agents; pending = w.pending; config = w.c; trace = w.tr; together = record { reached = w.reached; ran = RuleRun.further h.ran step; related = w.related } }
