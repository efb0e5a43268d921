-- Both sides rest once the rules have started.
use Rattle.sap_translate.proofs.Premises.LowerLaws.{Laws}
use Rattle.sap_translate.specs.Members.{Member}
use Rattle.sap_translate.proofs.Parts.Kept.{kept_init, related_start}
use Rattle.sap_translate.proofs.Related.Common.{use_of, run_on, one_move}
use Rattle.sap_translate.proofs.Terms.Choices.{choice_good, good_none}
use Rattle.sap_translate.specs.OpenLocks.{UnlocksAreOpen}
use Rattle.sap_templates.specs.Templates.{init_rule}
use Rattle.sap_translate.specs.relation.Answered.{Starts}
use Rattle.sap_translate.specs.relation.Envs.{no_env, filled}
use Rattle.sap_translate.specs.relation.Agents.{unborn}
use Rattle.sap_place.specs.StateFacts.{state_fact}
use Rattle.sap_process.specs.Configuration.{initial}
use Rattle.sap_process.specs.Proc.{Proc}
use Rattle.sap_process.specs.ProcessSteps.{ProcessRun}
use Rattle.sap_restrict.specs.ReservedFacts.{init_fact}
use Rattle.sap_rule.specs.RuleSteps.{RuleRun, empty_state}
use Rattle.sap_terms.specs.Piles.{nothing}
use Rattle.sap_terms.specs.Signature.{Sig}
use Rattle.std.proofs.Common.{[], ◌∷◌, Some, None, refl}

pub starts : (laws : Laws) → (g : Sig) (start : Proc) → UnlocksAreOpen [] start → Starts g start
starts laws g start ok = record {
  reached = ProcessRun.starts;
  ran = run_on RuleRun.starts (one_move ((use_of laws) g start empty_state init_rule (filled no_env) [] (init_fact ∷ []) (state_fact [] [] ∷ []) Member.here ((choice_good laws) g no_env (good_none g)) refl refl refl nothing));
  related = (kept_init laws) g start (Some (unborn start) ∷ []) None (initial start) [] empty_state [] (related_start g start ok) 0 start refl;
  started = refl;
  calm = refl;
}
