use Rattle.std.proofs.Common.{List, [], refl, lit≤}
use Rattle.std.specs.Prelude.{ℕ, codes}
use Rattle.sap_run_texts.specs.RunTexts.{told_rules, told_neither, headed, all_steps, no_lines, IsHeaded, process_head, rule_head}
use Rattle.sap_run_texts.specs.declared.run.Run.TheVariants as run
use Rattle.sap_outside.specs.RunPieces.{is_run, bad_head}
use Rattle.sap_replay.specs.RunRefusals.{no_run}
use Rattle.sap_tool.proofs.json_laws.json_by_hand.Goals as goal

pub returns-clause-empty : goal.returns-clause-empty
returns-clause-empty c = record {
  lines = run.Rules [];
  read = is_run (lit≤ tt) (told_rules refl (headed refl (all_steps no_lines (lit≤ tt))));
  layout = refl;
}

no_process : (body : List ℕ) → IsHeaded process_head body (codes "x") → ⊥
no_process body e = cc (e)

no_rules : (body : List ℕ) → IsHeaded rule_head body (codes "x") → ⊥
no_rules body e = cc (e)

pub returns-clause-headless : goal.returns-clause-headless
returns-clause-headless c = λ run. no_run (bad_head (lit≤ tt) (told_neither no_process no_rules))
