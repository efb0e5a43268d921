use Rattle.std.proofs.Common.{Ok, subst}
use Rattle.sap_run_texts.specs.declared.run.Kinds.TheVariants as kinds
use Rattle.sap_run_texts.specs.declared.run.Run.{Run}
use Rattle.sap_outside.specs.RunPieces.{IsRunAnswer}
use Rattle.sap_replay.proofs.Stopped.{never_process}
use Rattle.sap_replay.proofs.checking.text_of_any.Goals as goal

pub unreachable-requires : goal.unreachable-requires
unreachable-requires c =
    let z = c.requires.of_rules.0 in
    never_process z _ (subst (λ (r : Run). IsRunAnswer kinds.Rules z (Ok r)) c.in-Process.is c.requires.of_rules.1)
