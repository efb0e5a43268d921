use Rattle.std.proofs.Common.{refl}
use Rattle.std.specs.Prelude.{codes}
use Rattle.sap_terms.specs.Equal.{same}
use Rattle.sap_terms.specs.Equations.{equations}
use Rattle.sap_process.specs.ProcessSteps.{inputs, shows, starts, further}
use Rattle.sap_process.specs.StepExamples.{a, alone, showing}
use Rattle.sap_process.specs.Proc.{nil}
use Rattle.sap_process.proofs.StepLemmas.{own_form, names, names_messages, gives_public}
use Rattle.sap_process.proofs.laws.traces_by_hand.Goals as goal

pub returns : goal.returns
returns c = λ g. (
  alone nil,
  further {c = alone (showing a)}
      (further starts (inputs 0 names refl (gives_public g _ (codes "a")) (record { messages = names_messages g; equal = same })))
      (shows 0 refl (record { name = refl; persistent = refl; args = (own_form (equations g) (codes "a"), tt) })),
)
