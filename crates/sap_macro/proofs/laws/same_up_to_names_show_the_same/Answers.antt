use Rattle.sap_terms.specs.Signature.{Sig}
use Rattle.sap_terms.specs.Trace.{Trace}
use Rattle.sap_process.specs.Configuration.{Config, initial}
use Rattle.sap_process.specs.Proc.{Proc}
use Rattle.sap_process.specs.ProcessSteps.{ProcessRun, IsProcessTrace}
use Rattle.sap_macro.specs.AlikeConfigurations.{AreAlikeConfigs}
use Rattle.sap_macro.proofs.laws.same_up_to_names_show_the_same.Goals as goal

-- a trace from the start of one process is one of the other
there : (g : Sig) (p q : Proc) (tr : Trace)
    → ((c d e : Config) (us : Trace) → AreAlikeConfigs c d → ProcessRun g c e us → (f : Config) × AreAlikeConfigs e f × ProcessRun g d f us)
    → AreAlikeConfigs (initial p) (initial q) → IsProcessTrace g p tr → IsProcessTrace g q tr
there g p q tr runs alike is = let r = runs (initial p) (initial q) is.0 tr alike is.1 in (r.0, r.2)

pub returns : goal.returns
returns c = λ g p q tr h.
    let law = c.alike_configurations_show_the_same.ensures in
    let alike = law.starts p q h in (
      there g p q tr (law.runs g) alike,
      there g q p tr (law.runs g) (law.other_side (initial p) (initial q) alike),
    )
