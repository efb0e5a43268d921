use Rattle.std.proofs.Common.{arith}
use Rattle.sap_macro.specs.Sources.{definition_of, definitions, written}
use Rattle.sap_uses.proofs.Heads.{met_end, met_unknown, met_use}
use Rattle.sap_uses.proofs.Resolving.{resolved}
use Rattle.sap_uses.proofs.met.met_name.Goals as goal

pub returns-in-None : goal.returns-in-None
returns-in-None c = met_unknown (definitions c.args.defs.now) c.args.name.now c.args.args.now c.in-None.ensures

pub returns-in-Some : goal.returns-in-Some
returns-in-Some c =
    let ds = definitions c.args.defs.now in
    let d = definition_of c.in-Some.d.now in
    met_end ds d c.args.name.now c.args.args.now (written c.in-Some.end.now) c.requires.order c.in-Some.ensures.0 c.in-Some.ensures.1 (omega arith)

pub returns-in-Some-2 : goal.returns-in-Some-2
returns-in-Some-2 c =
    let ds = definitions c.args.defs.now in
    let d = definition_of c.in-Some.d.now in
    met_use ds d c.args.name.now c.args.args.now (resolved ds c.args.name.now d c.requires.order c.in-Some.ensures.0) c.in-Some.ensures.0.name_is (λ h. absurd (omega (arith, h)))
