use Rattle.std.proofs.Common.{refl}
use Rattle.sap_macro.specs.Sources.{definitions}
use Rattle.sap_macro.proofs.Built.{built_unknown}
use Rattle.sap_macro.proofs.Resolving.{unknown}
use Rattle.sap_macro.proofs.building.reached.Goals as goal

pub returns-in_default-clause-unknown : goal.returns-in_default-clause-unknown
returns-in_default-clause-unknown c = (
  built_unknown (definitions c.args.defs.now) c.args.name.now c.args.args.now c.args.s.now c.args.chosen.now
      (unknown (definitions c.args.defs.now) c.args.name.now c.in_default.ensures),
  refl,
)
