use Rattle.std.proofs.Common.{ap, ◌∙◌}
use Rattle.sap_macro.specs.Expansion.{Expanded}
use Rattle.sap_macro.specs.Sources.{definitions, written}
use Rattle.sap_macro.proofs.Built.{built_first}
use Rattle.sap_macro.proofs.building.build_with.Goals as goal

pub returns : goal.returns
returns c =
    let ds = definitions c.args.defs.now in
    c.in_ok-made.ensures.made
    ∙ ap (λ (e : Expanded). e.process)
    (built_first ds c.nothing_put-first.result (written c.args.main.now) c.args.chosen.now c.nothing_put-first.ensures.terms c.nothing_put-first.ensures.names)
