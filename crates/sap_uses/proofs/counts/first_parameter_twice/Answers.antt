use Rattle.std.proofs.Common.{sym, ◌∙◌}
use Rattle.sap_macro.specs.Sources.{definition_of, definitions}
use Rattle.sap_uses.proofs.Counted.{params_found, params_pass}
use Rattle.sap_uses.proofs.Entries.{there}
use Rattle.sap_uses.proofs.counts.first_parameter_twice.Goals as goal

pub returns-in-Some : goal.returns-in-Some
returns-in-Some c =
    sym
    (c.loop-k.invariant
    ∙ params_found (definitions c.args.defs.now) c.loop-k.k (definition_of c.at.result.now) c.in-Some.name
    (there c.args.defs.now c.loop-k.k c.at.result.now c.at.ensures) (sym c.in_ok-name.ensures ∙ c.in-Some.is))

pub loop-k-preserved : goal.loop-k-preserved
loop-k-preserved c =
    c.loop-k.invariant
    ∙ params_pass (definitions c.args.defs.now) c.loop-k.k (definition_of c.at.result.now)
    (there c.args.defs.now c.loop-k.k c.at.result.now c.at.ensures) (sym c.in_ok-name.ensures ∙ c.in_default.is)
