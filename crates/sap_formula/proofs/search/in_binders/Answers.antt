use Rattle.std.proofs.Common.{◌∙◌, ap, sym, map}
use Rattle.sap_formula.specs.Parts.{bound}
use Rattle.sap_formula.specs.View.{form}
use Rattle.sap_formula.specs.code.Tests.{first_name}
use Rattle.sap_formula.proofs.Guarding.{bound_else, first_unguarded}
use Rattle.sap_formula.proofs.search.in_binders.Goals as goal

pub returns-in_ok-names-in-Unguarded : goal.returns-in_ok-names-in-Unguarded
returns-in_ok-names-in-Unguarded c =
    let a = c.args.aim.now in
    let f = form c.args.f.now in
    c.first_outside.ensures ∙ first_unguarded a.sig.now a.reserved f c.in_ok-names-in-Unguarded.names c.args.bs.now c.in_ok-names-in-Unguarded.ensures ∙ ap (λ w. first_name a.sig.now a.reserved w (map (bound f) c.args.bs.now)) (sym c.in-Unguarded.is)

pub returns-in_default : goal.returns-in_default
returns-in_default c =
    bound_else c.args.aim.now.sig.now c.args.aim.now.reserved c.args.aim.now.which (form c.args.f.now) c.args.bs.now c.in_default.not-Unguarded
