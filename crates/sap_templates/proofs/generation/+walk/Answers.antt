use Rattle.std.proofs.Common.{◌++◌, ap, ◌∙◌}
use Rattle.sap_process.specs.Proc.{proc}
use Rattle.sap_outlines.specs.Templates.{own_rules, place_rules}
use Rattle.sap_templates.specs.code.Inside.{rules_below}
use Rattle.sap_templates.proofs.Cuts.{after, cut_at_root}
use Rattle.sap_templates.proofs.generation.+walk.Goals as goal

pub add_from-returns : goal.add_from-returns
add_from-returns t c =
    let path = c.args.path.now in
    let v = c.args.scope.now in
    let inner = c.args.inner.now in
    let p = proc c.args.p.now in
    let below = rules_below path v inner p in
    c.in_ok-add_below.ensures ∙ ap (λ rs. rs ++ below) c.in_ok-add_own.ensures
    ∙ after c.args.rules.now (own_rules path v p) below (place_rules path v p) (cut_at_root path v inner p c.requires)
