use Rattle.sap_templates.proofs.generation.add_own.Goals as goal

pub returns : goal.returns
returns c =
    rw (c.in_ok-terms.ensures, c.requires, c.outlines.ensures c.args.path.now c.args.scope.now) at c.push_rules.ensures
