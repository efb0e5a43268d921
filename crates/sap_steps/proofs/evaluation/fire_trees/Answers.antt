use Rattle.sap_steps.proofs.Fired.{fires, refused, right_held, if_ok, if_err}
use Rattle.sap_steps.proofs.evaluation.fire_trees.Goals as goal

pub returns-clause-fires : goal.returns-clause-fires
returns-clause-fires c =
    let g = c.args.sig.now in
    let r = c.args.rule.now.rule in
    let b = c.args.b.now in
    let hs = c.args.cited.now in
    if_ok _ _ c.evaluate.result (λ x e. fires c.laws_below.ensures g r b c.args.c.now hs c.requires.ready.well_made c.requires.right c.requires.found c.requires.held x.acts x.right e) c.evaluate.ensures.evaluates

pub returns-clause-held : goal.returns-clause-held
returns-clause-held c =
    let g = c.args.sig.now in
    let r = c.args.rule.now.rule in
    let b = c.args.b.now in
    let hs = c.args.cited.now in
    if_ok _ _ c.evaluate.result (λ x e. right_held c.laws_below.ensures g r b c.args.c.now hs c.requires.ready.well_made c.requires.right c.requires.found c.requires.held c.builtins_are_held.ensures x.acts x.right e) c.evaluate.ensures.evaluates

pub returns-clause-refused : goal.returns-clause-refused
returns-clause-refused c =
    let g = c.args.sig.now in
    let r = c.args.rule.now.rule in
    let b = c.args.b.now in
    let hs = c.args.cited.now in
    if_err _ _ c.evaluate.result (λ e h. refused c.laws_below.ensures g r b c.args.c.now hs c.requires.ready.well_made c.requires.right c.requires.found c.requires.held e h) c.evaluate.ensures.refused
