use Rattle.std.proofs.Common.{Some, None, ap, sym, ◌∙◌}
use Rattle.std.proofs.lemmas.Result.{IfOk-weaker}
use Rattle.sap_process.specs.Proc.{proc}
use Rattle.sap_nodes.specs.code.Sites.{ComesDown}
use Rattle.sap_nodes.proofs.ComingDown.{site_is, site_nowhere}
use Rattle.sap_nodes.specs.declared.trail.Trail.{Trail}
use Rattle.sap_nodes.proofs.site.node_at.Goals as goal

pub returns-in-None : goal.returns-in-None
returns-in-None c = λ k s there is.
    let down : ComesDown c.args.outer.now (proc c.args.whole.now) c.args.path.now c.down.new.trail.known None =
    rw (c.in-None.is, c.as_slice.ensures.is, ap (λ (t : Trail). t.known) c.in_ok-trail.ensures) at c.in_ok-down.ensures in
    absurd (site_nowhere c.places_are_by_path.ensures.at_path c.args.outer.now c.down.new.trail.known (proc c.args.whole.now) c.args.path.now down k s there is)

pub returns : goal.returns
returns c =
    let down : ComesDown c.args.outer.now (proc c.args.whole.now) c.args.path.now c.down.new.trail.known (Some (proc c.in-Some.p.now)) =
    rw (c.in-Some.is, c.as_slice.ensures.is, ap (λ (t : Trail). t.known) c.in_ok-trail.ensures) at c.in_ok-down.ensures in
    let site = site_is c.places_are_by_path.ensures.at_path c.args.outer.now c.down.new.trail.known (proc c.args.whole.now) (proc c.in-Some.p.now) c.args.path.now down in
    IfOk-weaker c.flaw_node.result _ _ (λ o h k s there is.
    h k s there is (site k s there is).1 ((site k s there is).0 ∙ sym (c.in_ok-scope-in-Some.ensures ∙ c.as_slice-in-Some.ensures))) c.flaw_node.ensures
