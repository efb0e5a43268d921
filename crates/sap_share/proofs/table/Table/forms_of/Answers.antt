use Rattle.std.proofs.lemmas.Option.{slice_get-get_or}
use Rattle.sap_terms.specs.Equations.{equations}
use Rattle.sap_share.proofs.Reduced.{forms_more}
use Rattle.sap_share.proofs.table.Table.forms_of.Goals as goal

pub loop-k-preserved : goal.loop-k-preserved
loop-k-preserved c =
    let ks = c.as_slice-k-items.result.now in
    let l = c.loop-k in
    forms_more (equations c.args.self.now.sig) c.args.self.now.trees ks l.forms c.push.new.self l.k-index _ c.normal_of.result (slice_get-get_or ks l.k-index 0 c.loop-k-test.true)
    l.invariant.0 l.invariant.1 c.in_ok-push.ensures.ok c.normal_of.ensures.below c.normal_of.ensures.form
