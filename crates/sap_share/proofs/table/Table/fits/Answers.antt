use Rattle.sap_terms.specs.View.{tree}
use Rattle.sap_share.specs.Env.{bindings_of}
use Rattle.sap_share.specs.Shared.{tree_at}
use Rattle.sap_share.proofs.Fitting.{only_match, no_match}
use Rattle.sap_share.proofs.Grown.{if_ok}
use Rattle.sap_share.proofs.table.Table.fits.Goals as goal

pub returns-clause-yes : goal.returns-clause-yes
returns-clause-yes c =
    let ts = c.args.self.now.trees in
    if_ok c.fit.result (λ r h is. only_match (tree c.args.pattern.now) (tree_at ts c.args.id) (bindings_of ts c.args.env.now) (bindings_of ts c.fit.new.env) (h is)) c.fit.ensures.yes

pub returns-clause-not : goal.returns-clause-not
returns-clause-not c =
    let ts = c.args.self.now.trees in
    if_ok c.fit.result (λ r h is. no_match (tree c.args.pattern.now) (tree_at ts c.args.id) (bindings_of ts c.args.env.now) (h is)) c.fit.ensures.not
