use Rattle.sap_terms.specs.Tree.{apply, trees_of}
use Rattle.sap_share.specs.Env.{bindings_of}
use Rattle.sap_share.specs.Shared.{trees_at}
use Rattle.sap_share.proofs.Fitting.{finds_symbol, fails_symbol, only_match, no_match}
use Rattle.sap_share.proofs.Grown.{if_ok}
use Rattle.sap_share.proofs.table.Table.fits_each.Goals as goal

pub returns-clause-yes : goal.returns-clause-yes
returns-clause-yes c =
    let ts = c.args.self.now.trees in
    let ps = trees_of c.args.patterns.now in
    let us = trees_of (trees_at ts c.args.ids.now) in
    if_ok c.fit_all.result (λ r h is f. only_match (apply f ps) (apply f us) (bindings_of ts c.args.env.now) (bindings_of ts c.fit_all.new.env) (finds_symbol f ps us (bindings_of ts c.args.env.now) (bindings_of ts c.fit_all.new.env) (h is))) c.fit_all.ensures.yes

pub returns-clause-not : goal.returns-clause-not
returns-clause-not c =
    let ts = c.args.self.now.trees in
    let ps = trees_of c.args.patterns.now in
    let us = trees_of (trees_at ts c.args.ids.now) in
    if_ok c.fit_all.result (λ r h is f. no_match (apply f ps) (apply f us) (bindings_of ts c.args.env.now) (fails_symbol f f ps us (bindings_of ts c.args.env.now) (h is))) c.fit_all.ensures.not
