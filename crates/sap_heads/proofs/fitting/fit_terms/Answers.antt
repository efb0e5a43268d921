use Rattle.std.proofs.Common.{List, [], subst}
use Rattle.sap_terms.specs.Tree.{Tree, apply, trees_of}
use Rattle.sap_rewrite.specs.Match.{IsOnlyMatch}
use Rattle.sap_share.specs.Env.{bindings_of}
use Rattle.sap_share.specs.Shared.{trees_at}
use Rattle.sap_share.specs.declared.env.Bound.{Bound}
use Rattle.sap_heads.specs.code.Rules.{together}
use Rattle.sap_heads.proofs.fitting.fit_terms.Goals as goal

pub returns-then-fits : goal.returns-then-fits
returns-then-fits c =
    let ts = c.args.table.now.trees in
    let x = apply [] (trees_of (trees_at ts c.args.ks.now)) in
    let new = c.fits_each.new.env in
    let copied = subst (λ (ps : List Tree). IsOnlyMatch (apply [] (trees_of ps)) x (bindings_of ts c.in_ok-found.found) (bindings_of ts new)) c.in_ok-ps.ensures (c.in-Ok.ensures.yes c.if-fits.true []) in
    (subst (λ (env : List Bound). IsOnlyMatch (together c.args.l.now) x (bindings_of ts env) (bindings_of ts new)) c.in_ok-found.ensures copied, c.in-Ok.ensures.below)
