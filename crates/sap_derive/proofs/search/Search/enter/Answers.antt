use Rattle.std.proofs.Common.{◌∙◌}
use Rattle.std.proofs.lemmas.Result.{on_ok_weaker, on_err_weaker}
use Rattle.sap_terms.specs.View.{tree}
use Rattle.sap_derive.proofs.Options.{at-err}
use Rattle.sap_derive.proofs.States.{seen-stays, seen-entered, seen-same}
use Rattle.sap_derive.proofs.search.Search.enter.Goals as goal

pub returns-in_err-n-clause-err : goal.returns-in_err-n-clause-err
returns-in_err-n-clause-err c =
    at-err c.from_residual.result (seen-stays c.self.inside.state c.put.new.self c.self.invariant c.put.ensures.stays ∙ c.self.view_is)

pub returns-clause-ok : goal.returns-clause-ok
returns-clause-ok c =
    let put = c.put.new.self in
    let seen_put = seen-stays c.self.inside.state put c.self.invariant c.put.ensures.stays ∙ c.self.view_is in
    on_ok_weaker c.enter.result (λ e. seen-entered put c.enter.new.self c.in_ok-n.n (tree c.args.t.now) c.args.self.now c.enter.ensures.table e c.in_ok-n.ensures.tree seen_put) c.enter.ensures.ok

pub returns-clause-err : goal.returns-clause-err
returns-clause-err c =
    let put = c.put.new.self in
    let seen_put = seen-stays c.self.inside.state put c.self.invariant c.put.ensures.stays ∙ c.self.view_is in
    on_err_weaker c.enter.result (λ e. seen-same put c.enter.new.self c.args.self.now c.enter.ensures.table e seen_put) c.enter.ensures.err
