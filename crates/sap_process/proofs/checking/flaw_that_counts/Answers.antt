use Rattle.std.proofs.Common.{List, sym, subst, ap, ◌∙◌}
use Rattle.std.proofs.lemmas.Result.{IfOk-weaker}
use Rattle.sap_terms.specs.declared.var.Var.{Var}
use Rattle.sap_process.specs.Proc.{proc}
use Rattle.sap_process.specs.Sites.{sites_in}
use Rattle.sap_process.specs.code.Walks.{first_flaw, IsCounted}
use Rattle.sap_process.proofs.Firsts.{counted}
use Rattle.sap_process.proofs.checking.flaw_that_counts.Goals as goal

pub returns : goal.returns
returns c =
    let g = c.args.sig.now in
    let p = proc c.args.p.now in
    let none = ap (λ (scope : List Var). first_flaw g c.args.flaws.now (sites_in scope p)) c.new-nothing.ensures in
    IfOk-weaker c.first_flaw.result _ (IsCounted g p) (λ o is. subst (IsCounted g p) (sym (is ∙ none)) (counted g p c.args.flaws.now c.requires.in_order)) c.first_flaw.ensures
