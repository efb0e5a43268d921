use Rattle.std.proofs.Common.{◌≡◌, sym, subst}
use Rattle.std.specs.Prelude.{IfOk}
use Rattle.sap_terms.specs.Tree.{Tree}
use Rattle.sap_terms.specs.View.{tree}
use Rattle.sap_rewrite.specs.declared.within.Counted.{Counted}
use Rattle.sap_rewrite.proofs.Fits.{where_false}
use Rattle.sap_rewrite.proofs.within.reduce_counted.Goals as goal

pub returns-else-is_left_side-clause-form : goal.returns-else-is_left_side-clause-form
returns-else-is_left_side-clause-form c =
    let same = where_false c.is_left_side.result c.is_left_side.ensures c.if-is_left_side.false in
    subst (λ (u : Tree). IfOk c.symbol_counted.result (λ (r : Counted). tree r.term ≡ u)) (sym same) c.symbol_counted.ensures.form
