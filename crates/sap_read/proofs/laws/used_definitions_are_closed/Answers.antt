use Rattle.std.proofs.Common.{◌≡◌, ◌∙◌, Some, subst, sym}
use Rattle.sap_terms.specs.Signature.{pairs_alone}
use Rattle.sap_grammar.specs.Signatures.{clash_from}
use Rattle.sap_macro.specs.Expansion.{plain}
use Rattle.sap_macro.specs.Order.{UsesOnly}
use Rattle.sap_macro.specs.Written.{Written}
use Rattle.sap_read.specs.FileProcess.{definitions_of}
use Rattle.sap_read.specs.Item.{bodies, declarations, statements}
use Rattle.sap_read.proofs.InOrder.{all_in_order, main_defined}
use Rattle.sap_read.proofs.Unrefused.{no_cause}
use Rattle.sap_read.proofs.laws.used_definitions_are_closed.Goals as goal

same_main : (p q : Written) → Some p ≡ Some q → p ≡ q
same_main p q e = cc

pub returns : goal.returns
returns c = λ g names is p accepted whole.
    let free = no_cause (bodies is) (statements is) (clash_from pairs_alone (declarations is)) accepted in
    let ds = definitions_of (bodies is) in
    let found = c.accepted_definitions_are_closed.ensures g ds whole.main (all_in_order (bodies is) free.known free.distinct)
    (main_defined (bodies is) whole.main free.known whole.is_main) whole.no_cause in
    record {
      names = found.0;
      uses = λ q there. subst (λ w. UsesOnly found.0 (plain ds w)) (same_main whole.main q (sym whole.is_main ∙ there)) found.1;
      definitions = found.2;
    }
