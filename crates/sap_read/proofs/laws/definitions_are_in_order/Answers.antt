use Rattle.sap_terms.specs.Signature.{pairs_alone}
use Rattle.sap_grammar.specs.Signatures.{clash_from}
use Rattle.sap_read.specs.Item.{bodies, declarations, statements}
use Rattle.sap_read.proofs.InOrder.{all_in_order, main_defined}
use Rattle.sap_read.proofs.Unrefused.{no_cause}
use Rattle.sap_read.proofs.laws.definitions_are_in_order.Goals as goal

pub returns-clause-order : goal.returns-clause-order
returns-clause-order c = λ is accepted.
    let free = no_cause (bodies is) (statements is) (clash_from pairs_alone (declarations is)) accepted in
    all_in_order (bodies is) free.known free.distinct

pub returns-clause-uses : goal.returns-clause-uses
returns-clause-uses c = λ is p accepted main.
    let free = no_cause (bodies is) (statements is) (clash_from pairs_alone (declarations is)) accepted in
    main_defined (bodies is) p free.known main
