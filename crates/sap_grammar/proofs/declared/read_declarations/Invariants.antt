use Rattle.std.proofs.Common.{◌≡◌, length}
use Rattle.sap_terms.specs.Signature.{pairs_alone}
use Rattle.sap_grammar.specs.Cut.{placed}
use Rattle.sap_grammar.specs.Signatures.{signature_from, clash_from}
use Rattle.sap_grammar.specs.ItemReading.{cut, declared_in_all, kept}
use Rattle.sap_grammar.proofs.declared.read_declarations.Given as goal

abbrev pub invariant-loop-rest : goal.invariant-loop-rest
invariant-loop-rest l = record {
  signature : signature_from pairs_alone (declared_in_all (cut (placed l.fn.bytes l.fn.tokens))) ≡ signature_from l.declared.signature (declared_in_all (cut (placed l.fn.bytes l.rest)));
  clash : clash_from pairs_alone (declared_in_all (cut (placed l.fn.bytes l.fn.tokens))) ≡ kept l.declared.clash (clash_from l.declared.signature (declared_in_all (cut (placed l.fn.bytes l.rest))));
}

abbrev pub decreases-loop-rest : goal.decreases-loop-rest
decreases-loop-rest l = length l.rest
