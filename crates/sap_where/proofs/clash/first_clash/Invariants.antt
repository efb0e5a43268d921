use Rattle.std.proofs.Common.{◌≡◌, ◌≤◌, ◌-◌, None, length}
use Rattle.std.specs.Prelude.{codes}
use Rattle.sap_terms.specs.Signature.{pairs_alone}
use Rattle.sap_grammar.specs.Signatures.{clash_from, signature_from}
use Rattle.sap_where.specs.FileDeclarations.{declared_before, in_item, is_next}
use Rattle.sap_where.proofs.clash.first_clash.Given as goal

abbrev pub invariant-loop-k : goal.invariant-loop-k
invariant-loop-k l = record {
  builtins : l.before.builtins ≡ in_item l.bytes l.tokens (codes "builtins") l.k;
  functions : l.before.functions ≡ in_item l.bytes l.tokens (codes "functions") l.k;
  next : l.before.next ≡ is_next l.bytes l.tokens l.k;
  signature : l.signature ≡ signature_from pairs_alone (declared_before l.bytes l.tokens l.k);
  on : l.k ≤ length l.tokens;
  none : clash_from pairs_alone (declared_before l.bytes l.tokens l.k) ≡ None;
}

abbrev pub decreases-loop-k : goal.decreases-loop-k
decreases-loop-k l = length l.tokens - l.k
