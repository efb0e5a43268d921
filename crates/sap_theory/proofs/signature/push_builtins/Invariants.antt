use Rattle.std.specs.Prelude.{codes}
use Rattle.sap_terms.specs.Signature.{has_builtin}
use Rattle.sap_theory.specs.SignatureText.{spelling, all_builtins}
use Rattle.sap_theory.proofs.Listing.{IsBegun, passed}
use Rattle.sap_theory.proofs.signature.push_builtins.Given as goal

abbrev pub invariant-loop-b : goal.invariant-loop-b
invariant-loop-b l = IsBegun (codes "\nbuiltins: ") l.initial.text (passed (has_builtin l.sig) spelling all_builtins l.b-index) l.text l.is_first
