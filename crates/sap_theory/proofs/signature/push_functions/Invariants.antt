use Rattle.sap_theory.proofs.Functions.{heading, done}
use Rattle.sap_theory.proofs.Listing.{IsBegun}
use Rattle.sap_theory.proofs.signature.push_functions.Given as goal

abbrev pub invariant-loop-s : goal.invariant-loop-s
invariant-loop-s l = IsBegun heading l.initial.text (done l.sig l.s-items l.s-index) l.text l.is_first
