use Rattle.std.proofs.Common.{◌≡◌, drop}
use Rattle.sap_terms.specs.Signature.{first_clash}
use Rattle.sap_terms.proofs.signature.first_clash.Given as goal

abbrev pub invariant-loop-k : goal.invariant-loop-k
invariant-loop-k l = first_clash l.symbols l.added ≡ first_clash l.symbols (drop l.k l.added)
