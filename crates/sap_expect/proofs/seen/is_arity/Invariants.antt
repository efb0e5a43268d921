use Rattle.std.proofs.Common.{◌≡◌, ◌≤◌, drop}
use Rattle.sap_terms.specs.declared.limits.TheConstants.{MOST_ARITY}
use Rattle.sap_grammar.specs.Declarations.{value, value_from}
use Rattle.sap_expect.proofs.seen.is_arity.Given as goal

abbrev pub invariant-loop-digit : goal.invariant-loop-digit
invariant-loop-digit l = (l.arity ≤ MOST_ARITY) × (value l.digits ≡ value_from l.arity (drop l.digit-index l.digits))
