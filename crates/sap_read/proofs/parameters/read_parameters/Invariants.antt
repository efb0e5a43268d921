use Rattle.std.proofs.Common.{◌≡◌, length}
use Rattle.sap_grammar.specs.Words.{words_of}
use Rattle.sap_read.specs.code.Parameters.{in_front, params_in}
use Rattle.sap_read.proofs.parameters.read_parameters.Given as goal

abbrev pub invariant-loop-rest : goal.invariant-loop-rest
invariant-loop-rest l = params_in (words_of l.bytes l.tokens) ≡ in_front l.params (params_in (words_of l.bytes l.rest))

abbrev pub decreases-loop-rest : goal.decreases-loop-rest
decreases-loop-rest l = length l.rest
