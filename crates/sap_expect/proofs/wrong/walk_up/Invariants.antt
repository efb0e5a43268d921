use Rattle.std.specs.Prelude.{take}
use Rattle.sap_grammar.specs.Words.{words_of}
use Rattle.sap_expect.proofs.WalkedUp.{Gone}
use Rattle.sap_expect.proofs.wrong.walk_up.Given as goal

abbrev pub invariant-loop-k : goal.invariant-loop-k
invariant-loop-k l = Gone (take l.k (words_of l.bytes l.tokens)) l.way
