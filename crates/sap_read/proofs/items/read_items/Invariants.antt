use Rattle.std.proofs.Common.{ℕ, length}
use Rattle.sap_grammar.specs.Cut.{placed}
use Rattle.sap_read.specs.ItemGrammar.{IsFaultyFile}
use Rattle.sap_read.specs.code.ItemView.{AreLocatedBehind, IsGoodBehind}
use Rattle.sap_grammar.specs.ItemReading.{cut}
use Rattle.sap_read.proofs.items.read_items.Given as goal

abbrev pub invariant-loop-rest : goal.invariant-loop-rest
invariant-loop-rest l = record {
  good : IsGoodBehind l.fn.sig l.fn.bytes l.fn.tokens l.rest l.entries l.statements;
  located : AreLocatedBehind l.fn.sig l.fn.bytes l.fn.tokens l.rest l.entries;
  faulty : (n : ℕ) → IsFaultyFile l.fn.last (cut (placed l.fn.bytes l.rest)) n → IsFaultyFile l.fn.last (cut (placed l.fn.bytes l.fn.tokens)) n;
}

abbrev pub decreases-loop-rest : goal.decreases-loop-rest
decreases-loop-rest l = length l.rest
