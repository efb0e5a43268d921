use Rattle.std.proofs.Common.{ℕ, length}
use Rattle.sap_grammar.specs.Cut.{placed}
use Rattle.sap_grammar.specs.ItemReading.{cut}
use Rattle.sap_theory.specs.WrittenItems.{IsFaultyTheory}
use Rattle.sap_theory.specs.code.ItemView.{IsGoodBehind}
use Rattle.sap_theory.proofs.reading.items.read_items.Given as goal

abbrev pub invariant-loop-rest : goal.invariant-loop-rest
invariant-loop-rest l = record {
  good : IsGoodBehind l.fn.sig l.fn.bytes l.fn.tokens l.rest l.contents.rules l.contents.statements;
  faulty : (n : ℕ) → IsFaultyTheory l.fn.last (cut (placed l.fn.bytes l.rest)) n → IsFaultyTheory l.fn.last (cut (placed l.fn.bytes l.fn.tokens)) n;
}

abbrev pub decreases-loop-rest : goal.decreases-loop-rest
decreases-loop-rest l = length l.rest
